use Rattle.std.proofs.Common.{ℕ, ◌≡◌, ◌<◌, length, List, Some, None, sym, ◌∙◌, subst, arith}
use Rattle.std.specs.Prelude.{Contains}
use Rattle.commit_status.specs.Changes.{Finishes}
use Rattle.sessions.specs.Places.{open_at}
use Rattle.session_steps.proofs.StateLemmas.{keeps-close, keeps-shut}
use Rattle.sessions.proofs.Taking.{none-unless}
use Rattle.session_steps.proofs.engine.SessionEngine.close.Goals as goal
use Rattle.session_steps.proofs.engine.SessionEngine.close.Goals.{in-Some, in_default}

pub finish-requires : goal.finish-requires
finish-requires c = λ x among.
    let P : List ℕ → Type 0 = λ ids. Contains ids x in
    c.self.invariant.own.active c.args.s c.in-Some.session x (c.place_mut-place.ensures.value ∙ c.in-Some.is) (subst P c.as_slice.ensures among)

pub invariant_of-self : goal.invariant_of-self
invariant_of-self c = elim c.match-place.branch [
  | in-Some w ↦
      let at = c.place_mut-place.ensures.value ∙ w.in-Some.is in
      rw w.self-inside-is (keeps-close c.self.inside.sessions c.self.inside.heap.statuses _ c.args.s w.in-Some.session c.args.status at c.requires.finishes
      (subst (λ ids. Finishes c.self.inside.heap.statuses w.finish.new.self.statuses ids c.args.status) w.as_slice.ensures w.finish.ensures.finishes) c.self.invariant)
  | in_default w ↦
      let within : c.args.s < length c.self.inside.sessions = omega (arith, c.requires.within, c.self.invariant.count) in
      let idle = c.place_mut-place.ensures.value ∙ none-unless c.place_mut-place.result.now w.in_default.not-Some in
      rw w.self-inside-is (keeps-shut c.self.inside.sessions c.self.inside.heap.statuses c.args.s within idle c.self.invariant)
]
