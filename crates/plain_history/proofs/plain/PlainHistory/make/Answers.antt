use Rattle.std.proofs.Common.{◌≡◌, ◌∙◌, ◌<◌, ◌+◌, ℕ, List, Bool, set, length, cond, nat_eq, true, sym, subst, ap, arith}
use Rattle.std.proofs.lemmas.List.{with_items_is}
use Rattle.history.specs.Moves.{is_open_by_snapshot, with_made_index}
use Rattle.plain_history.specs.Plain.{Plain, session_in, too_new_in, world_of}
use Rattle.plain_history.proofs.MakingLemmas.{world-made}
use Rattle.plain_history.proofs.plain.PlainHistory.make.Goals as goal

pub returns : goal.returns
returns c =
    let p : Plain = record { history = c.self.inside.history; sessions = c.self.inside.sessions.items; waits = c.self.inside.waits.items; indexed = c.self.inside.indexed; too_new = c.self.inside.too_new.items; has_vacuum = c.self.inside.vacuuming } in
    let within : c.args.column < length c.self.inside.indexed = omega arith in
    let marked : (s i : ℕ) → too_new_in c.mark_all.new.too_new s i ≡ cond (nat_eq i (c.args.column + 1)) (is_open_by_snapshot (session_in p.sessions s)) (too_new_in p.too_new s i) = λ s i.
    c.mark_all.ensures.marks s i
    ∙ (ap (λ l. cond (nat_eq i (c.args.column + 1)) (is_open_by_snapshot (session_in l s)) (too_new_in c.deref_mut.result.now s i)) c.deref.ensures.value
    ∙ ap (λ m. cond (nat_eq i (c.args.column + 1)) (is_open_by_snapshot (session_in p.sessions s)) (too_new_in m s i)) c.deref_mut.ensures.value) in
    let same : length c.mark_all.new.too_new ≡ c.self.inside.too_new.len = c.mark_all.ensures.same ∙ (ap (λ m. length m) c.deref_mut.ensures.value ∙ sym c.self.inside.too_new.ok.0) in
    ap (λ (m : List (List Bool)). world_of (record p { indexed = set p.indexed c.args.column true; too_new = m })) (with_items_is c.self.inside.too_new c.mark_all.new.too_new same)
    ∙ subst (λ (q : Plain). world_of (record p { indexed = set p.indexed c.args.column true; too_new = c.mark_all.new.too_new }) ≡ with_made_index (world_of q) (c.args.column + 1)) c.self.view_is
    (world-made p c.args.column c.mark_all.new.too_new within marked)
