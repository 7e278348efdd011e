-- The own ids of all open sessions, and the snapshot that is taken of them.
use Rattle.std.proofs.Common.{◌≡◌, ℕ, zero, suc, ◌<◌, List, [], ◌∷◌, Option, Some, None, slice_get, refl, sym, ap, ◌∙◌, subst, inl, inr, arith}
use Rattle.std.specs.Prelude.{Contains}
use Rattle.std.specs.Option.{option_map}
use Rattle.std.proofs.lemmas.Option.{same_Some, none-some}
use Rattle.xid_circle.proofs.Members.{Contains-first, Contains-rest, Contains-cases}
use Rattle.commit_status.specs.Window.{next_id, top_of}
use Rattle.snapshot.specs.Snap.{Snap, Sees, taken}
use Rattle.snapshot.specs.Laws.{AreOpen, IsInWindow}
use Rattle.snapshot.proofs.Sights.{open-unseen}
use Rattle.snapshot.proofs.Takes.{taken-in_window}
use Rattle.forgetting.proofs.Fresh.{fresh-seen}
use Rattle.history.specs.World.{World}
use Rattle.visibility.proofs.Makers.{active-to, active-from, committed-to}
use Rattle.refinement.specs.Heap as relation
use Rattle.refinement.specs.Visible.{IsFreshSnapshot}
use Rattle.sessions.specs.declared.session.Session.{Session}
use Rattle.visibility.specs.Visible.{state_of}
use Rattle.session_steps.specs.State.{State, session_at, seen, reader_of}
use Rattle.sessions.specs.Session.{owns_of}
use Rattle.session_steps.specs.Agrees.{Agrees}
use Rattle.sessions.specs.Places.{open_at}

pub owns-some : (xs : List (Option Session)) (s : ℕ) (e : Session) → open_at xs s ≡ Some e → Contains (owns_of xs) e.own.ids
owns-some [] s e at = cc
owns-some (None ∷ xs) zero e at = cc
owns-some (None ∷ xs) (suc s) e at = owns-some xs s e at
owns-some (Some f ∷ xs) zero e at = subst (λ (g : Session). Contains (f.own.ids ∷ owns_of xs) g.own.ids) (same_Some f e at) (Contains-first f.own.ids (owns_of xs))
owns-some (Some f ∷ xs) (suc s) e at = Contains-rest f.own.ids e.own.ids (owns_of xs) (owns-some xs s e at)

pub owns-cases : (xs : List (Option Session)) (own : List ℕ) → Contains (owns_of xs) own → (s : ℕ) × (e : Session) × (open_at xs s ≡ Some e) × (e.own.ids ≡ own)
owns-cases [] own among = absurd (let below : among.0 < 0 = among.1 in omega arith)
owns-cases (None ∷ xs) own among = let some = owns-cases xs own among in (suc some.0, some.1, some.2, some.3)
owns-cases (Some f ∷ xs) own among = elim (Contains-cases f.own.ids own (owns_of xs) among) [
  | inl here ↦ (0, f, refl, here)
  | inr there ↦ (let some = owns-cases xs own there in (suc some.0, some.1, some.2, some.3))
]

-- a session as readers see it is one of the engine's
pub reader-at : (st : State) (s : ℕ) (r : relation.SeenSession) → (seen st).session s ≡ Some r → (e : Session) × (session_at st s ≡ Some e) × (reader_of e ≡ r)
reader-at st s r at = of (session_at st s) refl
  where
    of : (o : Option Session) → session_at st s ≡ o → (e : Session) × (session_at st s ≡ Some e) × (reader_of e ≡ r)
    of None is = absurd (none-some r (sym (ap (option_map reader_of) is) ∙ at))
    of (Some e) is = (e, is, same_Some (reader_of e) r (sym (ap (option_map reader_of) is) ∙ at))

pub reader-is : (st : State) (s : ℕ) (e : Session) → session_at st s ≡ Some e → (seen st).session s ≡ Some (reader_of e)
reader-is st s e at = ap (option_map reader_of) at

pub are-open : (st : State) (w : World) → Agrees st w → AreOpen st.heap.statuses (owns_of st.sessions)
are-open st w agrees = record {
  active = λ own x among mine. let some = owns-cases st.sessions own among in
      active-to st.heap.statuses x ((agrees.found.opened some.0 (reader_of some.1) (reader-is st some.0 some.1 some.2)).2.own_active x (subst (λ ids. Contains ids x) (sym some.3) mine));
  topmost = λ own x among mine. let some = owns-cases st.sessions own among in
      subst (λ ids. slice_get ids 0 ≡ Some (top_of st.heap.statuses x)) some.3 ((agrees.sound.sessions some.0 some.1 some.2).topmost x (subst (λ ids. Contains ids x) (sym some.3) mine));
  all = λ x active. let by = agrees.found.owned x (active-from st.heap.statuses x active) in
      let e = reader-at st by.0 by.1 by.2 in
      (e.0.own.ids, owns-some st.sessions by.0 e.0 e.1, subst (λ (r : relation.SeenSession). Contains r.own x) (sym e.2) by.3);
}

-- the snapshot that is taken now
abbrev pub now_taken : State → Snap
now_taken st = taken (next_id st.heap.statuses) (owns_of st.sessions)

pub taken-fresh : (st : State) (w : World) → Agrees st w → IsFreshSnapshot (state_of st.heap.statuses) (λ x. Sees (now_taken st) st.heap.statuses x)
taken-fresh st w agrees = record {
  finished = λ x done. let d = committed-to st.heap.statuses x done in
      fresh-seen st.heap.statuses (owns_of st.sessions) x agrees.sound.window (are-open st w agrees) d (agrees.sound.tops x d);
  active = λ x active. open-unseen st.heap.statuses st.heap.statuses (owns_of st.sessions) x agrees.sound.window (are-open st w agrees) (active-to st.heap.statuses x active) refl;
}

pub taken-within : (st : State) (w : World) → Agrees st w → IsInWindow st.heap.statuses (now_taken st)
taken-within st w agrees = taken-in_window st.heap.statuses (owns_of st.sessions) agrees.sound.window (are-open st w agrees)
