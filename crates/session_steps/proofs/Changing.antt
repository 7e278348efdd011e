-- The version that a session may change is one that it reads, and nothing keeps it from writing the key.
use Rattle.std.proofs.Common.{◌≡◌, ℕ, Some, None, sym, ◌∙◌, subst, inl, inr}
use Rattle.std.proofs.lemmas.Option.{same_Some}
use Rattle.xid_circle.specs.declared.Tid.{Tid}
use Rattle.tuple_header.specs.Version.{Version}
use Rattle.visibility.specs.Seeing.{deleter}
use Rattle.history.specs.History.{IsLate}
use Rattle.history.specs.World.{World, Holds, start_now}
use Rattle.refinement.specs.Finds.{Free}
use Rattle.refinement.proofs.Uncontested.{uncontested}
use Rattle.refinement.proofs.Hindrances.{holder_holds}
use Rattle.sessions.specs.declared.session.Session.{Session}
use Rattle.session_steps.specs.State.{State, seen, reader_of}
use Rattle.session_steps.specs.Agrees.{Agrees}
use Rattle.session_steps.specs.Tests.{MayAct, MayChangeKey, SeesUndeleted}
use Rattle.session_steps.proofs.Owns.{reader-is}
use Rattle.session_steps.proofs.Statements.{statement-sees}
use Rattle.session_steps.proofs.Searches.{IsTarget, place-to, begins-some, free-with}

-- by the index, or by its place
pub change-target : (st : State) (w : World) (s : ℕ) (e : Session) (key : ℕ) (p : Tid) → MayAct st s e → MayChangeKey st e key p → Agrees st w → (t : Version) × IsTarget st e key p t
change-target st w s e key p acts may agrees = elim may [
  | inl found ↦ place-to st w s e key (Some p) agrees acts.1 found.0
  | inr found ↦ (
    found.version,
    record {
      there = found.there;
      of_key = found.of_key;
      seen = (statement-sees st agrees.sound.window e.isolation e.own.ids found.version).0 found.meets.0;
    },
  )
]

module _ (st : State) (w : World) (s : ℕ) (e : Session) (key : ℕ) (p : Tid) (t : Version) (acts : MayAct st s e) (agrees : Agrees st w) (target : IsTarget st e key p t) where
  undeleted : SeesUndeleted st.heap e key p → deleter t.header ≡ None
  undeleted found = subst (λ (v : Version). deleter v.header ≡ None) (same_Some found.version t (sym found.there ∙ target.there)) found.meets.1

  -- where it is seen, undeleted, by its place: by the law
  by_place : SeesUndeleted st.heap e key p → Free (seen st) s (reader_of e) key (Some t.row)
  by_place found =
      let at = reader-is st s e acts.1 in
      let open_ = agrees.found.opened s (reader_of e) at in
      let law = uncontested (seen st) w s (reader_of e) open_.0 p t agrees.found at open_.1 target.there target.seen (undeleted found) in
      record {
        begins = begins-some st s e key p t acts target;
        timely = λ late. law.in_time (subst (λ k. IsLate w.history (start_now w.history open_.0) k) (late.3 ∙ sym target.of_key) (open_.2.traces.missed_late late.0 late.1 late.2 late.4));
        unheld = λ x held.
            let owner = agrees.found.owned x held.4.active in
            let holds = holder_holds (seen st) w s owner.0 (reader_of e) owner.1 key x at owner.2 owner.3 held agrees.found in
            law.unheld owner.0 holds.0 (subst (λ k. Holds w owner.0 k) (sym target.of_key) holds.1);
      }

  -- nothing keeps it from writing the key
  pub change-free : MayChangeKey st e key p → Free (seen st) s (reader_of e) key (Some t.row)
  change-free may = elim may [
    | inl found ↦ free-with st w s e key (Some t.row) agrees (begins-some st s e key p t acts target) found.1
    | inr found ↦ by_place found
  ]
