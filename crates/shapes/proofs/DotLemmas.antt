-- The dot beside a version, by what an explanation shows first at its place.
use Rattle.std.proofs.Common.{◌≡◌, ℕ, Bool, true, false, List, [], ◌∷◌, ◌++◌, Option, Some, None, refl, sym, ap, ◌∙◌, subst}
use Rattle.std.specs.Prelude.{IsSome}
use Rattle.std.proofs.lemmas.Option.{same_Some}
use Rattle.xid_circle.specs.declared.Tid.{Tid}
use Rattle.tuple_header.specs.Version.{Version}
use Rattle.page_sheet.specs.Slots.{version_at}
use Rattle.reasons.specs.declared.reason.Verdict.{Verdict}
use Rattle.reasons.specs.Reasons.{IsVerdictIn, verdict_shows}
use Rattle.reasons.proofs.VerdictLemmas.{verdict-decides}
use Rattle.sound_page.proofs.ChainPlaces.{first-normal}
use Rattle.explanations.specs.declared.versions.ShownVersion.{ShownVersion}
use Rattle.sessions.specs.declared.session.Session.{Session}
use Rattle.sessions.specs.Session.{statement_snapshot}
use Rattle.session_steps.specs.State.{State, session_at}
use Rattle.session_looks.specs.Explaining.{IsExplained}
use Rattle.shape_list.specs.declared.shape.Shape.{Shape}
use Rattle.shape_list.specs.declared.shape.Shape.TheVariants as shape
use Rattle.shape_list.specs.declared.shape.DotShape.{DotShape}
use Rattle.shapes.specs.Shapes.{Adds, IsDotShape, IsDotPiece, AreDots, ArePieces, slots_at, version_of_place}
use Rattle.shapes.proofs.Adding.{adds-one}

abbrev pub dot_of : Tid → ℕ → Bool → Verdict → DotShape
dot_of place s filled verdict = record { place = place; session = s; filled = filled; verdict = verdict }

-- the chain of a place with a version begins there
shown-slot : (st : State) (e : Session) (place : Tid) (t : Version) (shown : ShownVersion) → version_of_place st place ≡ Some t → IsExplained st e place 0 (Some shown)
    → shown.slot ≡ place.slot
shown-slot st e place t shown at told = same_Some shown.slot place.slot (sym told.shown.0 ∙ told.is_chain.start ∙ first-normal (slots_at st place.page) place.slot t at)

-- so it is that version that is shown
shown-verdict : (st : State) (e : Session) (place : Tid) (t : Version) (shown : ShownVersion) → version_of_place st place ≡ Some t → IsExplained st e place 0 (Some shown)
    → IsVerdictIn st.heap.statuses (statement_snapshot st.heap.statuses e.isolation) e.own.ids t.header shown.verdict
shown-verdict st e place t shown at told =
    let slot = shown-slot st e place t shown at told in
    let same : told.shown.1.version ≡ t =
    same_Some told.shown.1.version t (sym told.shown.1.there ∙ ap (version_at (slots_at st place.page)) slot ∙ at) in
    subst (λ (v : Version). IsVerdictIn st.heap.statuses (statement_snapshot st.heap.statuses e.isolation) e.own.ids v.header shown.verdict) same told.shown.1.verdict

pub dot-added : (st : State) (place : Tid) (t : Version) (s : ℕ) (e : Session) (shown : ShownVersion) (filled : Bool) (old new : List Shape) → session_at st s ≡ Some e
    → version_of_place st place ≡ Some t → IsExplained st e place 0 (Some shown) → filled ≡ verdict_shows shown.verdict
    → new ≡ old ++ shape.Dot (dot_of place s filled shown.verdict) ∷ [] → Adds (IsDotPiece st place t s (session_at st s)) old new
dot-added st place t s e shown filled old new open_session at told is behind =
    let verdict = shown-verdict st e place t shown at told in
    let decides = verdict-decides st.heap.statuses (statement_snapshot st.heap.statuses e.isolation) e.own.ids t.header shown.verdict verdict in
    subst (λ (o : Option Session). Adds (IsDotPiece st place t s o) old new) (sym open_session)
    (adds-one (IsDotShape st place s e t) shape.Dot (dot_of place s filled shown.verdict) old new (record {
      place_is = refl;
      session = refl;
      verdict = verdict;
      filled = (λ seen. is ∙ decides.0 seen, λ so. decides.1 (sym is ∙ so));
    }) behind)

-- all dots beside a version

not-true : false ≡ true → ⊥
not-true e = cc

pub dots-beside : (st : State) (place : Tid) (o : Option Version) (n : ℕ) (old new : List Shape) → version_of_place st place ≡ o → IsSome o → n ≡ 64
    → ((t : Version) → version_of_place st place ≡ Some t → Adds (ArePieces (λ s. IsDotPiece st place t s (session_at st s)) n) old new) → Adds (AreDots st place o) old new
dots-beside st place None n old new is some end each = absurd (not-true some)
dots-beside st place (Some t) n old new is some end each = subst (λ k. Adds (ArePieces (λ s. IsDotPiece st place t s (session_at st s)) k) old new) end (each t is)
