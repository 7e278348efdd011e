-- What each step does to the traces of a session's levels: the versions that the ids of a level made or deleted.
use Rattle.std.proofs.Common.{◌≡◌, ℕ, zero, suc, List, [], ◌∷◌, ◌++◌, Option, Some, None, refl, sym, ap, ◌∙◌, subst, ◌⊎◌, inl, inr}
use Rattle.std.specs.Prelude.{IsSome, Contains}
use Rattle.std.specs.Option.{option_or}
use Rattle.std.proofs.lemmas.Bool.{cases_eq}
use Rattle.std.proofs.lemmas.Option.{same_Some}
use Rattle.std.proofs.lemmas.List.Elements.{Contains-append_left}
use Rattle.xid_circle.specs.declared.Tid.{Tid}
use Rattle.tuple_header.specs.declared.version.Row.{Row}
use Rattle.tuple_header.specs.Version.{Version}
use Rattle.commit_status.specs.declared.status.Status.{Status}
use Rattle.history.specs.History.{Write, Transaction, written}
use Rattle.history.specs.Moves.{add_write}
use Rattle.history.proofs.HistoryLemmas.{written-append, IsSome-or_second, IsSome-or_first}
use Rattle.visibility.specs.Seeing.{Touches, made_by, deleted_by, deleter}
use Rattle.refinement.specs.Visible.{IsBy, At}
use Rattle.snapshot.specs.Own.{saved_with}
use Rattle.refinement.specs.Changes.{AddsVersion, Alters}
use Rattle.refinement.specs.Agrees.{Traced, LevelTraces, LevelsAgree}
use Rattle.refinement.proofs.Versions.{SomeVersion-adds, SomeVersion-alters, Adds-cases, Alters-cases, own-untouched}
use Rattle.refinement.proofs.Readers.{IsNew, IsDeleted, touches_new, wrote_same, wrote_before, wrote_still}

-- One level, whose ids are those of P.

-- the ids that touch versions are as before, and so are the keys that are written
pub Traced-same : {store : Tid → Option Version} {P Q : ℕ → Type 0} {writes writes' : List Write}
    → ((p : Tid) (x : ℕ) (v : Version) → At store p v → Touches x v.header → P x → Q x) → ((p : Tid) (x : ℕ) (v : Version) → At store p v → Touches x v.header → Q x → P x)
    → ((k : ℕ) → written writes' k ≡ written writes k) → Traced store P writes → Traced store Q writes'
Traced-same to back alike h = record {
  written_there = λ k wrote. let some = h.written_there k (subst (λ o. IsSome o) (alike k) wrote) in (some.0, some.1, some.2, some.3, (some.4.0, some.4.1, to some.0 some.4.0 some.1 some.2 some.4.1 some.4.2));
  there_written = λ p v at by. subst (λ o. IsSome o) (sym (alike v.row.key)) (h.there_written p v at (by.0, by.1, back p by.0 v at by.1 by.2));
}

-- no id, and no write
pub Traced-none : {store : Tid → Option Version} {P : ℕ → Type 0} → ((x : ℕ) → ¬ P x) → Traced store P []
Traced-none none = record { written_there = λ k wrote. cc; there_written = λ p v at by. absurd (none by.0 by.2) }

pub Traced-add_other : {store store' : Tid → Option Version} {P : ℕ → Type 0} {writes : List Write} (x : ℕ) (place : Tid) (new : Version)
    → AddsVersion store store' place new → IsNew x new → ¬ P x → Traced store P writes → Traced store' P writes
Traced-add_other {store} {store'} {P} {writes} x place new adds is_new foreign h = record {
  written_there = λ k wrote. SomeVersion-adds adds k (IsBy P) (h.written_there k wrote);
  there_written = λ p v at by. elim (Adds-cases adds p v at) [
    | inl old ↦ h.there_written p v old by
    | inr now ↦ absurd (foreign (subst P (touches_new by.0 is_new (subst (λ (u : Version). Touches by.0 u.header) now.1 by.1)) by.2))
  ];
}

pub Traced-delete_other : {store store' : Tid → Option Version} {P : ℕ → Type 0} {writes : List Write} (x : ℕ) (place : Tid) (old new : Version)
    → Alters store store' place old new → IsDeleted x old new → ¬ P x → ((y : ℕ) → deleter old.header ≡ Some y → ¬ P y) → Traced store P writes → Traced store' P writes
Traced-delete_other {store} {store'} {P} {writes} x place old new alters deleted foreign idle h = record {
  written_there = λ k wrote. SomeVersion-alters alters k (IsBy P) (IsBy P) same_key still (λ p u bt by. by) (h.written_there k wrote);
  there_written = λ p u bt by. elim (Alters-cases alters p u bt) [
    | inl same ↦ subst (λ k. IsSome (written writes k)) (sym (ap (λ (u : Version). u.row.key) same.1 ∙ same_key)) (h.there_written place old alters.before (was (subst (λ (u : Version). IsBy P u) same.1 by)))
    | inr other ↦ h.there_written p u other.1 by
  ];
}
  where
    same_key : new.row.key ≡ old.row.key
    same_key = ap (λ (r : Row). r.key) deleted.same_row

    still : IsBy P old → IsBy P new
    still (y, made_by is, p) = (y, made_by (deleted.same_maker ∙ is), p)
    still (y, deleted_by is, p) = absurd (idle y is p)

    was : IsBy P new → IsBy P old
    was (y, made_by is, p) = (y, made_by (sym deleted.same_maker ∙ is), p)
    was (y, deleted_by is, p) = absurd (foreign (subst P (same_Some y x (sym is ∙ deleted.by)) p))

-- the level writes a row
pub Traced-insert : {store store' : Tid → Option Version} {P : ℕ → Type 0} {writes : List Write} (start x : ℕ) (place : Tid) (new : Version)
    → AddsVersion store store' place new → IsNew x new → P x → Traced store P writes → Traced store' P (writes ++ record { start = start; key = new.row.key; row = Some new.row } ∷ [])
Traced-insert {store} {store'} {P} {writes} start x place new adds is_new mine h = record {
  written_there = λ k wrote. elim (cases_eq k new.row.key) [
    | inl same ↦ (place, new, adds.here, sym same, (x, made_by is_new.made, mine))
    | inr ne ↦ SomeVersion-adds adds k (IsBy P) (h.written_there k (wrote_before writes write k ne wrote))
  ];
  there_written = λ p v at by. elim (Adds-cases adds p v at) [
    | inl old ↦ wrote_still writes write v.row.key (h.there_written p v old by)
    | inr now ↦ wrote_same writes write v.row.key (ap (λ (u : Version). u.row.key) now.1)
  ];
}
  where
    write : Write
    write = record { start = start; key = new.row.key; row = Some new.row }

-- it deletes a version
pub Traced-delete : {store store' : Tid → Option Version} {P : ℕ → Type 0} {writes : List Write} (start x : ℕ) (place : Tid) (old new : Version)
    → Alters store store' place old new → IsDeleted x old new → P x → Traced store P writes → Traced store' P (writes ++ record { start = start; key = old.row.key; row = None } ∷ [])
Traced-delete {store} {store'} {P} {writes} start x place old new alters deleted mine h = record {
  written_there = λ k wrote. elim (cases_eq k old.row.key) [
    | inl same ↦ (place, new, alters.here, same_key ∙ sym same, (x, deleted_by deleted.by, mine))
    | inr ne ↦ SomeVersion-alters alters k (IsBy P) (IsBy P) same_key (λ by. (x, deleted_by deleted.by, mine)) (λ p u bt by. by) (h.written_there k (wrote_before writes write k ne wrote))
  ];
  there_written = λ p u bt by. elim (Alters-cases alters p u bt) [
    | inl same ↦ wrote_same writes write u.row.key (ap (λ (u : Version). u.row.key) same.1 ∙ same_key)
    | inr other ↦ wrote_still writes write u.row.key (h.there_written p u other.1 by)
  ];
}
  where
    write : Write
    write = record { start = start; key = old.row.key; row = None }

    same_key : new.row.key ≡ old.row.key
    same_key = ap (λ (r : Row). r.key) deleted.same_row

-- a level joins the one below

or_cases : {A : Type 0} (o p : Option A) → IsSome (option_or o p) → IsSome o ⊎ IsSome p
or_cases None p some = inr some
or_cases (Some x) p some = inl refl

pub Traced-join : {store : Tid → Option Version} {P Q R : ℕ → Type 0} (writes below : List Write) → ((x : ℕ) → R x → P x ⊎ Q x) → ((x : ℕ) → P x → R x) → ((x : ℕ) → Q x → R x)
    → Traced store P writes → Traced store Q below → Traced store R (below ++ writes)
Traced-join {store} {P} {Q} {R} writes below either first second h g = record {
  written_there = λ k wrote. elim (or_cases (written writes k) (written below k) (subst (λ o. IsSome o) (written-append below writes k) wrote)) [
    | inl new ↦ (let some = h.written_there k new in (some.0, some.1, some.2, some.3, (some.4.0, some.4.1, first some.4.0 some.4.2)))
    | inr old ↦ (let some = g.written_there k old in (some.0, some.1, some.2, some.3, (some.4.0, some.4.1, second some.4.0 some.4.2)))
  ];
  there_written = λ p v at by. subst (λ o. IsSome o) (sym (written-append below writes v.row.key)) (elim (either by.0 by.2) [
    | inl new ↦ IsSome-or_first (written writes v.row.key) (written below v.row.key) (h.there_written p v at (by.0, by.1, new))
    | inr old ↦ IsSome-or_second (written writes v.row.key) (written below v.row.key) (g.there_written p v at (by.0, by.1, old))
  ]);
}

-- All levels.

-- what each savepoint had, the next has
abbrev pub Nested : List ℕ → List (List ℕ) → Type 0
Nested own [] = Unit {0}
Nested own (before ∷ saved) = ((x : ℕ) → Contains before x → Contains own x) × Nested before saved

pub nested_of : (status : ℕ → Option Status) (store : Tid → Option Version) (history : List Transaction) (sees : ℕ → Type 0) (start : ℕ) (own : List ℕ) (saved : List (List ℕ)) (levels : List (List Write))
    → LevelsAgree status store history sees start own saved levels → Nested own saved
nested_of _ _ _ _ _ own [] levels h = tt
nested_of _ _ _ _ _ own (before ∷ saved) [] h = absurd h
nested_of status store history sees start own (before ∷ saved) (ws ∷ levels) h = (h.1, nested_of status store history sees start before saved levels h.2)

-- the id is of the newest level: the session has it, and had it not at its newest savepoint
abbrev pub IsOfNewest : List ℕ → List (List ℕ) → ℕ → Type 0
IsOfNewest own [] x = Contains own x
IsOfNewest own (before ∷ saved) x = Contains own x × (¬ Contains before x)

-- level by level
pub LevelTraces-map : {store store' : Tid → Option Version} (own : List ℕ) (saved : List (List ℕ)) (levels : List (List Write)) → Nested own saved
    → ((P : ℕ → Type 0) (writes : List Write) → ((x : ℕ) → P x → Contains own x) → Traced store P writes → Traced store' P writes)
    → LevelTraces store own saved levels → LevelTraces store' own saved levels
LevelTraces-map own [] [] nested to h = absurd h
LevelTraces-map own [] (ws ∷ []) nested to h = to (IsOfNewest own []) ws (λ x mine. mine) h
LevelTraces-map own [] (ws ∷ (vs ∷ levels)) nested to h = absurd h
LevelTraces-map own (before ∷ saved) [] nested to h = absurd h
LevelTraces-map own (before ∷ saved) (ws ∷ levels) nested to h =
    (to (IsOfNewest own (before ∷ saved)) ws (λ x mine. mine.0) h.0, LevelTraces-map before saved levels nested.1 (λ P writes within. to P writes (λ x p. nested.0 x (within x p))) h.1)

-- a write: the newest level has it, and the others have not
pub LevelTraces-write : {store store' : Tid → Option Version} (x : ℕ) (new : Write) (own : List ℕ) (saved : List (List ℕ)) (levels : List (List Write)) → Nested own saved → IsOfNewest own saved x
    → ((P : ℕ → Type 0) (writes : List Write) → P x → Traced store P writes → Traced store' P (writes ++ new ∷ []))
    → ((P : ℕ → Type 0) (writes : List Write) → ¬ P x → ((y : ℕ) → P y → Contains own y) → Traced store P writes → Traced store' P writes)
    → LevelTraces store own saved levels → LevelTraces store' own saved (add_write new levels)
LevelTraces-write x new own [] [] nested mine here there h = absurd h
LevelTraces-write x new own [] (ws ∷ []) nested mine here there h = here (IsOfNewest own []) ws mine h
LevelTraces-write x new own [] (ws ∷ (vs ∷ levels)) nested mine here there h = absurd h
LevelTraces-write x new own (before ∷ saved) [] nested mine here there h = absurd h
LevelTraces-write x new own (before ∷ saved) (ws ∷ levels) nested mine here there h = (
  here (IsOfNewest own (before ∷ saved)) ws mine h.0,
  LevelTraces-map before saved levels nested.1 (λ P writes within. there P writes (λ p. mine.1 (within x p)) (λ y p. nested.0 y (within y p))) h.1,
)

-- an id that touches nothing is given
pub LevelTraces-give : {store : Tid → Option Version} (n x : ℕ) (own : List ℕ) (saved : List (List ℕ)) (levels : List (List Write)) → ((p : Tid) (v : Version) → At store p v → ¬ Touches x v.header)
    → LevelTraces store own saved levels → LevelTraces store (own ++ x ∷ []) (saved_with n x saved) levels
LevelTraces-give {store} n x own saved levels untouched h = given n own saved levels h
  where
    lowest : (own : List ℕ) (ws : List Write) → Traced store (λ y. Contains own y) ws → Traced store (λ y. Contains (own ++ x ∷ []) y) ws
    lowest own ws h = Traced-same (λ p y v at touch mine. Contains-append_left own (x ∷ []) y mine) (own-untouched x own untouched) (λ k. refl) h

    given : (n : ℕ) (own : List ℕ) (saved : List (List ℕ)) (levels : List (List Write)) → LevelTraces store own saved levels → LevelTraces store (own ++ x ∷ []) (saved_with n x saved) levels
    given n own [] [] h = absurd h
    given zero own [] (ws ∷ []) h = lowest own ws h
    given (suc n) own [] (ws ∷ []) h = lowest own ws h
    given n own [] (ws ∷ (vs ∷ rest)) h = absurd h
    given n own (before ∷ saved) [] h = absurd h
    given zero own (before ∷ saved) (ws ∷ rest) h = (
      Traced-same (λ p y v at touch is. (Contains-append_left own (x ∷ []) y is.0, is.1)) (λ p y v at touch is. (own-untouched x own untouched p y v at touch is.0, is.1)) (λ k. refl) h.0,
      h.1,
    )
    given (suc n) own (before ∷ saved) (ws ∷ rest) h = (
      Traced-same (λ p y v at touch is. (Contains-append_left own (x ∷ []) y is.0, λ among. is.1 (own-untouched x before untouched p y v at touch among)))
          (λ p y v at touch is. (own-untouched x own untouched p y v at touch is.0, λ among. is.1 (Contains-append_left before (x ∷ []) y among))) (λ k. refl) h.0,
      given n before saved rest h.1,
    )
