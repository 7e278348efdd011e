-- What a vacuum holds after a step, as it is seen.
use Rattle.std.proofs.Common.{◌≡◌, ◌≢◌, ℕ, zero, suc, ◌+◌, ◌-◌, ◌<◌, ◌≤◌, ◌==◌, nat_lt, true, false, List, [], ◌∷◌, ◌++◌, length, map, take, drop, Some, None, if◌then◌else◌, inl, inr, ◌⊎◌, arith, refl, sym, ap, ◌∙◌, subst, ⊎_elim, Contains, slice_get}
use Rattle.std.proofs.lemmas.Bool.{cases_lt, eqb-true, eqb-false}
use Rattle.std.proofs.lemmas.List.{drop_all, length-drop, nil_from_length}
use Rattle.xid_circle.specs.declared.Tid.{Tid}
use Rattle.space_maps.specs.declared.mark.Mark.{Mark}
use Rattle.space_maps.specs.declared.mark.Mark.TheVariants.{Nothing}
use Rattle.space_maps.specs.View.{mark_on}
use Rattle.root_index.specs.declared.progress.Progress.{Progress}
use Rattle.calls.specs.declared.vacuum.Mode.{Mode}
use Rattle.calls.specs.declared.vacuum.Mode.TheVariants.{Normal, Aggressive}
use Rattle.vacuum_passes.specs.declared.vacuum.Phase.{Phase}
use Rattle.vacuum_passes.specs.declared.vacuum.Phase.TheVariants as phase
use Rattle.vacuum_passes.specs.View.{VacuumView, skips, places, space, phase_with, collected}
use Rattle.dead_places.specs.Places.{PlacePrecedes, AreAscending}
use Rattle.vacuum_passes.specs.Steps.{PhaseAfter, Frees, Drops, IsLowest, on_page, off_page, phase_left}
use Rattle.vacuum_passes.proofs.FreedPlaces.{on-places}
use Rattle.vacuum_passes.proofs.ListLemmas.{pairs-tail}
use Rattle.vacuum_passes.specs.Keeps.{IsVacuum, KeepsStore}
use Rattle.table_indexes.specs.Indexes.{IndexesView}
use Rattle.heap_write.specs.Heap.{HeapView}
use Rattle.freeze.specs.DeadSlots.{ListsDead}
use Rattle.vacuum_passes.specs.Visits.{Visits}
use Rattle.vacuum_passes.specs.Working.{FreesLast, CleansPage, FreesPage}
use Rattle.vacuum_passes.proofs.VacuumLemmas.{index-kept, off-kept}

-- Marks.

no-mark : (marks : List Mark) (n : ℕ) → slice_get marks n ≡ None → mark_on marks n ≡ Nothing
no-mark [] n none = refl
no-mark (m ∷ marks) zero none = absurd (let e : Some m ≡ None = none in cc)
no-mark (m ∷ marks) (suc n) none = no-mark marks n none

not-skipped : (mode : Mode) → false ≡ skips mode Nothing
not-skipped Normal = refl
not-skipped Aggressive = refl

pub unnoted : (mode : Mode) (marks : List Mark) (n : ℕ) → slice_get marks n ≡ None → false ≡ skips mode (mark_on marks n)
unnoted mode marks n none = not-skipped mode ∙ ap (skips mode) (sym (no-mark marks n none))

-- A visit.

pub none-freed : (p : Phase) (freed : ℕ) → p ≡ phase.Heap → FreesLast p freed → freed ≡ 0
none-freed p freed is last = subst (λ q. FreesLast q freed) is last

-- what it holds is what it shows
pub held : (freed : ℕ) (xs : List Tid) → freed ≡ 0 → drop freed xs ≡ xs
held freed xs none = ap (λ n. drop n xs) none

pub held-before : (v : VacuumView) (freed p : ℕ) (xs : List Tid) → IsVacuum v → v.phase ≡ phase.Heap → freed ≡ 0 → v.store ≡ drop freed xs → v.next ≤ p
    → (tid : Tid) → Contains xs tid → tid.page < p
held-before v freed p xs i is none shown onward tid there =
    let heap : (length v.store < v.limit) × ((tid : Tid) → Contains v.store tid → tid.page < v.next) = subst (KeepsStore v) is i.store in
    let lt : tid.page < v.next = heap.1 tid (subst (λ (ys : List Tid). Contains ys tid) (sym (shown ∙ held freed xs none)) there) in
    omega (arith, lt, onward)

pub held-few : (v : VacuumView) (freed : ℕ) (xs : List Tid) → IsVacuum v → freed ≡ 0 → v.store ≡ drop freed xs → length xs ≤ v.limit
held-few v freed xs i none shown = subst (λ (ys : List Tid). length ys ≤ v.limit) (shown ∙ held freed xs none) i.few

pub visited-is : (v : VacuumView) (p : ℕ) (dead : List ℕ) (freed next : ℕ) (old new : List Tid) (after : Phase) → freed ≡ 0 → v.store ≡ drop freed old
    → new ≡ old ++ places p (take (v.limit - length old) dead) → next ≡ (if nat_lt (v.limit - length old) (length dead) then p else p + 1) → after ≡ phase_with v.limit new → IsVacuum v
    → record v { next = next; store = drop freed new; phase = after } ≡ collected v p dead
visited-is v p dead freed next old new after none shown is onward to_phase keeps =
    let before : old ≡ v.store = sym (shown ∙ held freed old none) in
    let stored : new ≡ v.store ++ places p (take (space v) dead) = is ∙ ap (λ (ys : List Tid). ys ++ places p (take (v.limit - length ys) dead)) before in
    let to : next ≡ (if nat_lt (space v) (length dead) then p else p + 1) = onward ∙ ap (λ (ys : List Tid). if nat_lt (v.limit - length ys) (length dead) then p else p + 1) before in
    let phase_is : after ≡ phase_with v.limit (v.store ++ places p (take (space v) dead)) = to_phase ∙ ap (phase_with v.limit) stored in
    let shows : drop freed new ≡ v.store ++ places p (take (space v) dead) = held freed new none ∙ stored in
    ap (λ n. record v { next = n; store = drop freed new; phase = after }) to
    ∙ ap (λ (ys : List Tid). record v { next = (if nat_lt (space v) (length dead) then p else p + 1); store = ys; phase = after }) shows
    ∙ ap (λ q. record v { next = (if nat_lt (space v) (length dead) then p else p + 1); store = v.store ++ places p (take (space v) dead); phase = q }) phase_is

pub frees-none : (p : Phase) (freed : ℕ) → freed ≡ 0 → FreesLast p freed
frees-none phase.Heap freed none = none
frees-none (phase.Index i from) freed none = none
frees-none phase.Free freed none = tt

pub visit-says : (h h' : HeapView) (v w v' : VacuumView) (horizon p : ℕ) → v ≡ w → (page : CleansPage h h' horizon v.cutoff p) (dead : List ℕ) → ListsDead page.notes.page.slots dead
    → v' ≡ collected v p dead → Visits h h' w v' horizon p
visit-says h h' v w v' horizon p same page dead lists is = subst (λ (u : VacuumView). Visits h h' u v' horizon p) same (record {
  visited = page.visited;
  visits = page.visits;
  notes = page.notes;
  dead = dead;
  lists = lists;
  collects = is;
})

-- An index.

pub begun-index-kept : (v : VacuumView) (indexes : IndexesView) (i : ℕ) (progress : Progress) (after : Phase) → IsVacuum v → v.store ≢ []
    → PhaseAfter indexes i progress after → IsVacuum (record v { next = v.pages; phase = after })
begun-index-kept v indexes i progress after keeps some next = record {
  within = omega arith;
  some = keeps.some;
  few = keeps.few;
  ascending = keeps.ascending;
  passed = λ tid there. let le = keeps.passed tid there in let w = keeps.within in omega (arith, le, w);
  store = index-kept indexes i progress after (record v { next = v.pages; phase = after }) some next;
}

-- Slots are freed.

pub drop-some : (n : ℕ) (xs : List Tid) → n < length xs → drop n xs ≢ []
drop-some n xs within none =
    let long = length-drop n xs in
    let zero : length (drop n xs) ≡ 0 = ap (λ (zs : List Tid). length zs) none in
    omega (arith, long, zero, within)

pub some-held : (n : ℕ) (xs : List Tid) → n ≤ length xs → drop n xs ≢ [] → n < length xs
some-held n xs within some = ⊎_elim (λ lt. lt) (λ ge. absurd (some (drop_all n xs ge))) (cases_lt n (length xs))

phase-some : (ys : List Tid) → ys ≢ [] → phase.Free ≡ phase_left ys
phase-some [] some = absurd (some refl)
phase-some (y ∷ ys) some = refl

pub left-some : (n : ℕ) (xs : List Tid) → n < length xs → phase.Free ≡ phase_left (drop n xs)
left-some n xs within = phase-some (drop n xs) (drop-some n xs within)

pub pairs-drop : (n : ℕ) (xs : List Tid) → AreAscending xs → AreAscending (drop n xs)
pairs-drop zero xs up = up
pairs-drop (suc n) [] up = up
pairs-drop (suc n) (x ∷ xs) up = pairs-drop n xs (pairs-tail PlacePrecedes x xs up)

pub freed-is : (v : VacuumView) (p : ℕ) (ys : List Tid) (after : Phase) → ys ≡ off_page p v.store → after ≡ phase_left ys
    → record v { store = ys; phase = after } ≡ record v { store = off_page p v.store; phase = phase_left (off_page p v.store) }
freed-is v p ys after is to_phase =
    ap (λ q. record v { store = ys; phase = q }) to_phase ∙ ap (λ (zs : List Tid). record v { store = zs; phase = phase_left zs }) is

pub freed-off-kept : (v : VacuumView) (p : ℕ) (ys : List Tid) (after : Phase) → ys ≡ off_page p v.store → after ≡ phase_left ys → IsVacuum v
    → IsVacuum (record v { store = ys; phase = after })
freed-off-kept v p ys after is to_phase keeps = subst IsVacuum (sym (freed-is v p ys after is to_phase)) (off-kept v p keeps)

pub free-some : (v : VacuumView) → IsVacuum v → v.phase ≡ phase.Free → v.store ≢ []
free-some v keeps is = subst (KeepsStore v) is keeps.store

-- Whether anything is collected.

pub shown-none : (freed : ℕ) (xs shown : List Tid) → freed ≡ 0 → shown ≡ drop freed xs → (length xs == 0) ≡ true → shown ≡ []
shown-none freed xs shown none is empty = is ∙ held freed xs none ∙ nil_from_length xs (eqb-true (length xs) 0 empty)

pub shown-some : (freed : ℕ) (xs shown : List Tid) → freed ≡ 0 → shown ≡ drop freed xs → (length xs == 0) ≡ false → shown ≢ []
shown-some freed xs shown none is some e = eqb-false (length xs) 0 some (ap (λ (ys : List Tid). length ys) (sym (is ∙ held freed xs none) ∙ e))

-- the lowest page is in use and its slots become free, or it is not
pub free-says : (h h' : HeapView) (v w v' : VacuumView) (horizon p : ℕ) → v ≡ w → (ys : List Tid) (after : Phase) → IsLowest v.store p
    → (p < length h.pages.pages → FreesPage h h' horizon p (on_page p v.store)) → (length h.pages.pages ≤ p → h' ≡ h) → ys ≡ off_page p v.store → after ≡ phase_left ys
    → v' ≡ record v { store = ys; phase = after } → Frees h h' w v' horizon p ⊎ Drops h h' w v' p
free-says h h' v w v' horizon p same ys after low frees drops left to_phase is = ⊎_elim
    (λ within. let page = frees within in inl (subst (λ (u : VacuumView). Frees h h' u v' horizon p) same (record {
      lowest = low;
      numbers = map (λ (tid : Tid). tid.slot) (on_page p v.store);
      are = on-places p v.store;
      freed = page.freed;
      frees = page.frees;
      notes = page.notes;
      is = is ∙ freed-is v p ys after left to_phase;
    })))
    (λ past. inr (subst (λ (u : VacuumView). Drops h h' u v' p) same (record { lowest = low; unused = past; same = drops past; is = is ∙ freed-is v p ys after left to_phase })))
    (cases_lt p (length h.pages.pages))
