-- What a vacuum in progress keeps.
use Rattle.std.proofs.Common.{◌≡◌, ◌≢◌, ◌⊎◌, ℕ, ◌+◌, ◌<◌, ◌≤◌, ◌==◌, nat_lt, not, Bool, true, false, List, [], ◌∷◌, ◌++◌, length, take, Option, Some, None, if◌then◌else◌, arith, refl, sym, ap, ◌∙◌, subst, ⊎_elim, inl, inr}
use Rattle.std.specs.Prelude.{Contains}
use Rattle.std.specs.Option.{option_and_then}
use Rattle.std.proofs.lemmas.Bool.{cases_eq, cases_lt, cond-true, cond-false, ltb-false, eq-eqb, ne_eqb, not_from_false, not-true, eqb-false}
use Rattle.std.proofs.lemmas.Option.{slice_get_within}
use Rattle.std.proofs.lemmas.List.{length-set, get_or-set_same, get_or-set_other, take_all}
use Rattle.std.proofs.lemmas.List.Elements.{All-contains, filter_passes, Contains-append_left, Contains-append_right, Contains-append_cases}
use Rattle.xid_circle.specs.declared.Tid.{Tid}
use Rattle.xid_circle.proofs.Members.{Contains-none}
use Rattle.tuple_header.specs.Version.{Version}
use Rattle.page_sheet.specs.declared.slot.Slot.TheVariants.{Dead}
use Rattle.page_sheet.specs.Slots.{slot_at, version_of}
use Rattle.commit_status.specs.Window.{Window, IsUpToNext, IsActive, next_id, turns}
use Rattle.space_maps.specs.declared.mark.Mark.{Mark}
use Rattle.space_maps.specs.declared.mark.Mark.TheVariants.{Nothing}
use Rattle.space_maps.specs.View.{mark_on, says_visible}
use Rattle.freeze.specs.AllVisible.{IsAllVisible}
use Rattle.index_entries.specs.declared.entry.Entry.{Entry}
use Rattle.index_lookup.specs.Pages.{slots_on, slot_in, version_in}
use Rattle.table_indexes.specs.Indexes.{IndexesView, entries_in, IsInUse}
use Rattle.heap_write.specs.Heap.{HeapView, slots_of}
use Rattle.heap_write.specs.Writes.{Prunes, Applies}
use Rattle.page_slots.specs.View.{PageView}
use Rattle.prune_actions.specs.declared.Action.{Action}
use Rattle.prune.specs.Actions.{applied}
use Rattle.prune.proofs.IdlePlans.{checked-idle}
use Rattle.table_integrity.proofs.Places.{BecomesPage, becomes-on, becomes-puts, prunes-becomes, prunes-puts, applies-becomes}
use Rattle.calls.specs.declared.vacuum.Mode.{Mode}
use Rattle.calls.specs.declared.vacuum.Mode.TheVariants.{Aggressive}
use Rattle.calls.specs.declared.vacuum.Piece.{Piece}
use Rattle.vacuum_passes.specs.declared.vacuum.Phase.{Phase}
use Rattle.vacuum_passes.specs.declared.vacuum.Phase.TheVariants as phase
use Rattle.root_index.specs.declared.progress.Progress.{Progress}
use Rattle.vacuum_passes.specs.View.{VacuumView, places, space, collected, counted, new_vacuum, disturbed}
use Rattle.vacuum_passes.specs.Visits.{IsNextPage, NoPageLeft, Visits}
use Rattle.heap_write.specs.Cleaning.{SweepsAt}
use Rattle.heap_write.proofs.Plans.{pruned-page}
use Rattle.vacuum_passes.specs.Steps.{Steps, PhaseAfter, Frees, off_page, phase_left}
use Rattle.vacuum_passes.specs.Keeps.{IsVacuum}
use Rattle.vacuum_passes.proofs.ListLemmas.{in-filtered, in-filter, in-mapped, in-mapping, in-taken}
use Rattle.vacuum_passes.proofs.VacuumLemmas.{steps-kept, begun-kept}
use Rattle.sound_vacuum.specs.Quiet.{AreSettled}
use Rattle.sound_vacuum.specs.Sweeping.{AreDead}
use Rattle.sound_vacuum.specs.Indexes.{AreSwept, AllAreSwept}
use Rattle.sound_vacuum.specs.Cleaning.{IsLeftBehind, IsClean, PagesAreYoung}
use Rattle.sound_vacuum.specs.Between.{StepsBetween}
use Rattle.sound_vacuum.specs.Vacuuming.{CanVacuum, KeepsSwept, IsReadyToNote, KeepsQuiet, KeepsVacuum, IsSafe, IsVacuumed}
use Rattle.sound_vacuum.proofs.FreedTables.{frees-on, frees-put, version-kept}
use Rattle.sound_vacuum.proofs.Visited.{freezes-put, visits-page, visited-settled}
use Rattle.sound_vacuum.proofs.Collected.{steps-keep, freed-others}
use Rattle.sound_vacuum.proofs.Cleaned.{steps-end, stays-clean, stays-young, visit-stays_clean, visit-stays_young, pass-clean, pass-young, all-done, some-page}
use Rattle.sound_vacuum.proofs.Growing.{steps-grow, steps-upto}
use Rattle.vacuum_passes.proofs.OnePage.{never-drops}
use Rattle.sound_vacuum.proofs.Behind.{nothing-behind, piece-behind, index-behind, all-behind, steps-behind, steps-all}
use Rattle.sound_vacuum.proofs.Settled.{settled-alive, settled-idle, freed-visible}
use Rattle.sound_vacuum.proofs.Stepping.{first-cutoff, the-cutoff, active-late, active-young, skipped-visible, skipped-frozen, notes-marks, notes-same, notes-slots, notes-version, notes-count, notes-page, visit-table, visit-marks, visit-safe, sweep-table, sweep-safe, free-table, free-marks, free-safe, same-safe}
use Rattle.sound_vacuum.proofs.Readying.{clean-same, young-same, clean-less, young-less, ids-same, ready-same, passed-ready}

-- Each step is safe.
pub steps-safe : (h h' : HeapView) (v : VacuumView) (horizon : ℕ) (after : Option VacuumView) (did : Option Piece) → CanVacuum h horizon → KeepsVacuum h horizon v
    → Steps h h' v horizon after did → IsSafe h h' horizon
steps-safe h h' v horizon _ _ can keeps (Steps.visits p v' is next visit) = visit-safe h h' v v' horizon p can keeps visit
steps-safe h h' v horizon _ _ can keeps (Steps.begins_index v' is over some s) = sweep-safe h h' 0 v.store None s.progress s.sweeps horizon can keeps.dead
steps-safe h h' v horizon _ _ can keeps (Steps.sweeps i from v' is s) = sweep-safe h h' i v.store from s.progress s.sweeps horizon can keeps.dead
steps-safe h h' v horizon _ _ can keeps (Steps.frees p v' is f) = free-safe h h' v v' horizon p can f (subst (KeepsSwept h v.store) is keeps.swept)
steps-safe h h' v horizon _ _ can keeps (Steps.drops p v' is d) = absurd (never-drops h h' v v' p keeps.dead d)
steps-safe h h' v horizon _ _ can keeps (Steps.ends is over none same) = same-safe h h' horizon can same

-- A visit.

with-swept : (h : HeapView) (store : List Tid) → IsInUse h.indexes 0 → (b : Bool) → KeepsSwept h store (if b then phase.Index 0 None else phase.Heap)
with-swept h store used true = (used, nothing-behind h store)
with-swept h store used false = tt

module _ (h h' : HeapView) (v v' : VacuumView) (horizon p : ℕ) (can : CanVacuum h horizon) (keeps : KeepsVacuum h horizon v) (next : IsNextPage h v p) (visit : Visits h h' v v' horizon p) where
  step : StepsBetween h visit.visited
  step = StepsBetween.visits horizon v.cutoff p visit.visits

  abbrev took : List ℕ
  took = take (space v) visit.dead

  abbrev store' : List Tid
  store' = v.store ++ places p took

  ids : h'.statuses ≡ h.statuses
  ids = (visit-safe h h' v v' horizon p can keeps visit).ids

  visit-used : IsInUse h'.indexes 0
  visit-used = ((visit-safe h h' v v' horizon p can keeps visit).table.in_use 0).0 can.by_key

  visit-count : length h'.pages.pages ≡ length h.pages.pages
  visit-count = notes-count visit.visited h' p horizon visit.notes
      ∙ ap (λ (g : HeapView). length g.pages.pages) visit.visits.freezes.is ∙ length-set visit.visits.pruned.pages.pages p visit.visits.freezes.after
      ∙ ap (λ (g : HeapView). length g.pages.pages) visit.visits.prunes.is ∙ length-set h.pages.pages p visit.visits.prunes.after

  here : (n : ℕ) → slot_at (slots_on (slots_of h') p) n ≡ slot_at visit.notes.page.slots n
  here n = (notes-same visit.visited h' p horizon visit.notes).slots (record { page = p; slot = n }) ∙ ap (λ s. slot_at s n) (notes-page visit.visited h' p horizon visit.notes)

  visit-dead : AreDead (slots_of h') store'
  visit-dead tid there = ⊎_elim
      (λ old. (notes-same visit.visited h' p horizon visit.notes).slots tid ∙ (steps-keep h visit.visited step 0).dead tid (keeps.dead tid old))
      (λ new.
      let m = in-mapped (λ n. record { page = p; slot = n }) took tid new in
      subst (λ (q : Tid). slot_in (slots_of h') q ≡ Some Dead) m.2 (here m.0 ∙ (visit.lists.members m.0).0 (in-taken (space v) visit.dead m.0 m.1)))
      (Contains-append_cases v.store (places p took) tid there)

  passed : (q : ℕ) → v.next ≤ q → q < p → says_visible (mark_on h.pages.marks q) ≡ true
  passed q ge lt = skipped-visible v.mode (mark_on h.pages.marks q) (next.passed q ge lt)

  -- the next page is this one or the one after it, and then all its dead slots are collected
  next-cases : (b : Bool) → nat_lt (space v) (length visit.dead) ≡ b
      → ((collected v p visit.dead).next ≡ p) ⊎ (((collected v p visit.dead).next ≡ p + 1) × (length visit.dead ≤ space v))
  next-cases true e = inl (cond-true (nat_lt (space v) (length visit.dead)) p (p + 1) e)
  next-cases false e = inr (cond-false (nat_lt (space v) (length visit.dead)) p (p + 1) e, ltb-false (space v) (length visit.dead) e)

  next-le : (collected v p visit.dead).next ≤ p + 1
  next-le = ⊎_elim (λ e. omega (arith, e)) (λ e. let f = e.0 in omega (arith, f)) (next-cases (nat_lt (space v) (length visit.dead)) refl)

  visit-clean : IsClean h' v.horizon (collected v p visit.dead).next v.pages
  visit-clean = clean-less h' v.horizon (collected v p visit.dead).next (p + 1) v.pages next-le
      (clean-same visit.visited h' v.horizon (p + 1) v.pages (ap (λ (g : HeapView). g.statuses) visit.notes.is) (notes-version visit.visited h' p horizon visit.notes)
      (visit-stays_clean h visit.visited h.pages.marks horizon v.cutoff v.next p v.pages can.sound can.maps (the-cutoff h horizon v can keeps) visit.visits
      v.horizon (first-cutoff h horizon v can keeps) passed (active-late h horizon v can keeps) keeps.clean))

  visit-young : v.mode ≡ Aggressive → PagesAreYoung h' v.cutoff (collected v p visit.dead).next v.pages
  visit-young mode = young-less h' v.cutoff (collected v p visit.dead).next (p + 1) v.pages next-le
      (young-same visit.visited h' v.cutoff (p + 1) v.pages (ap (λ (g : HeapView). g.statuses) visit.notes.is) (notes-version visit.visited h' p horizon visit.notes)
      (visit-stays_young h visit.visited h.pages.marks horizon v.cutoff v.next p v.pages can.sound can.maps (the-cutoff h horizon v can keeps) visit.visits
      (can.known p) (λ q ge lt. skipped-frozen v.mode (mark_on h.pages.marks q) mode (next.passed q ge lt))
      (subst (λ (w : Window). (x : ℕ) → IsActive w x → turns w.first v.cutoff ≤ turns w.first x) (sym (visit-table h h' v v' horizon p can keeps visit)) (active-young h horizon v can keeps))
      (keeps.young mode)))

  -- Where no id is in progress.

  others-slots : (q : ℕ) → q ≢ p → slots_on (slots_of h') q ≡ slots_on (slots_of h) q
  others-slots q off = notes-slots visit.visited h' p horizon visit.notes q
      ∙ (freezes-put visit.visits.pruned visit.visited v.cutoff p visit.visits.freezes).others q off
      ∙ (prunes-puts h visit.visits.pruned p horizon visit.visits.prunes).others q off

  others-mark : (q : ℕ) → q ≢ p → mark_on h'.pages.marks q ≡ mark_on h.pages.marks q
  others-mark q off = ap (λ (ms : List Mark). mark_on ms q) (notes-marks visit.visited h' p horizon visit.notes)
      ∙ get_or-set_other visit.visited.pages.marks p q visit.notes.mark Nothing off
      ∙ ap (λ (ms : List Mark). mark_on ms q) (visit-marks h h' v v' horizon p can keeps visit)

  here-slots : slots_on (slots_of h') p ≡ slots_on (slots_of visit.visited) p
  here-slots = notes-slots visit.visited h' p horizon visit.notes p

  here-mark : mark_on h'.pages.marks p ≡ visit.notes.mark
  here-mark = ap (λ (ms : List Mark). mark_on ms p) (notes-marks visit.visited h' p horizon visit.notes)
      ∙ get_or-set_same visit.visited.pages.marks p visit.notes.mark Nothing
      (let same = ap (λ (ms : List Mark). length ms) (visit-marks h h' v v' horizon p can keeps visit) in
      let count = can.maps.count in
      let within = next.in_use in
      omega (arith, same, count, within))

  -- the page itself, where all its dead slots are collected
  here-ready : length visit.dead ≤ space v → horizon ≡ next_id h.statuses → IsReadyToNote h' horizon store' p
  here-ready few none = record {
    settled = settled;
    collected = collected-here;
    marked = λ absent. ap says_visible here-mark ∙ visit.notes.exact.visible.1 (subst (λ (w : Window). IsAllVisible w horizon visit.notes.page.slots) (sym (visit-table h h' v v' horizon p can keeps visit))
        (record {
          none_dead = λ n dead. absent n (collected-here n (here n ∙ dead));
          settled = λ n t at. subst (λ (w : Window). AreSettled w horizon (slots_on (slots_of h') p)) ids settled n t
              (ap (option_and_then version_of) (here n) ∙ at);
        }));
  }
    where
      settled : AreSettled h'.statuses horizon (slots_on (slots_of h') p)
      settled = subst (λ (w : Window). AreSettled w horizon (slots_on (slots_of h') p)) (sym ids)
          (subst (AreSettled h.statuses horizon) (sym here-slots)
          (visited-settled h.statuses horizon v.cutoff p (slots_on (slots_of h) p) (slots_on (slots_of visit.visited) p) (the-cutoff h horizon v can keeps) (can.sound.heap p)
          (visits-page h visit.visited horizon v.cutoff p visit.visits) (can.known p) none))

      all-taken : take (space v) visit.dead ≡ visit.dead
      all-taken = take_all (space v) visit.dead few

      collected-here : (n : ℕ) → slot_at (slots_on (slots_of h') p) n ≡ Some Dead → Contains store' (record { page = p; slot = n })
      collected-here n dead = Contains-append_right v.store (places p took) (record { page = p; slot = n })
          (in-mapping (λ k. record { page = p; slot = k }) took n
          (subst (λ l. Contains l n) (sym all-taken) ((visit.lists.members n).1 (sym (here n) ∙ dead))))

  visit-quiet : v.quiet ≡ true → horizon ≡ next_id h'.statuses → KeepsQuiet h' horizon (collected v p visit.dead)
  visit-quiet quiet last =
      let none : horizon ≡ next_id h.statuses = last ∙ ap next_id ids in
      let k = keeps.quiet quiet none in
      record {
        pages = visit-count ∙ k.pages;
        ready = λ mode q below. ⊎_elim
            (λ same. ⊎_elim
            (λ again. absurd (omega (arith, below, same, again)))
            (λ on. subst (λ n. IsReadyToNote h' horizon store' n) (sym same) (here-ready on.1 none))
            (next-cases (nat_lt (space v) (length visit.dead)) refl))
            (λ off.
            let le = next-le in
            let before : q < p = omega (arith, below, le, off) in
            ready-same h h' horizon v.store store' q ids (others-slots q off) (others-mark q off)
            (λ n there. Contains-append_left v.store (places p took) (record { page = q; slot = n }) there)
            (⊎_elim
            (λ old. k.ready mode q old)
            (λ ge. passed-ready h horizon v.store q can.maps (let w = next.in_use in omega (arith, before, w))
            (skipped-frozen v.mode (mark_on h.pages.marks q) mode (next.passed q ge before)) (passed q ge before))
            (cases_lt q v.next)))
            (cases_eq q p);
      }

  pub visit-keeps : IsVacuum (counted v') → KeepsVacuum h' horizon (counted v')
  visit-keeps itself = subst (λ (u : VacuumView). IsVacuum (counted u) → KeepsVacuum h' horizon (counted u)) (sym visit.collects) (λ i.
      let k = ids-same h h' horizon v ids keeps in
      record {
        itself = i;
        pages = let le = keeps.pages in let e = visit-count in omega (arith, le, e);
        cutoff = k.cutoff;
        first = k.first;
        cutoff_first = k.cutoff_first;
        horizon_first = k.horizon_first;
        dead = visit-dead;
        swept = with-swept h' store' visit-used (length store' == v.limit);
        clean = visit-clean;
        young = visit-young;
        quiet = λ q e. let r = visit-quiet q e in record { pages = r.pages; ready = r.ready };
      }) itself

-- The last page is passed: the indexes come next, from the beginning.

module _ (h : HeapView) (v : VacuumView) (horizon : ℕ) (can : CanVacuum h horizon) (keeps : KeepsVacuum h horizon v) (over : NoPageLeft h v) where
  end-clean : IsClean h v.horizon v.pages v.pages
  end-clean = pass-clean h h.pages.marks horizon v.next v.pages v.pages can.maps v.horizon
      (λ q ge lt within. skipped-visible v.mode (mark_on h.pages.marks q) (over q ge lt within)) keeps.clean

  end-young : v.mode ≡ Aggressive → PagesAreYoung h v.cutoff v.pages v.pages
  end-young mode = pass-young h h.pages.marks horizon v.next v.pages v.pages can.maps v.cutoff
      (λ q ge lt within. skipped-frozen v.mode (mark_on h.pages.marks q) mode (over q ge lt within)) (keeps.young mode)

  end-ready : v.quiet ≡ true → horizon ≡ next_id h.statuses → v.mode ≡ Aggressive → (p : ℕ) → p < v.pages → IsReadyToNote h horizon v.store p
  end-ready quiet none mode p below =
      let k = keeps.quiet quiet none in
      ⊎_elim
      (λ old. k.ready mode p old)
      (λ ge.
      let within : p < length h.pages.pages = let le = keeps.pages in omega (arith, below, le) in
      let skipped = over p ge below within in
      passed-ready h horizon v.store p can.maps within (skipped-frozen v.mode (mark_on h.pages.marks p) mode skipped) (skipped-visible v.mode (mark_on h.pages.marks p) skipped))
      (cases_lt p v.next)

-- A piece of an index. What is so of the pages behind the vacuum is said apart, since the first piece passes over the last ones.

module _ (h h' : HeapView) (v v' : VacuumView) (i : ℕ) (from : Option Entry) (horizon : ℕ) (keeps : KeepsVacuum h horizon v) (progress : Progress) (s : SweepsAt h h' i v.store from progress) where
  sweep-slots : slots_of h' ≡ slots_of h
  sweep-slots = ap (λ (g : HeapView). slots_of g) s.is

  sweep-marks : h'.pages.marks ≡ h.pages.marks
  sweep-marks = ap (λ (g : HeapView). g.pages.marks) s.is

  sweep-ids : h'.statuses ≡ h.statuses
  sweep-ids = sweep-table h h' i v.store from progress s

  sweep-dead : AreDead (slots_of h') v.store
  sweep-dead tid there = ap (λ pages. slot_in pages tid) sweep-slots ∙ keeps.dead tid there

  sweep-version : (q : Tid) → version_in (slots_of h') q ≡ version_in (slots_of h) q
  sweep-version q = ap (λ pages. version_in pages q) sweep-slots

  sweep-swept : (after : Phase) → IsInUse h.indexes i → AreSwept h v.store i from → PhaseAfter h.indexes i progress after → KeepsSwept h' v.store after
  sweep-swept after used swept (PhaseAfter.more last e is) = subst (KeepsSwept h' v.store) (sym is)
      ((s.in_use i).0 used, piece-behind h h' v.store i from last keeps.dead used swept (subst (SweepsAt h h' i v.store from) e s))
  sweep-swept after used swept (PhaseAfter.onward j e n is) = subst (KeepsSwept h' v.store) (sym is)
      ((s.in_use j).0 n.in_use, index-behind h h' v.store i j from keeps.dead swept (subst (SweepsAt h h' i v.store from) e s) n.none_between)
  sweep-swept after used swept (PhaseAfter.over e none is) = subst (KeepsSwept h' v.store) (sym is)
      (all-behind h h' v.store i from keeps.dead swept (subst (SweepsAt h h' i v.store from) e s) none)

  sweep-keeps : (next : ℕ) → IsVacuum (counted v') → IsInUse h.indexes i → AreSwept h v.store i from → IsClean h v.horizon next v.pages → (v.mode ≡ Aggressive → PagesAreYoung h v.cutoff next v.pages)
      → (v.quiet ≡ true → horizon ≡ next_id h.statuses → v.mode ≡ Aggressive → (p : ℕ) → p < next → IsReadyToNote h horizon v.store p)
      → PhaseAfter h.indexes i progress v'.phase → v' ≡ record v { next = next; phase = v'.phase } → KeepsVacuum h' horizon (counted v')
  sweep-keeps next itself used swept clean young ready after same = subst (λ (u : VacuumView). IsVacuum (counted u) → KeepsVacuum h' horizon (counted u)) (sym same) (λ j.
      let k = ids-same h h' horizon v sweep-ids keeps in
      let count = ap (λ (g : HeapView). length g.pages.pages) s.is in
      record {
        itself = j;
        pages = let le = keeps.pages in omega (arith, le, count);
        cutoff = k.cutoff;
        first = k.first;
        cutoff_first = k.cutoff_first;
        horizon_first = k.horizon_first;
        dead = sweep-dead;
        swept = sweep-swept v'.phase used swept after;
        clean = clean-same h h' v.horizon next v.pages sweep-ids sweep-version clean;
        young = λ mode. young-same h h' v.cutoff next v.pages sweep-ids sweep-version (young mode);
        quiet = λ quiet last.
            let none : horizon ≡ next_id h.statuses = last ∙ ap next_id sweep-ids in
            record {
              pages = count ∙ (keeps.quiet quiet none).pages;
              ready = λ mode p below. ready-same h h' horizon v.store v.store p sweep-ids (ap (λ pages. slots_on pages p) sweep-slots) (ap (λ (ms : List Mark). mark_on ms p) sweep-marks)
                  (λ n there. there) (ready quiet none mode p below);
            };
      }) itself

-- Slots become unused.

left-swept : (h : HeapView) (dead xs : List Tid) → AllAreSwept h dead → KeepsSwept h dead (phase_left xs)
left-swept h dead [] all = tt
left-swept h dead (x ∷ xs) all = all

module _ (h h' : HeapView) (v v' : VacuumView) (horizon p : ℕ) (can : CanVacuum h horizon) (keeps : KeepsVacuum h horizon v) (swept : AllAreSwept h v.store) (f : Frees h h' v v' horizon p) where
  abbrev others : List Tid
  others = off_page p v.store

  free-ids : h'.statuses ≡ h.statuses
  free-ids = (free-safe h h' v v' horizon p can f swept).ids

  free-indexes : h'.indexes ≡ h.indexes
  free-indexes = ap (λ (g : HeapView). g.indexes) f.notes.is ∙ ap (λ (g : HeapView). g.indexes) f.frees.is

  free-count : length h'.pages.pages ≡ length h.pages.pages
  free-count = notes-count f.freed h' p horizon f.notes ∙ ap (λ (g : HeapView). length g.pages.pages) f.frees.is ∙ length-set h.pages.pages p f.frees.after

  free-version : (q : Tid) → version_in (slots_of h') q ≡ version_in (slots_of h) q
  free-version q = notes-version f.freed h' p horizon f.notes q
      ∙ version-kept h.statuses p (slots_of h) (slots_of f.freed) f.frees.after.slots f.numbers (frees-on h f.freed p f.numbers f.frees) (frees-put h f.freed p f.numbers f.frees) q

  off-its_page : (tid : Tid) → Contains others tid → tid.page ≢ p
  off-its_page tid there = eqb-false tid.page p (not-true (tid.page == p)
      (All-contains (λ (t : Tid). not (t.page == p) ≡ true) others tid (filter_passes (λ (t : Tid). not (t.page == p)) v.store) there))

  free-dead : AreDead (slots_of h') others
  free-dead tid there = (notes-same f.freed h' p horizon f.notes).slots tid
      ∙ (freed-others h f.freed p f.numbers f.frees).0 tid (λ same. absurd (off-its_page tid there same))
      ∙ keeps.dead tid (in-filtered (λ (t : Tid). not (t.page == p)) v.store tid there)

  free-swept : AllAreSwept h' others
  free-swept n used e there upto among = swept n (subst (λ (x : IndexesView). IsInUse x n) free-indexes used) e
      (subst (λ (x : IndexesView). Contains (entries_in x n) e) free-indexes there) tt (in-filtered (λ (t : Tid). not (t.page == p)) v.store e.tid among)

  -- the page

  freed-named : (n : ℕ) → Contains v.store (record { page = p; slot = n }) → Contains f.numbers n
  freed-named n there =
      let on = in-filter (λ (t : Tid). t.page == p) v.store (record { page = p; slot = n }) there (eq-eqb p p refl) in
      let m = in-mapped (λ k. record { page = p; slot = k }) f.numbers (record { page = p; slot = n }) (subst (λ l. Contains l (record { page = p; slot = n })) f.are on) in
      subst (Contains f.numbers) (ap (λ (t : Tid). t.slot) m.2) m.1

  freed-slots : slots_on (slots_of f.freed) p ≡ f.frees.after.slots
  freed-slots = (frees-put h f.freed p f.numbers f.frees).put

  freed-here : slots_on (slots_of h') p ≡ slots_on (slots_of f.freed) p
  freed-here = notes-slots f.freed h' p horizon f.notes p

  freed-mark : mark_on h'.pages.marks p ≡ f.notes.mark
  freed-mark = ap (λ (ms : List Mark). mark_on ms p) (notes-marks f.freed h' p horizon f.notes)
      ∙ get_or-set_same f.freed.pages.marks p f.notes.mark Nothing
      (let same = ap (λ (ms : List Mark). length ms) (free-marks h h' v v' horizon p can f) in
      let count = can.maps.count in
      let within = slice_get_within h.pages.pages p f.frees.before f.frees.at in
      omega (arith, same, count, within))

  freed-ready : IsReadyToNote h horizon v.store p → IsReadyToNote h' horizon others p
  freed-ready r =
      let all : IsAllVisible h.statuses horizon f.frees.after.slots = freed-visible h.statuses horizon (slots_on (slots_of h) p) f.frees.after.slots f.numbers r.settled
      (λ n dead. freed-named n (r.collected n dead)) (frees-on h f.freed p f.numbers f.frees) in
      let here : slots_on (slots_of h') p ≡ f.frees.after.slots = freed-here ∙ freed-slots in
      let page : f.notes.page.slots ≡ f.frees.after.slots = sym (notes-page f.freed h' p horizon f.notes) ∙ freed-slots in
      let noted : IsAllVisible f.freed.statuses horizon f.notes.page.slots =
      subst (λ (w : Window). IsAllVisible w horizon f.notes.page.slots) (sym (free-table h h' v v' horizon p can f)) (subst (IsAllVisible h.statuses horizon) (sym page) all) in
      record {
        settled = subst (λ (w : Window). AreSettled w horizon (slots_on (slots_of h') p)) (sym free-ids) (subst (AreSettled h.statuses horizon) (sym here) all.settled);
        collected = λ n dead. absurd (all.none_dead n (ap (λ s. slot_at s n) (sym here) ∙ dead));
        marked = λ none. ap says_visible freed-mark ∙ f.notes.exact.visible.1 noted;
      }

  freed-off : (q : ℕ) → q ≢ p → IsReadyToNote h horizon v.store q → IsReadyToNote h' horizon others q
  freed-off q off r = ready-same h h' horizon v.store others q free-ids
      (notes-slots f.freed h' p horizon f.notes q ∙ (frees-put h f.freed p f.numbers f.frees).others q off)
      (ap (λ (ms : List Mark). mark_on ms q) (notes-marks f.freed h' p horizon f.notes)
      ∙ get_or-set_other f.freed.pages.marks p q f.notes.mark Nothing off ∙ ap (λ (ms : List Mark). mark_on ms q) (free-marks h h' v v' horizon p can f))
      (λ n there. in-filter (λ (t : Tid). not (t.page == p)) v.store (record { page = q; slot = n }) there (not_from_false (q == p) (ne_eqb q p off)))
      r

  pub free-keeps : IsVacuum (counted v') → KeepsVacuum h' horizon (counted v')
  free-keeps itself = subst (λ (u : VacuumView). IsVacuum (counted u) → KeepsVacuum h' horizon (counted u)) (sym f.is) (λ j.
      let k = ids-same h h' horizon v free-ids keeps in
      record {
        itself = j;
        pages = let le = keeps.pages in let e = free-count in omega (arith, le, e);
        cutoff = k.cutoff;
        first = k.first;
        cutoff_first = k.cutoff_first;
        horizon_first = k.horizon_first;
        dead = free-dead;
        swept = left-swept h' others others free-swept;
        clean = clean-same h h' v.horizon v.next v.pages free-ids free-version keeps.clean;
        young = λ mode. young-same h h' v.cutoff v.next v.pages free-ids free-version (keeps.young mode);
        quiet = λ quiet last.
            let none : horizon ≡ next_id h.statuses = last ∙ ap next_id free-ids in
            let q = keeps.quiet quiet none in
            record {
              pages = free-count ∙ q.pages;
              ready = λ mode n below. ⊎_elim
                  (λ same. subst (λ m. IsReadyToNote h' horizon others m) (sym same) (freed-ready (subst (λ m. IsReadyToNote h horizon v.store m) same (q.ready mode n below))))
                  (λ off. freed-off n off (q.ready mode n below))
                  (cases_eq n p);
            };
      }) itself

-- Each step.

pub steps-on : (h h' : HeapView) (v v' : VacuumView) (horizon : ℕ) (piece : Piece) → CanVacuum h horizon → KeepsVacuum h horizon v → IsVacuum v' → Steps h h' v horizon (Some v') (Some piece)
    → KeepsVacuum h' horizon v'
steps-on h h' v _ horizon _ can keeps i (Steps.visits p v' is next visit) = visit-keeps h h' v v' horizon p can keeps next visit i
steps-on h h' v _ horizon _ can keeps i (Steps.begins_index v' is over some s) =
    sweep-keeps h h' v v' 0 None horizon keeps s.progress s.sweeps v.pages i can.by_key (nothing-behind h v.store)
    (end-clean h v horizon can keeps over) (end-young h v horizon can keeps over) (end-ready h v horizon can keeps over) s.next s.same
steps-on h h' v _ horizon _ can keeps i (Steps.sweeps k from v' is s) =
    let swept = subst (KeepsSwept h v.store) is keeps.swept in
    sweep-keeps h h' v v' k from horizon keeps s.progress s.sweeps v.next i swept.0 swept.1 keeps.clean keeps.young (λ quiet none mode p below. (keeps.quiet quiet none).ready mode p below) s.next s.same
steps-on h h' v _ horizon _ can keeps i (Steps.frees p v' is f) = free-keeps h h' v v' horizon p can keeps (subst (KeepsSwept h v.store) is keeps.swept) f i
steps-on h h' v _ horizon _ can keeps i (Steps.drops p v' is d) = absurd (never-drops h h' v v' p keeps.dead d)

pub steps-go_on : (h h' : HeapView) (v v' : VacuumView) (horizon : ℕ) (piece : Piece) → CanVacuum h horizon → KeepsVacuum h horizon v → Steps h h' v horizon (Some v') (Some piece)
    → KeepsVacuum h' horizon v'
steps-go_on h h' v v' horizon piece can keeps step = steps-on h h' v v' horizon piece can keeps (steps-kept h h' v v' horizon piece keeps.itself step) step

-- The end.

vacuumed : (h : HeapView) (v : VacuumView) (horizon : ℕ) → CanVacuum h horizon → KeepsVacuum h horizon v → NoPageLeft h v → v.store ≡ [] → IsVacuumed h horizon v
vacuumed h v horizon can keeps over none = record {
  clean = λ p t at. end-clean h v horizon can keeps over p t at (all-done v.pages p.page);
  young = λ mode p t at. end-young h v horizon can keeps over mode p t at (all-done v.pages p.page);
  bare = λ mode quiet last p within.
      let k = keeps.quiet quiet last in
      let count = k.pages in
      let r = end-ready h v horizon can keeps over quiet last mode p (omega (arith, within, count)) in
      let absent : (n : ℕ) → ¬ Contains v.store (record { page = p; slot = n }) = λ n there. Contains-none (record { page = p; slot = n })
      (subst (λ (l : List Tid). Contains l (record { page = p; slot = n })) none there) in
      (record { none_dead = λ n dead. absent n (r.collected n dead); settled = r.settled }, r.marked absent);
}

pub ends-vacuumed : (h h' : HeapView) (v : VacuumView) (horizon : ℕ) → CanVacuum h horizon → KeepsVacuum h horizon v → Steps h h' v horizon None None → IsVacuumed h' horizon v
ends-vacuumed h h' v horizon can keeps (Steps.ends is over none same) =
    subst (λ (g : HeapView). IsVacuumed g horizon v) (sym same) (vacuumed h v horizon can keeps over none)

-- The beginning.

pub begun-keeps : (h : HeapView) (mode : Mode) (horizon cutoff entries limit : ℕ) → CanVacuum h horizon → IsUpToNext h.statuses cutoff
    → turns h.statuses.first cutoff ≤ turns h.statuses.first horizon → 0 < limit → KeepsVacuum h horizon (new_vacuum mode horizon cutoff (length h.pages.pages) entries limit)
begun-keeps h mode horizon cutoff entries limit can upto low some = record {
  itself = begun-kept (new_vacuum mode horizon cutoff (length h.pages.pages) entries limit) refl refl refl some;
  pages = omega arith;
  cutoff = upto;
  first = can.upto;
  cutoff_first = low;
  horizon_first = omega arith;
  dead = λ tid there. absurd (Contains-none tid there);
  swept = tt;
  clean = λ q t at done. absurd (none-there q t at done);
  young = λ mode q t at done. absurd (none-there q t at done);
  quiet = λ quiet last. record { pages = refl; ready = λ mode p below. absurd (omega (arith, below)) };
}
  where
    none-there : (q : Tid) (t : Version) → version_in (slots_of h) q ≡ Some t → IsLeftBehind 0 (length h.pages.pages) q.page → ⊥
    none-there q t at done =
        let page = some-page h q t at in
        let within = slice_get_within h.pages.pages q.page page.0 page.1 in
        ⊎_elim (λ below. omega (arith, below)) (λ beyond. omega (arith, within, beyond)) done

-- Other steps.

pub disturbed-kept : (v : VacuumView) (session : Bool) → IsVacuum v → IsVacuum (disturbed session v)
disturbed-kept v session i = record { within = i.within; some = i.some; few = i.few; ascending = i.ascending; passed = i.passed; store = i.store }

steps-swept : (h h' : HeapView) (dead : List Tid) (after : Phase) → StepsBetween h h' → AreDead (slots_of h) dead → KeepsSwept h dead after → KeepsSwept h' dead after
steps-swept h h' dead phase.Heap between are swept = tt
steps-swept h h' dead (phase.Index i from) step are swept = (((steps-grow h h' step).used i).0 swept.0, (steps-behind h h' dead i from step are swept.1).1)
steps-swept h h' dead phase.Free step are swept = (steps-all h h' dead step are swept).1

others-keep : (h h' : HeapView) (v : VacuumView) (horizon later : ℕ) (session : Bool) → CanVacuum h horizon → CanVacuum h' later → StepsBetween h h'
    → turns h.statuses.first horizon ≤ turns h.statuses.first later → KeepsVacuum h horizon v
    → ((disturbed session v).quiet ≡ true → later ≡ next_id h'.statuses → KeepsQuiet h' later v) → KeepsVacuum h' later (disturbed session v)
others-keep h h' v horizon later session can can' step on keeps quiet =
    let first = (steps-end h h' step).first in
    let same : (x : ℕ) → turns h'.statuses.first x ≡ turns h.statuses.first x = λ x. ap (λ f. turns f x) first in
    record {
      itself = disturbed-kept v session keeps.itself;
      pages = let le = keeps.pages in let more = (steps-grow h h' step).pages in omega (arith, le, more);
      cutoff = steps-upto h h' v.cutoff step keeps.cutoff;
      first = steps-upto h h' v.horizon step keeps.first;
      cutoff_first = let le = keeps.cutoff_first in let a = same v.cutoff in let b = same v.horizon in omega (arith, le, a, b);
      horizon_first = let le = keeps.horizon_first in let a = same v.horizon in let b = same later in omega (arith, le, a, b, on);
      dead = λ tid there. (steps-keep h h' step 0).dead tid (keeps.dead tid there);
      swept = steps-swept h h' v.store v.phase step keeps.dead keeps.swept;
      clean = stays-clean h h' v.horizon v.next v.pages step (active-late h horizon v can keeps) keeps.clean;
      young = λ mode. stays-young h h' v.cutoff v.next v.pages step (λ x active.
          let early = can'.earliest x active in
          let a = same v.cutoff in
          let b = same later in
          let c = keeps.cutoff_first in
          let d = keeps.horizon_first in
          omega (arith, early, a, b, c, d, on)) (keeps.young mode);
      quiet = λ q last. let k = quiet q last in record { pages = k.pages; ready = k.ready };
    }

pub others-go_on : (h h' : HeapView) (v : VacuumView) (horizon later : ℕ) → CanVacuum h horizon → CanVacuum h' later → StepsBetween h h'
    → turns h.statuses.first horizon ≤ turns h.statuses.first later → KeepsVacuum h horizon v → KeepsVacuum h' later (disturbed true v)
others-go_on h h' v horizon later can can' step on keeps = others-keep h h' v horizon later true can can' step on keeps (λ e last. absurd (cc e))

-- a page alone changes, and what is settled on it stays
page-goes_on : (h h' : HeapView) (v : VacuumView) (horizon number : ℕ) (before after : PageView) → CanVacuum h horizon → CanVacuum h' horizon → StepsBetween h h'
    → BecomesPage h h' number before after → (AreSettled h.statuses horizon before.slots → after.slots ≡ before.slots)
    → KeepsVacuum h horizon v → KeepsVacuum h' horizon (disturbed false v)
page-goes_on h h' v horizon number before after can can' step b idle keeps = others-keep h h' v horizon horizon false can can' step (omega arith) keeps (λ quiet last.
    let none : horizon ≡ next_id h.statuses = last ∙ ap next_id ids in
    let k = keeps.quiet quiet none in
    record {
      pages = ap (λ (g : HeapView). length g.pages.pages) b.is ∙ length-set h.pages.pages number after ∙ k.pages;
      ready = λ mode q below.
          let r = k.ready mode q below in
          ready-same h h' horizon v.store v.store q ids (⊎_elim (λ same. same-there q same r.settled) (λ off. (becomes-puts h h' number before after b).others q off) (cases_eq q number))
          (ap (λ (g : HeapView). mark_on g.pages.marks q) b.is) (λ n there. there) r;
    })
  where
    ids : h'.statuses ≡ h.statuses
    ids = ap (λ (g : HeapView). g.statuses) b.is

    same-there : (q : ℕ) → q ≡ number → AreSettled h.statuses horizon (slots_on (slots_of h) q) → slots_on (slots_of h') q ≡ slots_on (slots_of h) q
    same-there q same settled =
        let on = becomes-on h h' number before after b in
        let still = idle (subst (AreSettled h.statuses horizon) (ap (slots_on (slots_of h)) same ∙ on) settled) in
        ap (slots_on (slots_of h')) same ∙ (becomes-puts h h' number before after b).put ∙ still ∙ sym on ∙ ap (slots_on (slots_of h)) (sym same)

pub pruning-goes_on : (h h' : HeapView) (v : VacuumView) (horizon number at : ℕ) → CanVacuum h horizon → CanVacuum h' horizon → Prunes h h' number at
    → KeepsVacuum h horizon v → KeepsVacuum h' horizon (disturbed false v)
pruning-goes_on h h' v horizon number at can can' p keeps =
    page-goes_on h h' v horizon number p.before p.after can can' (StepsBetween.prunes number at p) (prunes-becomes h h' number at p)
    (λ settled. settled-idle h.statuses horizon at p.before.slots p.after.slots settled (pruned-page h h' number at p)) keeps

pub applying-goes_on : (h h' : HeapView) (v : VacuumView) (horizon number at change : ℕ) (actions : List (ℕ × Action)) → CanVacuum h horizon → CanVacuum h' horizon
    → Applies h h' number at change actions → KeepsVacuum h horizon v → KeepsVacuum h' horizon (disturbed false v)
applying-goes_on h h' v horizon number at change actions can can' a keeps =
    page-goes_on h h' v horizon number a.before (applied actions a.before) can can' (StepsBetween.applies number at change actions a) (applies-becomes h h' number at change actions a)
    (λ settled. checked-idle h.statuses at a.before change actions a.does.0 (settled-alive h.statuses horizon at a.before.slots settled)) keeps
