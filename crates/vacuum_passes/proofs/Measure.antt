-- Each step of a vacuum lowers what is left.
use Rattle.std.proofs.Common.{◌≡◌, ◌≢◌, ℕ, zero, suc, ◌+◌, ◌-◌, ◌*◌, ◌<◌, ◌≤◌, min, ◌==◌, nat_lt, Bool, true, false, not, List, [], ◌∷◌, ◌++◌, length, take, Option, Some, None, if◌then◌else◌, arith, refl, sym, ap, ◌∙◌, subst, ⊎_elim, Contains, length-append, length-take, slice_get}
use Rattle.std.specs.Prelude.{unwrap_or}
use Rattle.std.proofs.lemmas.List.{length-map}
use Rattle.std.proofs.Math.Nat.{add-mul, suc-mul, le-mul_of_pos_right}
use Rattle.std.proofs.lemmas.Bool.{cases_eq, eq-eqb, ne_eqb, not_from_false, ltb-true, ltb-false, cond-true, cond-false}
use Rattle.std.proofs.lemmas.Nat.{mul-le}
use Rattle.std.proofs.lemmas.Option.{same_Some}
use Rattle.std.proofs.lemmas.List.Elements.{Contains-append_left, Contains-append_right}
use Rattle.std.proofs.lemmas.List.Filters.{length-filter_both}
use Rattle.xid_circle.specs.declared.Tid.{Tid}
use Rattle.page_sheet.specs.declared.slot.Slot.{Slot}
use Rattle.page_sheet.specs.declared.slot.Slot.TheVariants.{Unused, Dead}
use Rattle.page_sheet.specs.Slots.{slot_at}
use Rattle.page_sheet.proofs.SlotLemmas.{there-from_slot_at}
use Rattle.index_entries.specs.declared.entry.Entry.{Entry}
use Rattle.index_lookup.specs.Pages.{slots_on}
use Rattle.table_indexes.specs.Indexes.{IndexesView, entries_in}
use Rattle.heap_write.specs.Heap.{HeapView, slots_of}
use Rattle.calls.specs.declared.vacuum.Mode.{Mode}
use Rattle.calls.specs.declared.vacuum.Piece.{Piece}
use Rattle.vacuum_passes.specs.declared.vacuum.Phase.{Phase}
use Rattle.vacuum_passes.specs.declared.vacuum.Phase.TheVariants as phase
use Rattle.vacuum_passes.specs.View.{VacuumView, places, space, phase_with, collected, at_end, counted, new_vacuum, bound}
use Rattle.root_index.specs.Pieces.{RemovesPiece}
use Rattle.vacuum_passes.specs.Visits.{Visits, IsNextPage}
use Rattle.vacuum_passes.specs.Steps.{Steps, PhaseAfter, Sweeps, Frees, off_page, phase_left}
use Rattle.vacuum_passes.specs.Keeps.{KeepsStore}
use Rattle.vacuum_passes.specs.Bound.{count_on, count_from, slots_left, pieces_in, pieces_of, pieces_from, all_pieces, pieces_after, whole_round, round_left, left, KeepsBound, IsWithin, CanCount}
use Rattle.table_indexes.specs.Indexes.{HasIndexes, all_entries}
use Rattle.vacuum_passes.proofs.ListLemmas.{pairs-take, in-taken, in-filter, in-mapped, in-mapping}
use Rattle.vacuum_passes.proofs.OnePage.{SetsPage, visits-set, visits-count, visits-unused, frees-set, never-drops}
use Rattle.vacuum_passes.proofs.SlotCounts.{counts-unused, counts-among, counts-live, counts-less, Takes, count-taken, count-less, pages-less, pages-split, pages-most}
use Rattle.vacuum_passes.proofs.PieceCounts.{piece-less, removed-fewer, piece-some, pieces-in_use, pieces-fewer, all-fewer, pieces-later, pieces-few}

-- Arithmetic.

-- the round goes on
round-lower : (pages next next' slots slots' m round round' : ℕ) → next ≤ next' → slots' ≤ slots → round' < round
    → (pages - next') + slots' * m + round' + 1 < (pages - next) + slots * m + round + 1
round-lower pages next next' slots slots' m round round' onward fewer lower =
    let e = mul-le slots' m slots m fewer (omega arith) in
    omega (arith, e, onward, lower)

-- nothing is collected on a page
none-lower : (pages next next' slots slots' m round round' : ℕ) → next < next' → next < pages → slots' ≤ slots → round' ≤ round
    → (pages - next') + slots' * m + round' + 1 < (pages - next) + slots * m + round + 1
none-lower pages next next' slots slots' m round round' onward within fewer lower =
    let e = mul-le slots' m slots m fewer (omega arith) in
    omega (arith, e, onward, within, lower)

-- some slots are
some-lower : (pages next next' slots slots' entries round round' k : ℕ) → next ≤ next' → slots' + suc k ≤ slots → round' ≤ round + suc k + (entries + 5)
    → (pages - next') + slots' * (entries + 8) + round' + 1 < (pages - next) + slots * (entries + 8) + round + 1
some-lower pages next next' slots slots' entries round round' k onward fewer lower =
    let all = mul-le (slots' + suc k) (entries + 8) slots (entries + 8) fewer (omega arith) in
    let parts = add-mul slots' (suc k) (entries + 8) in
    let first = suc-mul k (entries + 8) in
    let rest : k ≤ k * (entries + 8) = le-mul_of_pos_right k (omega arith) in
    omega (arith, all, parts, first, rest, onward, lower)

-- Rounds.

whole-most : (indexes : IndexesView) (store : List Tid) → whole_round indexes store ≤ all_pieces indexes + length store
whole-most indexes [] = omega arith
whole-most indexes (tid ∷ store) = omega arith

whole-least : (indexes : IndexesView) (store : List Tid) (n : ℕ) → all_pieces indexes ≤ n → all_pieces indexes + length store ≤ whole_round indexes store + n
whole-least indexes [] n few = omega (arith, few)
whole-least indexes (tid ∷ store) n few = omega arith

whole-some : (indexes : IndexesView) (store : List Tid) → store ≢ [] → whole_round indexes store ≡ all_pieces indexes + length store
whole-some indexes [] some = absurd (some refl)
whole-some indexes (tid ∷ store) some = refl

whole-same : (indexes : IndexesView) (store store' : List Tid) → length store' ≡ length store → whole_round indexes store' ≡ whole_round indexes store
whole-same indexes [] [] e = refl
whole-same indexes [] (t ∷ s) e = absurd (omega (arith, e))
whole-same indexes (t ∷ s) [] e = absurd (omega (arith, e))
whole-same indexes (t ∷ s) (u ∷ r) e = ap (λ n. all_pieces indexes + n) e

-- index 0 is the first of all
first-index : (indexes : IndexesView) → HasIndexes indexes → pieces_in None (entries_in indexes 0) + pieces_after indexes 0 ≡ all_pieces indexes
first-index indexes has = ap (λ n. n + pieces_after indexes 0) (sym (pieces-in_use indexes 0 has.by_key))

begun-round : (indexes : IndexesView) (limit : ℕ) (store : List Tid) → HasIndexes indexes → (b : Bool)
    → round_left indexes store (if b then phase.Index 0 None else phase.Heap) ≤ all_pieces indexes + length store
begun-round indexes limit store has true = let e = first-index indexes has in omega (arith, e)
begun-round indexes limit store has false = whole-most indexes store

-- A visit.

module _ (h h' : HeapView) (v : VacuumView) (horizon p : ℕ) (c : CanCount h v) (is : v.phase ≡ phase.Heap) (next : IsNextPage h v p) (v' : VacuumView)
    (visit : Visits h h' v v' horizon p) where
  abbrev took : List ℕ
  took = take (space v) visit.dead

  abbrev store' : List Tid
  store' = v.store ++ places p took

  heap : (length v.store < v.limit) × ((tid : Tid) → Contains v.store tid → tid.page < v.next)
  heap = subst (KeepsStore v) is c.itself.store

  set : SetsPage h h' p visit.visits.prunes.before.slots visit.notes.page.slots
  set = visits-set h h' v v' horizon p visit

  -- nothing of the page was collected before
  none-there : (n : ℕ) → ¬ Contains v.store (record { page = p; slot = n })
  none-there n there = let lt = heap.1 (record { page = p; slot = n }) there in let le = next.onward in absurd (omega (arith, lt, le))

  is-unused : (k : ℕ) (b a : Slot) → slice_get visit.visits.prunes.before.slots k ≡ Some b → slice_get visit.notes.page.slots k ≡ Some a → b ≡ Unused → a ≡ Unused
  is-unused k b a at_b at_a e = same_Some a Unused (sym at_a ∙ visits-unused h h' v v' horizon p visit (suc k) (at_b ∙ ap Some e))

  is-dead : (m : ℕ) → Contains took m → slot_at visit.notes.page.slots m ≡ Some Dead
  is-dead m there = (visit.lists.members m).0 (in-taken (space v) visit.dead m there)

  takes : Takes v.store store' p 1 visit.visits.prunes.before.slots visit.notes.page.slots took
  takes = record {
    count = visits-count h h' v v' horizon p visit;
    less = λ k b a at_b at_a. counts-less v.store store' p (1 + k) b a
        (λ e. counts-unused store' p (1 + k) a (is-unused k b a at_b at_a e))
        (λ there. absurd (none-there (1 + k) there));
    ascending = pairs-take (λ i j. i < j) (space v) visit.dead visit.lists.ascending;
    from = λ m there. (there-from_slot_at visit.notes.page.slots m Dead (is-dead m there)).0;
    taken = λ m k b a there e at_b at_a. (
      counts-among store' p m a (Contains-append_right v.store (places p took) (record { page = p; slot = m }) (in-mapping (λ n. record { page = p; slot = n }) took m there)),
      counts-live v.store p m b
          (λ unused. let u : a ≡ Unused = is-unused k b a at_b at_a unused in
          let d : Some a ≡ Some Dead = sym at_a ∙ (subst (λ i. slot_at visit.notes.page.slots i ≡ Some Dead) (let same : m ≡ suc k = omega (arith, e) in same) (is-dead m there)) in
          let f : Unused ≡ Dead = sym u ∙ same_Some a Dead d in cc)
          (none-there m),
    );
    within = λ m there.
        let t = (there-from_slot_at visit.notes.page.slots m Dead (is-dead m there)).1 in
        let e = visits-count h h' v v' horizon p visit in
        omega (arith, t, e);
  }

  here : count_on store' p 1 (slots_on (slots_of h') p) + length took ≤ count_on v.store p 1 (slots_on (slots_of h) p)
  here = subst (λ s. count_on store' p 1 s + length took ≤ count_on v.store p 1 (slots_on (slots_of h) p)) (sym set.is)
      (subst (λ s. count_on store' p 1 visit.notes.page.slots + length took ≤ count_on v.store p 1 s) (sym set.was)
      (count-taken v.store store' p 1 visit.visits.prunes.before.slots visit.notes.page.slots took takes))

  elsewhere : (q : ℕ) → q ≢ p → count_on store' q 1 (slots_on (slots_of h') q) ≤ count_on v.store q 1 (slots_on (slots_of h) q)
  elsewhere q off = subst (λ s. count_on store' q 1 s ≤ count_on v.store q 1 (slots_on (slots_of h) q)) (sym (set.others q off))
      (count-less v.store store' q (slots_on (slots_of h) q) (slots_on (slots_of h) q) refl (λ k b a at_b at_a.
      let same : b ≡ a = same_Some b a (sym at_b ∙ at_a) in
      counts-less v.store store' q (suc k) b a
      (λ e. counts-unused store' q (suc k) a (sym same ∙ e))
      (λ there. counts-among store' q (suc k) a (Contains-append_left v.store (places p took) (record { page = q; slot = suc k }) there))))

  -- from a page on that is not before it
  from-there : (start : ℕ) → v.next ≤ start → p ≤ start → start ≤ v.pages → start ≤ p + 1
      → count_from store' (slots_of h') start (v.pages - start) + length took ≤ count_from v.store (slots_of h) v.next (v.pages - v.next)
  from-there start after low within high =
      let onward = next.onward in
      let below = next.within in
      let all = pages-split v.store (slots_of h) v.next (p - v.next) (suc (v.pages - (p + 1))) (v.pages - v.next) (omega (arith, onward, below)) in
      let place : v.next + (p - v.next) ≡ p = omega (arith, onward) in
      let back = ap (λ n. count_from v.store (slots_of h) n (suc (v.pages - (p + 1)))) place in
      let rest = pages-less v.store store' (slots_of h) (slots_of h') (suc p) (v.pages - (p + 1)) (λ q le. elsewhere q (λ e. omega (arith, le, e))) in
      let at = here in
      ⊎_elim
      (λ same.
      let size' : suc (v.pages - (p + 1)) ≡ v.pages - start = omega (arith, same, below) in
      let first = ap (λ n. count_from store' (slots_of h') n (v.pages - start)) same in
      let second = ap (λ n. count_from store' (slots_of h') p n) size' in
      omega (arith, all, back, rest, at, first, second))
      (λ off.
      let next_is : start ≡ suc p = omega (arith, off, low, high) in
      let first = ap (λ n. count_from store' (slots_of h') n (v.pages - start)) next_is in
      let second = ap (λ n. count_from store' (slots_of h') (suc p) n) (let e : v.pages - start ≡ v.pages - (p + 1) = omega (arith, next_is) in e) in
      omega (arith, all, back, rest, at, first, second))
      (cases_eq start p)

  took-length : length took ≡ min (space v) (length visit.dead)
  took-length = length-take (space v) visit.dead

  some-space : 1 ≤ space v
  some-space = let lt = heap.0 in omega (arith, lt)

  round-most : round_left h'.indexes store' (phase_with v.limit store') ≤ all_pieces h.indexes + length store'
  round-most = subst (λ (x : IndexesView). round_left x store' (phase_with v.limit store') ≤ all_pieces h.indexes + length store') (sym set.indexes)
      (begun-round h.indexes v.limit store' c.indexes (length store' == v.limit))

  long : length store' ≡ length v.store + length took
  long = length-append v.store (places p took) ∙ ap (λ n. length v.store + n) (length-map took (λ n. record { page = p; slot = n }))

  -- the page is visited again where slots are left over, and then there was space for some
  data Next : Type 0 where
    page_again : (collected v p visit.dead).next ≡ p → space v < length visit.dead → Next
    page_done : (collected v p visit.dead).next ≡ p + 1 → length visit.dead ≤ space v → Next

  next-is : (b : Bool) → nat_lt (space v) (length visit.dead) ≡ b → Next
  next-is true e = Next.page_again (cond-true (nat_lt (space v) (length visit.dead)) p (p + 1) e) (ltb-true (space v) (length visit.dead) e)
  next-is false e = Next.page_done (cond-false (nat_lt (space v) (length visit.dead)) p (p + 1) e) (ltb-false (space v) (length visit.dead) e)

  the-round : round_left h.indexes v.store v.phase ≡ whole_round h.indexes v.store
  the-round = ap (λ ph. round_left h.indexes v.store ph) is

  -- where none is collected, the phase goes on
  round-none : length took ≡ 0 → round_left h'.indexes store' (phase_with v.limit store') ≤ whole_round h.indexes v.store
  round-none none =
      let lt = heap.0 in
      let l = long in
      let off : (length store' == v.limit) ≡ false = ne_eqb (length store') v.limit (λ e. omega (arith, lt, l, none, e)) in
      let e : round_left h'.indexes store' (phase_with v.limit store') ≡ whole_round h.indexes v.store =
      ap (λ ph. round_left h'.indexes store' ph) (cond-false (length store' == v.limit) (phase.Index 0 None) phase.Heap off)
      ∙ ap (λ x. whole_round x store') set.indexes ∙ whole-same h.indexes v.store store' (omega (arith, l, none)) in
      omega (arith, e)

  visit-by : (k : ℕ) → length took ≡ k → Next → all_pieces h.indexes ≤ v.entries + 5 → left h' (collected v p visit.dead) < left h v
  visit-by zero none (Next.page_again e more) few = absurd (let l = took-length in let s = some-space in omega (arith, l, s, none, more))
  visit-by zero none (Next.page_done e less) few =
      let slots = from-there (collected v p visit.dead).next (let o = next.onward in omega (arith, o, e)) (omega (arith, e)) (let w = next.within in omega (arith, w, e)) (omega (arith, e)) in
      let r = round-none none in
      let same = the-round in
      none-lower v.pages v.next (collected v p visit.dead).next (slots_left h v) (slots_left h' (collected v p visit.dead)) (v.entries + 8) (round_left h.indexes v.store v.phase)
      (round_left h'.indexes store' (phase_with v.limit store')) (let o = next.onward in omega (arith, o, e)) (let o = next.onward in let w = next.within in omega (arith, o, w))
      (omega (arith, slots)) (omega (arith, r, same))
  visit-by (suc k) some n few =
      let r = round-most in
      let least = whole-least h.indexes v.store (v.entries + 5) few in
      let l = long in
      let same = the-round in
      let slots = started n in
      some-lower v.pages v.next (collected v p visit.dead).next (slots_left h v) (slots_left h' (collected v p visit.dead)) v.entries (round_left h.indexes v.store v.phase)
      (round_left h'.indexes store' (phase_with v.limit store')) k slots.0 (let s = slots.1 in omega (arith, s, some)) (omega (arith, r, least, l, same, some))
    where
      started : Next → (v.next ≤ (collected v p visit.dead).next) × (slots_left h' (collected v p visit.dead) + length took ≤ slots_left h v)
      started (Next.page_again e more) = (
        (let o = next.onward in omega (arith, o, e)),
        from-there (collected v p visit.dead).next (let o = next.onward in omega (arith, o, e)) (omega (arith, e)) (let w = next.within in omega (arith, w, e)) (omega (arith, e)),
      )
      started (Next.page_done e less) = (
        (let o = next.onward in omega (arith, o, e)),
        from-there (collected v p visit.dead).next (let o = next.onward in omega (arith, o, e)) (omega (arith, e)) (let w = next.within in omega (arith, w, e)) (omega (arith, e)),
      )

  visit-lower : all_pieces h.indexes ≤ v.entries + 5 → left h' (collected v p visit.dead) < left h v
  visit-lower = visit-by (length took) refl (next-is (nat_lt (space v) (length visit.dead)) refl)

  visit-pieces : all_pieces h'.indexes ≡ all_pieces h.indexes
  visit-pieces = ap all_pieces set.indexes

-- A piece of an index.

module _ (h h' : HeapView) (v v' : VacuumView) (i : ℕ) (from : Option Entry) (s : Sweeps h h' v v' i from) where
  -- what is so of index i, and of any that stays, is so of each
  each-index : (n : ℕ) → pieces_of h'.indexes n ≤ pieces_of h.indexes n
  each-index n = pieces-fewer h.indexes h'.indexes n (s.sweeps.in_use n).1 (⊎_elim
      (λ same. subst (λ k. length (entries_in h'.indexes k) ≤ length (entries_in h.indexes k)) (sym same)
      (removed-fewer (entries_in h.indexes i) (entries_in h'.indexes i) v.store from s.progress s.sweeps.removes))
      (λ off. let e = ap (λ (o : Option (List Entry)). length (unwrap_or o [])) (s.sweeps.others n off) in omega (arith, e))
      (cases_eq n i))

  fewer-after : (n count : ℕ) → pieces_from h'.indexes n count ≤ pieces_from h.indexes n count
  fewer-after n count = all-fewer h.indexes h'.indexes n count each-index

  by-phase : (phase : Phase) → PhaseAfter h.indexes i s.progress phase → HasIndexes h.indexes
      → round_left h'.indexes v.store phase < pieces_in from (entries_in h.indexes i) + pieces_after h.indexes i + length v.store
  by-phase phase (PhaseAfter.more last e is) has = subst (λ ph. round_left h'.indexes v.store ph < pieces_in from (entries_in h.indexes i) + pieces_after h.indexes i + length v.store) (sym is)
      (let less = piece-less (entries_in h.indexes i) (entries_in h'.indexes i) v.store from last (subst (RemovesPiece (entries_in h.indexes i) (entries_in h'.indexes i) v.store from) e s.sweeps.removes) in
      let rest = fewer-after (suc i) (4 - i) in
      omega (arith, less, rest))
  by-phase phase (PhaseAfter.onward j e n is) has = subst (λ ph. round_left h'.indexes v.store ph < pieces_in from (entries_in h.indexes i) + pieces_after h.indexes i + length v.store) (sym is)
      (let some = piece-some from (entries_in h.indexes i) in
      let later = pieces-later h.indexes i j n.onward (has.few j n.in_use) in
      let first = each-index j in
      let whole = pieces-in_use h'.indexes j ((s.sweeps.in_use j).0 n.in_use) in
      let rest = fewer-after (suc j) (4 - j) in
      omega (arith, some, later, first, whole, rest))
  by-phase phase (PhaseAfter.over e n is) has = subst (λ ph. round_left h'.indexes v.store ph < pieces_in from (entries_in h.indexes i) + pieces_after h.indexes i + length v.store) (sym is)
      (let some = piece-some from (entries_in h.indexes i) in omega (arith, some))

  same-pages : slots_of h' ≡ slots_of h
  same-pages = ap (λ (g : HeapView). slots_of g) s.sweeps.is

  sweep-lower : HasIndexes h.indexes → (round : ℕ) → pieces_in from (entries_in h.indexes i) + pieces_after h.indexes i + length v.store ≤ round
      → (next slots : ℕ) → next ≤ v.next → count_from v.store (slots_of h) v.next (v.pages - v.next) ≤ slots
      → left h' v' < (v.pages - next) + slots * (v.entries + 8) + round + 1
  sweep-lower has round least next slots onward fewer =
      let r = by-phase v'.phase s.next has in
      let e = ap (λ pages. count_from v.store pages v.next (v.pages - v.next)) same-pages in
      subst (λ (u : VacuumView). left h' u < (v.pages - next) + slots * (v.entries + 8) + round + 1) (sym s.same)
      (round-lower v.pages next v.next slots (count_from v.store (slots_of h') v.next (v.pages - v.next)) (v.entries + 8) round (round_left h'.indexes v.store v'.phase) onward
      (omega (arith, e, fewer)) (omega (arith, r, least)))

  sweep-pieces : all_pieces h'.indexes ≤ all_pieces h.indexes
  sweep-pieces = fewer-after 0 5

-- Slots are freed.

left-round : (indexes : IndexesView) (store : List Tid) → round_left indexes store (phase_left store) ≡ length store
left-round indexes [] = refl
left-round indexes (tid ∷ store) = refl

module _ (h h' : HeapView) (v v' : VacuumView) (horizon p : ℕ) (c : CanCount h v) (is : v.phase ≡ phase.Free) (f : Frees h h' v v' horizon p) where
  abbrev others : List Tid
  others = off_page p v.store

  freed-set : SetsPage h h' p f.frees.before.slots f.frees.after.slots
  freed-set = frees-set h f.freed h' p horizon f.numbers f.frees f.notes

  -- a collected slot of the page is among those that are freed, and is dead
  freed-there : (n : ℕ) → Contains v.store (record { page = p; slot = n }) → Contains f.numbers n
  freed-there n there =
      let on = in-filter (λ (t : Tid). t.page == p) v.store (record { page = p; slot = n }) there (eq-eqb p p refl) in
      let m = in-mapped (λ k. record { page = p; slot = k }) f.numbers (record { page = p; slot = n }) (subst (λ l. Contains l (record { page = p; slot = n })) f.are on) in
      subst (Contains f.numbers) (ap (λ (t : Tid). t.slot) m.2) m.1

  was-dead : (n : ℕ) → Contains v.store (record { page = p; slot = n }) → slot_at f.frees.before.slots n ≡ Some Dead
  was-dead n there = ap (λ s. slot_at s n) (sym freed-set.was) ∙ c.dead (record { page = p; slot = n }) there

  freed-here : count_on others p 1 (slots_on (slots_of h') p) ≤ count_on v.store p 1 (slots_on (slots_of h) p)
  freed-here = subst (λ s. count_on others p 1 s ≤ count_on v.store p 1 (slots_on (slots_of h) p)) (sym freed-set.is)
      (subst (λ s. count_on others p 1 f.frees.after.slots ≤ count_on v.store p 1 s) (sym freed-set.was)
      (count-less v.store others p f.frees.before.slots f.frees.after.slots f.frees.does.slots.count (λ k b a at_b at_a. counts-less v.store others p (suc k) b a
      (λ e. counts-unused others p (suc k) a (same_Some a Unused (sym at_a ∙ f.frees.does.slots.others (suc k) (λ named dead. let g : Some Unused ≡ Some Dead = sym (at_b ∙ ap Some e) ∙ dead in cc) ∙ at_b ∙ ap Some e)))
      (λ there. counts-unused others p (suc k) a (same_Some a Unused (sym at_a ∙ f.frees.does.slots.freed (suc k) (freed-there (suc k) there) (was-dead (suc k) there)))))))

  freed-elsewhere : (q : ℕ) → q ≢ p → count_on others q 1 (slots_on (slots_of h') q) ≤ count_on v.store q 1 (slots_on (slots_of h) q)
  freed-elsewhere q off = subst (λ s. count_on others q 1 s ≤ count_on v.store q 1 (slots_on (slots_of h) q)) (sym (freed-set.others q off))
      (count-less v.store others q (slots_on (slots_of h) q) (slots_on (slots_of h) q) refl (λ k b a at_b at_a.
      let same : b ≡ a = same_Some b a (sym at_b ∙ at_a) in
      counts-less v.store others q (suc k) b a
      (λ e. counts-unused others q (suc k) a (sym same ∙ e))
      (λ there. counts-among others q (suc k) a
      (in-filter (λ (t : Tid). not (t.page == p)) v.store (record { page = q; slot = suc k }) there (not_from_false (q == p) (ne_eqb q p off))))))

  fewer-stored : length others < length v.store
  fewer-stored =
      let both = length-filter_both (λ (t : Tid). t.page == p) (λ (t : Tid). not (t.page == p)) (λ t. refl) v.store in
      let on = in-filter (λ (t : Tid). t.page == p) v.store f.lowest.some.0 f.lowest.some.1 (eq-eqb f.lowest.some.0.page p f.lowest.some.2) in
      let some = on.1 in
      omega (arith, both, some)

  free-lower : left h' v' < left h v
  free-lower =
      let slots = pages-less v.store others (slots_of h) (slots_of h') v.next (v.pages - v.next) (λ q le. ⊎_elim
      (λ same. subst (λ k. count_on others k 1 (slots_on (slots_of h') k) ≤ count_on v.store k 1 (slots_on (slots_of h) k)) (sym same) freed-here)
      (λ off. freed-elsewhere q off)
      (cases_eq q p)) in
      let r = left-round h'.indexes others in
      let same = ap (λ ph. round_left h.indexes v.store ph) is in
      let less = fewer-stored in
      subst (λ (u : VacuumView). left h' u < left h v) (sym f.is)
      (round-lower v.pages v.next v.next (slots_left h v) (count_from others (slots_of h') v.next (v.pages - v.next)) (v.entries + 8) (round_left h.indexes v.store v.phase)
      (round_left h'.indexes others (phase_left others)) (omega arith) slots (omega (arith, r, same, less)))

  free-pieces : all_pieces h'.indexes ≡ all_pieces h.indexes
  free-pieces = ap all_pieces freed-set.indexes

-- Each step.

pub steps-lower : (h h' : HeapView) (v v' : VacuumView) (horizon : ℕ) (piece : Piece) → CanCount h v → all_pieces h.indexes ≤ v.entries + 5
    → Steps h h' v horizon (Some v') (Some piece) → left h' v' < left h v
steps-lower h h' v _ horizon _ c few (Steps.visits p v' is next visit) =
    subst (λ (u : VacuumView). left h' (counted u) < left h v) (sym visit.collects) (visit-lower h h' v horizon p c is next v' visit few)
steps-lower h h' v _ horizon _ c few (Steps.begins_index v' is over some s) =
    let r = whole-some h.indexes v.store some in
    let first = first-index h.indexes c.indexes in
    let same = ap (λ ph. round_left h.indexes v.store ph) is in
    let none = ap (λ n. count_from v.store (slots_of h) v.pages n) (let e : v.pages - v.pages ≡ 0 = omega arith in e) in
    sweep-lower h h' (at_end v) v' 0 None s c.indexes (round_left h.indexes v.store v.phase) (omega (arith, r, first, same)) v.next (slots_left h v) c.itself.within (omega (arith, none))
steps-lower h h' v _ horizon _ c few (Steps.sweeps i from v' is s) =
    let same = ap (λ ph. round_left h.indexes v.store ph) is in
    sweep-lower h h' v v' i from s c.indexes (round_left h.indexes v.store v.phase) (omega (arith, same)) v.next (slots_left h v) (omega arith) (omega arith)
steps-lower h h' v _ horizon _ c few (Steps.frees p v' is f) = free-lower h h' v v' horizon p c is f
steps-lower h h' v _ horizon _ c few (Steps.drops p v' is d) = absurd (never-drops h h' v v' p c.dead d)

-- no entry comes
steps-pieces : (h h' : HeapView) (v v' : VacuumView) (horizon : ℕ) (piece : Piece) → CanCount h v → Steps h h' v horizon (Some v') (Some piece) → all_pieces h'.indexes ≤ all_pieces h.indexes
steps-pieces h h' v _ horizon _ c (Steps.visits p v' is next visit) = let e = visit-pieces h h' v horizon p c is next v' visit in omega (arith, e)
steps-pieces h h' v _ horizon _ c (Steps.begins_index v' is over some s) = sweep-pieces h h' (at_end v) v' 0 None s
steps-pieces h h' v _ horizon _ c (Steps.sweeps i from v' is s) = sweep-pieces h h' v v' i from s
steps-pieces h h' v _ horizon _ c (Steps.frees p v' is f) = let e = free-pieces h h' v v' horizon p c is f in omega (arith, e)
steps-pieces h h' v _ horizon _ c (Steps.drops p v' is d) = absurd (never-drops h h' v v' p c.dead d)

-- what its beginning fixed stays, and it counts one step
record GoesOn (v v' : VacuumView) : Type 0 where
  pages : v'.pages ≡ v.pages
  entries : v'.entries ≡ v.entries
  alone : v'.alone ≡ v.alone
  steps : v'.steps ≤ v.steps + 1

counted-on : (v u : VacuumView) → u.pages ≡ v.pages → u.entries ≡ v.entries → u.alone ≡ v.alone → u.steps ≡ v.steps → GoesOn v (counted u)
counted-on v u pages entries alone steps = record { pages = pages; entries = entries; alone = alone; steps = by u.alone }
  where
    by : (b : Bool) → (if b then min (u.steps + 1) 18446744073709551615 else u.steps) ≤ v.steps + 1
    by true = omega (arith, steps)
    by false = omega (arith, steps)

steps-on : (h h' : HeapView) (v v' : VacuumView) (horizon : ℕ) (piece : Piece) → Steps h h' v horizon (Some v') (Some piece) → GoesOn v v'
steps-on h h' v _ horizon _ (Steps.visits p v' is next visit) = subst (λ (u : VacuumView). GoesOn v (counted u)) (sym visit.collects) (counted-on v (collected v p visit.dead) refl refl refl refl)
steps-on h h' v _ horizon _ (Steps.begins_index v' is over some s) = subst (λ (u : VacuumView). GoesOn v (counted u)) (sym s.same) (counted-on v (record (at_end v) { phase = v'.phase }) refl refl refl refl)
steps-on h h' v _ horizon _ (Steps.sweeps i from v' is s) = subst (λ (u : VacuumView). GoesOn v (counted u)) (sym s.same) (counted-on v (record v { phase = v'.phase }) refl refl refl refl)
steps-on h h' v _ horizon _ (Steps.frees p v' is f) = subst (λ (u : VacuumView). GoesOn v (counted u)) (sym f.is)
    (counted-on v (record v { store = off_page p v.store; phase = phase_left (off_page p v.store) }) refl refl refl refl)
steps-on h h' v _ horizon _ (Steps.drops p v' is d) = subst (λ (u : VacuumView). GoesOn v (counted u)) (sym d.is)
    (counted-on v (record v { store = off_page p v.store; phase = phase_left (off_page p v.store) }) refl refl refl refl)

pub steps-within : (h h' : HeapView) (v v' : VacuumView) (horizon : ℕ) (piece : Piece) → CanCount h v → IsWithin h v → Steps h h' v horizon (Some v') (Some piece) → IsWithin h' v'
steps-within h h' v v' horizon piece c within step alone =
    let on = steps-on h h' v v' horizon piece step in
    let keeps = within (sym on.alone ∙ alone) in
    let lower = steps-lower h h' v v' horizon piece c keeps.entries step in
    let fewer = steps-pieces h h' v v' horizon piece c step in
    let e = on.entries in
    let one = on.steps in
    let few = keeps.entries in
    let most = keeps.steps in
    let same : bound v'.pages v'.entries ≡ bound v.pages v.entries = ap (λ n. bound n v'.entries) on.pages ∙ ap (λ n. bound v.pages n) on.entries in
    record {
      entries = omega (arith, fewer, e, few);
      steps = omega (arith, lower, one, most, same);
    }

pub within-below : (h : HeapView) (v : VacuumView) → IsWithin h v → v.alone ≡ true → v.steps < bound v.pages v.entries
within-below h v within alone = let most = (within alone).steps in let some : 1 ≤ left h v = omega arith in omega (arith, most, some)

-- The beginning.

begin-arith : (pages slots entries : ℕ) → slots ≤ 291 * pages → pages + slots * (entries + 8) ≤ 292 * pages * (entries + 8)
begin-arith pages slots entries few =
    let all = mul-le slots (entries + 8) (291 * pages) (entries + 8) few (omega arith) in
    let parts = add-mul (291 * pages) pages (entries + 8) in
    let some : pages ≤ pages * (entries + 8) = le-mul_of_pos_right pages (omega arith) in
    let sum = ap (λ n. n * (entries + 8)) (let e : 292 * pages ≡ 291 * pages + pages = omega arith in e) in
    omega (arith, all, parts, some, sum)

pub begins-within : (h : HeapView) (mode : Mode) (horizon cutoff limit : ℕ) → ((p : ℕ) → length (slots_on (slots_of h) p) ≤ 291)
    → KeepsBound h (new_vacuum mode horizon cutoff (length h.pages.pages) (all_entries h.indexes) limit)
begins-within h mode horizon cutoff limit few =
    let slots = pages-most [] (slots_of h) 0 (length h.pages.pages - 0) few in
    let most = begin-arith (length h.pages.pages) (count_from [] (slots_of h) 0 (length h.pages.pages - 0)) (all_entries h.indexes) (omega (arith, slots)) in
    record {
      entries = pieces-few h.indexes 0 5;
      steps = omega (arith, most);
    }
