-- Where versions begin, read off the bytes, and which are moved.
use Rattle.std.proofs.Common.{◌≡◌, ◌≢◌, ⊎_elim, ℕ, zero, suc, ◌+◌, ◌-◌, ◌<◌, ◌≤◌, ◌==◌, ◌&&◌, not, nat_lt, List, [], length, set, get_or, take, sum_by, Option, Some, None, sym, ap, ◌∙◌, subst, refl, arith, add-one}
use Rattle.std.specs.Int.{next_multiple_of}
use Rattle.std.proofs.lemmas.Bool.Decides.{nat_tests}
use Rattle.std.proofs.lemmas.Option.{none-some, same_Some}
use Rattle.std.proofs.lemmas.List.{ext_get_or, length-set, get_or-set_same, get_or-set_other, get_or_past}
use Rattle.std.proofs.lemmas.List.FromFn.{length-map-range_with_len, get_or-map-range_with_len}
use Rattle.page_layout.specs.declared.pointer.Pointer.{Pointer}
use Rattle.page_layout.specs.declared.pointer.Extent.{Extent}
use Rattle.page_layout.specs.Layout.{pointer_in, upper_in}
use Rattle.page_layout.proofs.OrderLemmas.{before_or_not, same_or_other}
use Rattle.page_sheet.specs.declared.slot.Slot.{Slot}
use Rattle.page_sheet.specs.Slots.{version_of, bytes_taken}
use Rattle.page_layout.specs.Sound.{HoldsNoVersion}
use Rattle.page_sheet.specs.Layout.{shown_by, slot_in, slots_in}
use Rattle.page_sheet.specs.Sheet.{SheetView}
use Rattle.page_sheet.specs.Packing.{LieInOrder}
use Rattle.page_sheet.specs.Placing.{VersionPlaces, pointer_start, start_in, places_in, places_of, start_at, OthersStay, OthersLieInOrder, HasGap, IsPutBelow}
use Rattle.page_sheet.proofs.Shown.{shown}
use Rattle.page_sheet.proofs.Sounds.{length-slots_in, slots_in-at}

-- A start is that of a pointer.

pub start-alike : (a b : List ℕ) (i : ℕ) → pointer_in b i ≡ pointer_in a i → start_in b i ≡ start_in a i
unfolding start_in
start-alike a b i e = ap pointer_start e

pub start-normal : (bytes : List ℕ) (i : ℕ) (e : Extent) → pointer_in bytes i ≡ Pointer.Normal e → start_in bytes i ≡ Some e.from
unfolding start_in
start-normal bytes i e is = ap pointer_start is

normal-of : (p : Pointer) (from : ℕ) → pointer_start p ≡ Some from → (e : Extent) × (p ≡ Pointer.Normal e) × (e.from ≡ from)
normal-of Pointer.Unused from is = absurd (none-some from is)
normal-of (Pointer.Normal e) from is = (e, refl, same_Some e.from from is)
normal-of (Pointer.Redirect target) from is = absurd (none-some from is)
normal-of Pointer.Dead from is = absurd (none-some from is)

pub normal-started : (bytes : List ℕ) (i from : ℕ) → start_in bytes i ≡ Some from → (e : Extent) × (pointer_in bytes i ≡ Pointer.Normal e) × (e.from ≡ from)
unfolding start_in
normal-started bytes i from is = normal-of (pointer_in bytes i) from is

bare-of : (bytes : List ℕ) (i : ℕ) (p : Pointer) → p ≡ pointer_in bytes i → version_of (slot_in bytes i) ≡ None → pointer_start p ≡ None
bare-of bytes i Pointer.Unused is bare = refl
bare-of bytes i (Pointer.Normal e) is bare = absurd (none-some _ (sym bare ∙ ap version_of (shown bytes i (Pointer.Normal e) is)))
bare-of bytes i (Pointer.Redirect target) is bare = refl
bare-of bytes i Pointer.Dead is bare = refl

-- a slot without a version has none
pub start-bare : (bytes : List ℕ) (i : ℕ) → version_of (slot_in bytes i) ≡ None → start_in bytes i ≡ None
unfolding start_in
start-bare bytes i bare = bare-of bytes i (pointer_in bytes i) refl bare

-- Starts by numbers.

length-starts : (count : ℕ) (bytes : List ℕ) → length (places_in count bytes).starts ≡ count
length-starts count bytes = length-map-range_with_len (start_in bytes) 0 count

pub start-there : (count : ℕ) (bytes : List ℕ) (i : ℕ) → i < count → start_at (places_in count bytes) (suc i) ≡ start_in bytes i
start-there count bytes i within = get_or-map-range_with_len (start_in bytes) 0 count i i None within (omega arith)

pub start-past : (count : ℕ) (bytes : List ℕ) (i : ℕ) → count ≤ i → start_at (places_in count bytes) (suc i) ≡ None
start-past count bytes i past =
    let long = length-starts count bytes in
    get_or_past (places_in count bytes).starts i None (omega arith)

pub start-found : (count : ℕ) (bytes : List ℕ) (n i : ℕ) → n ≡ i + 1 → i < count → start_at (places_in count bytes) n ≡ start_in bytes i
start-found count bytes n i e within = rw (e, add-one) (start-there count bytes i within)

pub start-missing : (count : ℕ) (bytes : List ℕ) (n i : ℕ) → n ≡ i + 1 → count ≤ i → start_at (places_in count bytes) n ≡ None
start-missing count bytes n i e past = rw (e, add-one) (start-past count bytes i past)

-- Where all versions stay, or all but one.

places-by : (xs ys : List (Option ℕ)) (u v : ℕ) → xs ≡ ys → u ≡ v → ◌≡◌ {A = VersionPlaces} (record { starts = xs; upper = u }) (record { starts = ys; upper = v })
places-by xs ys u v e f = rw (e, f) refl

pub places-kept : (count : ℕ) (a b : List ℕ) → upper_in b ≡ upper_in a → ((i : ℕ) → i < count → pointer_in b i ≡ pointer_in a i)
    → places_in count b ≡ places_in count a
places-kept count a b upper same =
    let x = length-starts count a in
    let y = length-starts count b in
    places-by (places_in count b).starts (places_in count a).starts (upper_in b) (upper_in a)
    (ext_get_or None (places_in count b).starts (places_in count a).starts (omega arith)
    (λ i h. let within : i < count = omega arith in
    start-there count b i within ∙ start-alike a b i (same i within) ∙ sym (start-there count a i within))) upper

pub bare-version : (count : ℕ) (p : Pointer) → HoldsNoVersion count p → version_of (shown_by [] p) ≡ None
bare-version count Pointer.Unused bare = refl
bare-version count (Pointer.Normal e) bare = absurd bare
bare-version count (Pointer.Redirect target) bare = refl
bare-version count Pointer.Dead bare = refl

-- a version goes, or there was none
pub places-cleared : (old new : SheetView) (index u : ℕ) (s : Slot) → index < old.count → new.count ≡ old.count
    → slots_in new.count new.bytes ≡ set (slots_in old.count old.bytes) index s → version_of s ≡ None
    → ((i : ℕ) → i < old.count → i ≢ index → pointer_in new.bytes i ≡ pointer_in old.bytes i) → upper_in new.bytes ≡ u
    → places_of new ≡ record { starts = set (places_of old).starts (index + 1 - 1) None; upper = u }
places-cleared old new index u s there counted slots bare same upper =
    let at : index + 1 - 1 ≡ index = omega arith in
    let x = length-starts old.count old.bytes in
    let y = length-starts new.count new.bytes in
    let z = length-set (places_of old).starts index None in
    let long = length-slots_in old.count old.bytes in
    let here : slot_in new.bytes index ≡ s =
    sym (slots_in-at new.count new.bytes index Slot.Unused (omega arith)) ∙ ap (λ (xs : List Slot). get_or xs index Slot.Unused) slots
    ∙ get_or-set_same (slots_in old.count old.bytes) index s Slot.Unused (omega arith) in
    rw at (places-by (places_of new).starts (set (places_of old).starts index None) (upper_in new.bytes) u
    (ext_get_or None (places_of new).starts (set (places_of old).starts index None) (omega arith)
    (λ i h. let within : i < new.count = omega arith in
    start-there new.count new.bytes i within ∙ ⊎_elim
    (λ e. ap (start_in new.bytes) e ∙ start-bare new.bytes index (ap version_of here ∙ bare)
    ∙ sym (ap (λ k. get_or (set (places_of old).starts index None) k None) e ∙ get_or-set_same (places_of old).starts index None None (omega arith)))
    (λ other. start-alike old.bytes new.bytes i (same i (omega arith) other) ∙ sym (start-there old.count old.bytes i (omega arith))
    ∙ sym (get_or-set_other (places_of old).starts index i None None other))
    (same_or_other i index))) upper)

-- The slots of a page to which one may have come, at an index behind the others.
pub record IsGrownAt (old new : SheetView) (index : ℕ) : Type 0 where
  pub within : index < new.count
  pub most : old.count ≤ new.count
  pub others : (i : ℕ) → i < new.count → i ≢ index → i < old.count

others-stay : (old new : SheetView) (index : ℕ) → IsGrownAt old new index → ((i : ℕ) → i < old.count → i ≢ index → pointer_in new.bytes i ≡ pointer_in old.bytes i)
    → OthersStay (places_of old) (places_of new) (index + 1)
others-stay old new index g same zero other = refl
others-stay old new index g same (suc i) other =
    let off : i ≢ index = λ e. other (omega arith) in
    let most = g.most in
    ⊎_elim
    (λ within. let inside = g.others i within off in
    start-there new.count new.bytes i within ∙ start-alike old.bytes new.bytes i (same i inside off) ∙ sym (start-there old.count old.bytes i inside))
    (λ past. start-past new.count new.bytes i past ∙ sym (start-past old.count old.bytes i (omega arith)))
    (before_or_not i new.count)

others-lie : (slots : List Slot) (way new : SheetView) (index : ℕ) → IsGrownAt way new index → ((i : ℕ) → i < way.count → i ≢ index → pointer_in new.bytes i ≡ pointer_in way.bytes i)
    → LieInOrder way.bytes slots way.count → OthersLieInOrder slots (places_of new) (index + 1)
others-lie slots way new index g same lie zero from other is = absurd (none-some from is)
others-lie slots way new index g same lie (suc i) from other is =
    let off : i ≢ index = λ e. other (omega arith) in
    ⊎_elim
    (λ within. let inside = g.others i within off in
    let p = normal-started new.bytes i from (sym (start-there new.count new.bytes i within) ∙ is) in
    let lies = lie i p.0 inside (sym (same i inside off) ∙ p.1) in
    rw add-one at (subst (λ (f : ℕ). f + sum_by bytes_taken (take (i + 1) slots) ≡ 8192) p.2 lies))
    (λ past. absurd (none-some from (sym (start-past new.count new.bytes i past) ∙ is)))
    (before_or_not i new.count)

-- Way is made for a version of so many bytes, and then it is put right below all others, which stay.

pub put-below : (old way new : SheetView) (index len wanted : ℕ) → way.count ≡ old.count → IsGrownAt way new index
    → (HasGap old.count (upper_in old.bytes) wanted → way ≡ old)
    → (¬ HasGap old.count (upper_in old.bytes) wanted → LieInOrder way.bytes (slots_in old.count old.bytes) way.count)
    → (¬ HasGap old.count (upper_in old.bytes) wanted → upper_in way.bytes + sum_by bytes_taken (slots_in old.count old.bytes) ≡ 8192)
    → pointer_in new.bytes index ≡ Pointer.Normal (record { from = upper_in new.bytes; len = len })
    → ((i : ℕ) → i < way.count → i ≢ index → pointer_in new.bytes i ≡ pointer_in way.bytes i) → upper_in new.bytes + next_multiple_of len 8 ≡ upper_in way.bytes
    → IsPutBelow (slots_in old.count old.bytes) (places_of old) (places_of new) (index + 1) (next_multiple_of len 8) wanted
put-below old way new index len wanted counted g stays order packed here others below =
    let long = length-slots_in old.count old.bytes in
    let gap : HasGap (length (slots_in old.count old.bytes)) (upper_in old.bytes) wanted → HasGap old.count (upper_in old.bytes) wanted = λ h. omega (arith, h) in
    let none : ¬ HasGap (length (slots_in old.count old.bytes)) (upper_in old.bytes) wanted → ¬ HasGap old.count (upper_in old.bytes) wanted = λ h k. h (omega (arith, k)) in
    record {
      here = start-found new.count new.bytes (index + 1) index refl g.within ∙ start-normal new.bytes index (record { from = upper_in new.bytes; len = len }) here;
      stays = λ h. subst (λ (s : SheetView). OthersStay (places_of s) (places_of new) (index + 1)) (stays (gap h)) (others-stay way new index g others);
      below = λ h. below ∙ ap (λ (s : SheetView). upper_in s.bytes) (stays (gap h));
      order = λ h. others-lie (slots_in old.count old.bytes) way new index g others (order (none h));
      packed = λ h. let all = packed (none h) in omega arith;
    }

-- Of what versions take as much goes as one takes: then none is left where that was all.

pub some-lost : (before after taken left : ℕ) → before ≡ left + taken → after ≡ left → 0 < taken → (left == 0) ≡ (not (before == 0) && (after == 0))
some-lost before after taken left all rest some = grind (arith, nat_tests)

pub none-lost : (before after taken left : ℕ) → before ≡ left + taken → after ≡ left → taken ≤ 0 → nat_lt 0 taken ≡ (not (before == 0) && (after == 0))
none-lost before after taken left all rest none = grind (arith, nat_tests)
