-- Versions that lie one behind the other are moved at once.
use Rattle.std.proofs.Common.{◌≡◌, ◌≢◌, ⊎_elim, inl, inr, ◌⊎◌, ℕ, ◌+◌, ◌*◌, ◌-◌, ◌%◌, ◌/◌, ◌^◌, ◌<◌, ◌≤◌, List, length, take, drop, slice_index, sum_by, sym, ap, ◌∙◌, subst, refl, arith, length-take, length-drop, get_or-take, get_or-drop}
use Rattle.std.specs.Int.{next_multiple_of}
use Rattle.std.specs.Int.Bits.{bit_and, bit_or, bit_xor, and_zero_r, xor_zero_r, xor_self, xor_assoc}
use Rattle.std.proofs.lemmas.Nat.{and_comm, or_comm, xor_comm, or_mod, xor_mod, and_or_self}
use Rattle.std.proofs.lemmas.Bool.Decides.{nat_tests}
use Rattle.std.proofs.lemmas.List.{take_all, take-take}
use Rattle.std.proofs.lemmas.List.Sums.{sum_by-take-le}
use Rattle.tuple_header.specs.Layout.{number_at, with_bytes, decoded_version}
use Rattle.tuple_header.specs.Faults.{first_fault}
use Rattle.page_layout.specs.declared.pointer.Pointer.{Pointer}
use Rattle.page_layout.specs.declared.pointer.Extent.{Extent}
use Rattle.page_sheet.specs.declared.slot.Slot.{Slot}
use Rattle.page_sheet.specs.Slots.{bytes_taken}
use Rattle.page_layout.specs.Layout.{word_of, pointer_in, part_of}
use Rattle.page_sheet.specs.Layout.{slot_in, slots_in}
use Rattle.page_layout.specs.Sound.{IsSound, IsPointer, AreApart, HasPlainWord, end_of}
use Rattle.page_layout.specs.Raising.{end_in, moved_up, IsRaised}
use Rattle.page_sheet.specs.Packing.{LiesOver, IsPacked, taken_to, IsBlock}
use Rattle.page_layout.proofs.PointerLemmas.{rounded-up}
use Rattle.page_sheet.proofs.Shown.{shown, taken-shown}
use Rattle.page_layout.proofs.Frames.{Agrees, agrees-with_bytes, part-same, with_bytes-within, number-outside, pointer-outside, plain-outside, part-outside}
use Rattle.page_sheet.proofs.Sounds.{extent-in, slot-kept, length-slots_in}
use Rattle.page_sheet.proofs.HeaderSet.{same_extent}
use Rattle.page_sheet.proofs.PackLemmas.{taken-more, none-taken}
use Rattle.page_layout.proofs.OrderLemmas.{before_or_not, last_or_before}

-- What slots take.

pub taken-mono : (bytes : List ℕ) (count a b : ℕ) → a ≤ b → taken_to bytes count a ≤ taken_to bytes count b
taken-mono bytes count a b h =
    subst (λ (xs : List Slot). sum_by bytes_taken xs ≤ taken_to bytes count b) (take-take a b (slots_in count bytes) h)
    (sum_by-take-le bytes_taken (take b (slots_in count bytes)) a)

pub taken-all : (bytes : List ℕ) (count : ℕ) → taken_to bytes count count ≡ sum_by bytes_taken (slots_in count bytes)
taken-all bytes count =
    let long = length-slots_in count bytes in
    ap (λ (xs : List Slot). sum_by bytes_taken xs) (take_all count (slots_in count bytes) (omega arith))

pub taken-normal : (bytes : List ℕ) (count i : ℕ) (e : Extent) → IsSound bytes count → i < count → pointer_in bytes i ≡ Pointer.Normal e
    → taken_to bytes count (i + 1) ≡ taken_to bytes count i + next_multiple_of e.len 8
taken-normal bytes count i e sound within is =
    taken-more bytes count i within ∙ ap (λ (n : ℕ). taken_to bytes count i + n) (taken-shown bytes i e sound.long (extent-in bytes count i e sound within is) (sym is))

pub taken-bare : (bytes : List ℕ) (count i : ℕ) → i < count → ((e : Extent) → pointer_in bytes i ≡ Pointer.Normal e → ⊥)
    → taken_to bytes count (i + 1) ≡ taken_to bytes count i
taken-bare bytes count i within none =
    let more = taken-more bytes count i within in
    let nothing = none-taken bytes i (pointer_in bytes i) refl none in
    omega arith

-- A run grows by a slot.

pub run-start : (bytes : List ℕ) (count first top : ℕ) → top % 8 ≡ 0 → IsBlock bytes count first top first top
run-start bytes count first top even = record { total = refl; even = even; lie = λ j e h k. absurd (omega arith) }

pub run-normal : (bytes : List ℕ) (count first top i low : ℕ) (e : Extent) → IsSound bytes count → i < count → pointer_in bytes i ≡ Pointer.Normal e
    → e.from + next_multiple_of e.len 8 ≡ low → IsBlock bytes count first top i low → IsBlock bytes count first top (i + 1) e.from
run-normal bytes count first top i low e sound within is next run =
    let more = taken-normal bytes count i e sound within is in
    let sum = run.total in
    let total : e.from + taken_to bytes count (i + 1) ≡ top + taken_to bytes count first = omega arith in
    record {
      total = total;
      even = (extent-in bytes count i e sound within is).aligned;
      lie = λ j d h k there. ⊎_elim
          (λ same. subst (λ (x : Extent). x.from + taken_to bytes count (j + 1) ≡ top + taken_to bytes count first) (same_extent e d (sym is ∙ ap (pointer_in bytes) (sym same) ∙ there))
          (subst (λ (n : ℕ). e.from + taken_to bytes count (n + 1) ≡ top + taken_to bytes count first) (sym same) total))
          (λ before. run.lie j d h before there)
          (last_or_before j i k);
    }

pub run-bare : (bytes : List ℕ) (count first top i low : ℕ) → i < count → ((e : Extent) → pointer_in bytes i ≡ Pointer.Normal e → ⊥)
    → IsBlock bytes count first top i low → IsBlock bytes count first top (i + 1) low
run-bare bytes count first top i low within none run =
    let more = taken-bare bytes count i within none in
    record {
      total = ap (λ (n : ℕ). low + n) more ∙ run.total;
      even = run.even;
      lie = λ j d h k there. ⊎_elim
          (λ same. absurd (none d (ap (pointer_in bytes) (sym same) ∙ there)))
          (λ before. run.lie j d h before there)
          (last_or_before j i k);
    }

-- Versions that all lie where they are to.

-- the version of a slot was moved
pub record IsPlaced (old new : List ℕ) (count j : ℕ) (e d : Extent) : Type 0 where
  pub here : pointer_in new j ≡ Pointer.Normal d
  pub lies : d.from + taken_to old count (j + 1) ≡ 8192
  pub len : d.len ≡ e.len
  pub aligned : d.from % 8 ≡ 0
  pub part : part_of new d ≡ part_of old e

-- each of the first so many slots of the old bytes is in its place among the new
pub record AreAllPlaced (old new : List ℕ) (count index : ℕ) : Type 0 where
  pub within : index ≤ count
  pub normal : (j : ℕ) (e : Extent) → j < index → pointer_in old j ≡ Pointer.Normal e → (d : Extent) × (IsPlaced old new count j e d)
  pub bare : (j : ℕ) → j < index → ((e : Extent) → pointer_in old j ≡ Pointer.Normal e → ⊥) → pointer_in new j ≡ pointer_in old j

-- a version among the new bytes was one among the old
record WasThere (old new : List ℕ) (count j : ℕ) (d : Extent) : Type 0 where
  pub before : Extent
  pub was : pointer_in old j ≡ Pointer.Normal before
  pub placed : IsPlaced old new count j before d

was_there : (old new : List ℕ) (count index j : ℕ) (d : Extent) → AreAllPlaced old new count index → j < index → pointer_in new j ≡ Pointer.Normal d → WasThere old new count j d
was_there old new count index j d all within there = by (pointer_in old j) refl
  where
    by : (p : Pointer) → p ≡ pointer_in old j → WasThere old new count j d
    by Pointer.Unused is = absurd (let same = all.bare j within (λ e x. absurd (cc)) in cc)
    by (Pointer.Normal e) is =
        let n = all.normal j e within (sym is) in
        record { before = e; was = sym is; placed = subst (IsPlaced old new count j e) (same_extent n.0 d (sym n.1.here ∙ there)) n.1 }
    by (Pointer.Redirect target) is = absurd (let same = all.bare j within (λ e x. absurd (cc)) in cc)
    by Pointer.Dead is = absurd (let same = all.bare j within (λ e x. absurd (cc)) in cc)

slot-placed : (old new : List ℕ) (count index j : ℕ) (p : Pointer) → AreAllPlaced old new count index → j < index → p ≡ pointer_in old j → slot_in new j ≡ slot_in old j
slot-placed old new count index j Pointer.Unused all within is = slot-kept old new j (all.bare j within (λ e x. absurd (cc))) (λ e there. absurd (cc))
slot-placed old new count index j (Pointer.Normal e) all within is =
    let n = all.normal j e within (sym is) in
    shown new j (Pointer.Normal n.0) (sym n.1.here) ∙ ap (λ (x : List ℕ). Slot.Normal (decoded_version x)) n.1.part ∙ sym (shown old j (Pointer.Normal e) is)
slot-placed old new count index j (Pointer.Redirect target) all within is = slot-kept old new j (all.bare j within (λ e x. absurd (cc))) (λ e there. absurd (cc))
slot-placed old new count index j Pointer.Dead all within is = slot-kept old new j (all.bare j within (λ e x. absurd (cc))) (λ e there. absurd (cc))

apart-by : (p q : Pointer) → ((d e : Extent) → p ≡ Pointer.Normal d → q ≡ Pointer.Normal e → (end_of d ≤ e.from) ⊎ (end_of e ≤ d.from)) → AreApart p q
apart-by Pointer.Unused q far = tt
apart-by (Pointer.Normal d) Pointer.Unused far = tt
apart-by (Pointer.Normal d) (Pointer.Normal e) far = far d e refl refl
apart-by (Pointer.Normal d) (Pointer.Redirect target) far = tt
apart-by (Pointer.Normal d) Pointer.Dead far = tt
apart-by (Pointer.Redirect target) q far = tt
apart-by Pointer.Dead q far = tt

-- where a version of the new bytes ends
ends-at : (old new : List ℕ) (count index j : ℕ) (d : Extent) → IsSound old count → AreAllPlaced old new count index → j < index → pointer_in new j ≡ Pointer.Normal d
    → end_of d + taken_to old count j ≡ 8192
ends-at old new count index j d sound all within there =
    let bound = all.within in
    let w = was_there old new count index j d all within there in
    let more = taken-normal old count j w.before sound (omega arith) w.was in
    let lies = w.placed.lies in
    let size : next_multiple_of d.len 8 ≡ next_multiple_of w.before.len 8 = ap (λ (n : ℕ). next_multiple_of n 8) w.placed.len in
    omega arith

lies-over : (old new : List ℕ) (count index j top : ℕ) (d : Extent) → IsSound old count → AreAllPlaced old new count index → j < index → pointer_in new j ≡ Pointer.Normal d
    → top + taken_to old count index ≡ 8192 → LiesOver new top d
lies-over old new count index j top d sound all within there total =
    let bound = all.within in
    let w = was_there old new count index j d all within there in
    let good = extent-in old count j w.before sound (omega arith) w.was in
    let lies = w.placed.lies in
    let end = ends-at old new count index j d sound all within there in
    let most = taken-mono old count (j + 1) index (omega arith) in
    let least : 66 ≤ w.before.len = good.least in
    let len = w.placed.len in
    record { over = omega arith; aligned = w.placed.aligned; least = omega arith; within = omega arith; faultless = ap first_fault w.placed.part ∙ good.faultless }

-- the lower of two slots lies above the other
above : (old new : List ℕ) (count index i j : ℕ) (d e : Extent) → IsSound old count → AreAllPlaced old new count index → i < j → j < index
    → pointer_in new i ≡ Pointer.Normal d → pointer_in new j ≡ Pointer.Normal e → end_of e ≤ d.from
above old new count index i j d e sound all before within first second =
    let w = was_there old new count index i d all (omega arith) first in
    let lies = w.placed.lies in
    let end = ends-at old new count index j e sound all within second in
    let most = taken-mono old count (i + 1) j (omega arith) in
    omega arith

all-apart : (old new : List ℕ) (count index i j : ℕ) → IsSound old count → AreAllPlaced old new count index → i < index → j < index → (i ≡ j) ⊎ AreApart (pointer_in new i) (pointer_in new j)
all-apart old new count index i j sound all h k = ⊎_elim
    (λ before. inr (apart-by (pointer_in new i) (pointer_in new j) (λ d e first second. inr (above old new count index i j d e sound all before k first second))))
    (λ not_before. ⊎_elim
    (λ after. inr (apart-by (pointer_in new i) (pointer_in new j) (λ d e first second. inl (above old new count index j i e d sound all after h second first))))
    (λ not_after. inl (omega arith))
    (before_or_not j i))
    (before_or_not i j)

pub packed-from_placed : (old new : List ℕ) (count index top : ℕ) → IsSound old count → AreAllPlaced old new count index → length new ≡ 8192 → top + taken_to old count index ≡ 8192
    → top % 8 ≡ 0 → ((i n : ℕ) → i + n ≤ 24 → number_at i n new ≡ number_at i n old) → ((j : ℕ) → index ≤ j → j < count → pointer_in new j ≡ pointer_in old j)
    → ((j : ℕ) → j < count → HasPlainWord new j) → IsPacked old new count index top
packed-from_placed old new count index top sound all long total even header later plain = record {
  long = long;
  total = total;
  even = even;
  header = header;
  later = later;
  plain = plain;
  slots = λ j h. slot-placed old new count index j (pointer_in old j) all h refl;
  bare = λ j h none. all.bare j h none;
  over = λ j d h there. lies-over old new count index j top d sound all h there total;
  order = λ j d h there. (was_there old new count index j d all h there).placed.lies;
  normal = λ j e h there. let n = all.normal j e h there in (n.0, n.1.here);
  apart = λ i j h k. all-apart old new count index i j sound all h k;
}

-- the versions of the first slots lie where they are to from the beginning
pub packed-run : (old : List ℕ) (count first upper : ℕ) → IsSound old count → first ≤ count → IsBlock old count 0 8192 first upper → IsPacked old old count first upper
packed-run old count first upper sound within run =
    packed-from_placed old old count first upper sound record {
      within = within;
      normal = λ j e h is. (e, record { here = is; lies = run.lie j e (omega arith) h is; len = refl; aligned = (extent-in old count j e sound (omega arith) is).aligned; part = refl });
      bare = λ j h none. refl;
    } sound.long run.total run.even (λ i n h. refl) (λ j h k. refl) sound.plain

-- A run is moved up.

-- a part of what was moved
part-slid : (old m : List ℕ) (low top by : ℕ) (e : Extent) → length old ≡ 8192 → low ≤ top → top + by ≤ 8192 → m ≡ with_bytes (low + by) (take (top - low) (drop low old)) old
    → low ≤ e.from → e.from + e.len ≤ top → part_of m (record { from = e.from + by; len = e.len }) ≡ part_of old e
part-slid old m low top by e whole order high written over under =
    let block = take (top - low) (drop low old) in
    let size : length block ≡ top - low = rw (length-take, length-drop) (omega arith) in
    let agrees : Agrees (low + by) (top + by) old m = subst (Agrees (low + by) (top + by) old) (sym written) (agrees-with_bytes (low + by) (top + by) block old (omega arith) (omega arith)) in
    let long = agrees.long in
    part-same e.from (e.from + by) e.len old m (omega arith) (omega arith)
    (λ k h. let at : e.from + by + k ≡ (low + by) + (e.from - low + k) = omega arith in
    let to : low + (e.from - low + k) ≡ e.from + k = omega arith in
    ap (λ (xs : List ℕ). slice_index xs (e.from + by + k)) written ∙ ap (slice_index (with_bytes (low + by) block old)) at
    ∙ with_bytes-within (low + by) (e.from - low + k) block old (omega arith) (omega arith)
    ∙ get_or-take (top - low) (drop low old) (e.from - low + k) 0 (omega arith) ∙ get_or-drop low old (e.from - low + k) 0 ∙ ap (slice_index old) to)

raised-bare : (by : ℕ) (p : Pointer) → ((e : Extent) → p ≡ Pointer.Normal e → ⊥) → moved_up by p ≡ p
raised-bare by Pointer.Unused none = refl
raised-bare by (Pointer.Normal e) none = absurd (none e refl)
raised-bare by (Pointer.Redirect target) none = refl
raised-bare by Pointer.Dead none = refl

-- the versions of the first slots are in their places, those of the others were moved up
pub slid : (old m b : List ℕ) (count first upper low top by : ℕ) → IsSound old count → first ≤ count → IsBlock old count 0 8192 first upper → IsBlock old count first top count low
    → top + by ≡ upper → by % 8 ≡ 0 → 4 * count + sum_by bytes_taken (slots_in count old) ≤ 8168
    → m ≡ with_bytes (low + by) (take (top - low) (drop low old)) old → IsRaised m b first count by → IsPacked old b count count (low + by)
slid old m b count first upper low top by sound within head tail hole by_even room written lifted =
    packed-from_placed old b count count (low + by) sound (record { within = omega arith; normal = normal; bare = bare }) (agrees_2.long ∙ agrees_1.long ∙ whole) total (omega (arith, even)) header
    (λ j h k. absurd (omega arith)) plain
  where
    whole : length old ≡ 8192
    whole = sound.long

    sum_first : upper + taken_to old count first ≡ 8192
    sum_first = head.total

    sum_all : low + taken_to old count count ≡ top + taken_to old count first
    sum_all = tail.total

    even : low % 8 ≡ 0
    even = tail.even

    all : taken_to old count count ≡ sum_by bytes_taken (slots_in count old)
    all = taken-all old count

    most : taken_to old count first ≤ taken_to old count count
    most = taken-mono old count first count within

    total : (low + by) + taken_to old count count ≡ 8192
    total = omega (arith, sum_first, sum_all)

    size : length (take (top - low) (drop low old)) ≡ top - low
    size = rw (length-take, length-drop) (omega (arith, whole, sum_first, sum_all, most))

    agrees_1 : Agrees (low + by) upper old m
    agrees_1 = subst (Agrees (low + by) upper old) (sym written) (agrees-with_bytes (low + by) upper (take (top - low) (drop low old)) old (omega (arith, whole, sum_first, sum_all, most, size)) (omega (arith, sum_all, most, size)))

    agrees_2 : Agrees (24 + 4 * first) (24 + 4 * count) m b
    agrees_2 = record { long = lifted.long; same = lifted.same }

    header : (i n : ℕ) → i + n ≤ 24 → number_at i n b ≡ number_at i n old
    header i n h = number-outside (24 + 4 * first) (24 + 4 * count) i n m b agrees_2 (inl (omega (arith, whole, sum_first, sum_all, all, most))) ∙ number-outside (low + by) upper i n old m agrees_1 (inl (omega (arith, whole, sum_first, sum_all, all, most)))

    kept : (j : ℕ) → j < count → pointer_in m j ≡ pointer_in old j
    kept j h = pointer-outside (low + by) upper j old m agrees_1 (inl (omega (arith, whole, sum_first, sum_all, all, most)))

    lower : (j : ℕ) → j < first → pointer_in b j ≡ pointer_in old j
    lower j h = pointer-outside (24 + 4 * first) (24 + 4 * count) j m b agrees_2 (inl (omega (arith, whole, sum_first, sum_all, all, most))) ∙ kept j (omega (arith, whole, sum_first, sum_all, all, most))

    higher : (j : ℕ) → first ≤ j → j < count → pointer_in b j ≡ moved_up by (pointer_in old j)
    higher j h k = lifted.raised j h k ∙ ap (moved_up by) (kept j k)

    plain : (j : ℕ) → j < count → HasPlainWord b j
    plain j h = ⊎_elim
        (λ before. plain-outside (24 + 4 * first) (24 + 4 * count) j m b agrees_2 (inl (omega (arith, whole, sum_first, sum_all, all, most))) (plain-outside (low + by) upper j old m agrees_1 (inl (omega (arith, whole, sum_first, sum_all, all, most))) (sound.plain j h)))
        (λ after. lifted.plain j after h) (before_or_not j first)

    bare : (j : ℕ) → j < count → ((e : Extent) → pointer_in old j ≡ Pointer.Normal e → ⊥) → pointer_in b j ≡ pointer_in old j
    bare j h none = ⊎_elim (λ before. lower j before) (λ after. higher j after h ∙ raised-bare by (pointer_in old j) none) (before_or_not j first)

    normal_below : (j : ℕ) (e : Extent) → j < first → pointer_in old j ≡ Pointer.Normal e → IsPlaced old b count j e e
    normal_below j e h is =
        let good = extent-in old count j e sound (omega (arith, whole, sum_first, sum_all, all, most)) is in
        let end : e.from + next_multiple_of e.len 8 ≤ 8192 = good.within in
        let up = rounded-up e.len in
        let lies : e.from + taken_to old count (j + 1) ≡ 8192 = head.lie j e (omega (arith, whole, sum_first, sum_all, all, most)) h is in
        let less = taken-mono old count (j + 1) first (omega (arith, whole, sum_first, sum_all, all, most)) in
        record {
          here = lower j h ∙ is;
          lies = lies;
          len = refl;
          aligned = good.aligned;
          part = part-outside (24 + 4 * first) (24 + 4 * count) e m b agrees_2 (omega (arith, whole, agrees_1.long)) (inr (omega (arith, whole, sum_first, sum_all, all, most)))
              ∙ part-outside (low + by) upper e old m agrees_1 (omega (arith, whole, sum_first, sum_all, all, most)) (inr (omega (arith, whole, sum_first, sum_all, all, most)));
        }

    normal_above : (j : ℕ) (e : Extent) → first ≤ j → j < count → pointer_in old j ≡ Pointer.Normal e → IsPlaced old b count j e (record { from = e.from + by; len = e.len })
    normal_above j e h k is =
        let good = extent-in old count j e sound k is in
        let aligned : e.from % 8 ≡ 0 = good.aligned in
        let up = rounded-up e.len in
        let lies = tail.lie j e h k is in
        let more = taken-normal old count j e sound k is in
        let less = taken-mono old count first j h in
        let rest = taken-mono old count (j + 1) count (omega (arith, whole, sum_first, sum_all, all, most)) in
        record {
          here = higher j h k ∙ ap (moved_up by) is;
          lies = omega (arith, whole, sum_first, sum_all, all, most);
          len = refl;
          aligned = omega (arith, whole, sum_first, sum_all, all, most);
          part = part-outside (24 + 4 * first) (24 + 4 * count) (record { from = e.from + by; len = e.len }) m b agrees_2 (omega (arith, whole, agrees_1.long)) (inr (omega (arith, whole, sum_first, sum_all, all, most)))
              ∙ part-slid old m low top by e whole (omega (arith, whole, sum_first, sum_all, all, most)) (omega (arith, whole, sum_first, sum_all, all, most)) written (omega (arith, whole, sum_first, sum_all, all, most)) (omega (arith, whole, sum_first, sum_all, all, most));
        }

    normal : (j : ℕ) (e : Extent) → j < count → pointer_in old j ≡ Pointer.Normal e → (d : Extent) × (IsPlaced old b count j e d)
    normal j e h is = ⊎_elim
        (λ before. (e, normal_below j e before is))
        (λ after. (record { from = e.from + by; len = e.len }, normal_above j e after h is))
        (before_or_not j first)

-- The words of pointers.

-- the edge of a run, as it stands in a word
pub record IsEdge (bytes : List ℕ) (count first top index edge : ℕ) : Type 0 where
  pub run : IsBlock bytes count first top index (edge - 32768)
  pub least : 32768 ≤ edge
  pub most : edge ≤ 40960

-- a word whose version ends at the edge
record EndsThere (bytes : List ℕ) (i word edge : ℕ) : Type 0 where
  pub extent : Extent
  pub here : pointer_in bytes i ≡ Pointer.Normal extent
  pub ends : extent.from + next_multiple_of extent.len 8 ≡ edge - 32768
  pub offset : word % 131072 ≡ extent.from + 32768
  pub within : extent.from ≤ 8192

rounded-by : (n : ℕ) → (n + 7) / 8 * 8 ≡ next_multiple_of n 8
rounded-by n = grind (arith, nat_tests)

ends-there : (bytes : List ℕ) (count i word edge : ℕ) → IsSound bytes count → i < count → word ≡ number_at (24 + 4 * i) 4 bytes → 32768 ≤ edge → edge ≤ 40960
    → end_in word ≡ edge → EndsThere bytes i word edge
ends-there bytes count i word edge sound within read least most test = by (pointer_in bytes i) refl (read ∙ sound.plain i within) (sound.pointers i within)
  where
    by : (p : Pointer) → p ≡ pointer_in bytes i → word ≡ word_of p → IsPointer bytes count p → EndsThere bytes i word edge
    by Pointer.Unused is plain good = absurd (omega (arith, plain, test, least))
    by (Pointer.Normal e) is plain good =
        let end : e.from + next_multiple_of e.len 8 ≤ 8192 = good.within in
        let offset : word % 131072 ≡ e.from + 32768 = omega (arith, plain) in
        let size : (word + 917504) / 1048576 ≡ (e.len + 7) / 8 = omega (arith, plain) in
        let up = rounded-by e.len in
        record { extent = e; here = sym is; ends = omega (arith, test); offset = offset; within = omega arith }
    by (Pointer.Redirect target) is plain good = let few = sound.few in absurd (omega (arith, plain, test, most, good.0, good.1))
    by Pointer.Dead is plain good = absurd (omega (arith, plain, test, most))

-- a word of another kind than a version's
other-kind : (bytes : List ℕ) (count i word : ℕ) (e : Extent) → IsSound bytes count → i < count → word ≡ number_at (24 + 4 * i) 4 bytes → word / 32768 % 4 ≢ 1 → pointer_in bytes i ≡ Pointer.Normal e → ⊥
other-kind bytes count i word e sound within read kind is =
    let good = extent-in bytes count i e sound within is in
    let end : e.from + next_multiple_of e.len 8 ≤ 8192 = good.within in
    let plain : word ≡ e.from + 32768 + e.len * 131072 = read ∙ sound.plain i within ∙ ap word_of is in
    kind (omega arith)

-- What the parts of a closed hole ask for.
pub record Closes (old : List ℕ) (count first upper low top : ℕ) : Type 0 where
  pub tail : IsBlock old count first top count low
  pub order : low ≤ top
  pub behind : 24 + 4 * count ≤ low + (upper - top)
  pub room : top + (upper - top) ≡ upper
  pub most : upper ≤ 8192
  pub even : (upper - top) % 8 ≡ 0

pub closes : (old : List ℕ) (count first upper end low top : ℕ) → IsBlock old count 0 8192 first upper → first ≤ count → IsBlock old count first top end low → end ≤ count → count ≤ end
    → top ≤ upper → top % 8 ≡ 0 → 4 * count + sum_by bytes_taken (slots_in count old) ≤ 8168 → Closes old count first upper low top
closes old count first upper end low top head within run at_most at_least under aligned room =
    let whole : end ≡ count = omega arith in
    let tail = subst (λ (n : ℕ). IsBlock old count first top n low) whole run in
    let sum_first : upper + taken_to old count first ≡ 8192 = head.total in
    let sum_all = tail.total in
    let even = head.even in
    let all = taken-all old count in
    let most = taken-mono old count first count within in
    record { tail = tail; order = omega arith; behind = omega arith; room = omega arith; most = omega arith; even = omega arith }

-- The edge goes down by a slot.

pub edge-next : (bytes : List ℕ) (count first top i word edge below : ℕ) → IsSound bytes count → i < count → word ≡ number_at (24 + 4 * i) 4 bytes
    → IsEdge bytes count first top i edge → end_in word ≡ edge → below ≡ word % 131072 → IsEdge bytes count first top (i + 1) below
edge-next bytes count first top i word edge below sound within read at test is =
    let there = ends-there bytes count i word edge sound within read at.least at.most test in
    let offset = there.offset in
    let most = there.within in
    let low : below - 32768 ≡ there.extent.from = omega arith in
    record {
      run = subst (IsBlock bytes count first top (i + 1)) (sym low) (run-normal bytes count first top i (edge - 32768) there.extent sound within there.here there.ends at.run);
      least = omega arith;
      most = omega arith;
    }

pub edge-pass : (bytes : List ℕ) (count first top i word edge : ℕ) → IsSound bytes count → i < count → word ≡ number_at (24 + 4 * i) 4 bytes
    → IsEdge bytes count first top i edge → word / 32768 % 4 ≢ 1 → IsEdge bytes count first top (i + 1) edge
edge-pass bytes count first top i word edge sound within read at kind = record {
  run = run-bare bytes count first top i (edge - 32768) within (λ e is. other-kind bytes count i word e sound within read kind is) at.run;
  least = at.least;
  most = at.most;
}

pub edge-start : (bytes : List ℕ) (count first top : ℕ) → top ≤ 8192 → top % 8 ≡ 0 → IsEdge bytes count first top first (top + 32768)
edge-start bytes count first top page even =
    let low : top + 32768 - 32768 ≡ top = omega arith in
    record { run = subst (IsBlock bytes count first top first) (sym low) (run-start bytes count first top even); least = omega arith; most = omega arith }

-- Versions one behind the other, with no other slot among them.

-- no number has a bit that isn't in all bits taken together
or-none : (a b : ℕ) → bit_or a b ≡ 0 → b ≡ 0
or-none a b none = sym (and_or_self b a) ∙ ap (λ (x : ℕ). bit_and x b) none ∙ and_comm 0 b ∙ and_zero_r b

-- numbers that differ in no bit
xor-none : (a b : ℕ) → bit_xor a b ≡ 0 → a ≡ b
xor-none a b none = sym (xor_zero_r a) ∙ ap (bit_xor a) (sym (xor_self b)) ∙ sym (xor_assoc a b b) ∙ ap (λ (x : ℕ). bit_xor x b) none ∙ xor_comm 0 b ∙ xor_zero_r b

-- where no low bit of all differences is set, none was set before, and the last two numbers have the same low bits
pub joined : (apart a b : ℕ) → bit_or apart (bit_xor a b) % 2 ^ 17 ≡ 0 → (apart % 2 ^ 17 ≡ 0) × (a % 2 ^ 17 ≡ b % 2 ^ 17)
joined apart a b none =
    let low : bit_or (apart % 2 ^ 17) (bit_xor a b % 2 ^ 17) ≡ 0 = sym (or_mod apart (bit_xor a b) 17) ∙ none in (
      or-none (bit_xor a b % 2 ^ 17) (apart % 2 ^ 17) (or_comm (bit_xor a b % 2 ^ 17) (apart % 2 ^ 17) ∙ low),
      xor-none (a % 2 ^ 17) (b % 2 ^ 17) (sym (xor_mod a b 17) ∙ or-none (apart % 2 ^ 17) (bit_xor a b % 2 ^ 17) low),
    )

-- a pointer's end has no higher bits
end-low : (bytes : List ℕ) (count i word : ℕ) → IsSound bytes count → i < count → word ≡ number_at (24 + 4 * i) 4 bytes → end_in word < 131072
end-low bytes count i word sound within read = by (pointer_in bytes i) (read ∙ sound.plain i within) (sound.pointers i within)
  where
    by : (p : Pointer) → word ≡ word_of p → IsPointer bytes count p → end_in word < 131072
    by Pointer.Unused plain good = omega (arith, plain)
    by (Pointer.Normal e) plain good =
        let end : e.from + next_multiple_of e.len 8 ≤ 8192 = good.within in
        let offset : word % 131072 ≡ e.from + 32768 = omega (arith, plain) in
        let size : (word + 917504) / 1048576 ≡ (e.len + 7) / 8 = omega (arith, plain) in
        let up = rounded-by e.len in
        omega arith
    by (Pointer.Redirect target) plain good = let few = sound.few in omega (arith, plain, good.0, good.1)
    by Pointer.Dead plain good = omega (arith, plain)

-- where no version so far lies apart from the one before it, they are a run, whose edge stands in the last one's word
pub record IsFull (bytes : List ℕ) (count first top index apart : ℕ) : Type 0 where
  pub begun : first < index
  pub run : apart % 131072 ≡ 0 → IsEdge bytes count first top index (number_at (20 + 4 * index) 4 bytes % 131072)

full-next : (bytes : List ℕ) (count first top i edge : ℕ) → IsSound bytes count → i < count → IsEdge bytes count first top i edge → end_in (number_at (24 + 4 * i) 4 bytes) ≡ edge
    → IsEdge bytes count first top (i + 1) (number_at (20 + 4 * (i + 1)) 4 bytes % 131072)
full-next bytes count first top i edge sound within at test =
    let place : 20 + 4 * (i + 1) ≡ 24 + 4 * i = omega arith in
    edge-next bytes count first top i (number_at (24 + 4 * i) 4 bytes) edge (number_at (20 + 4 * (i + 1)) 4 bytes % 131072) sound within refl at test
    (ap (λ (k : ℕ). number_at k 4 bytes % 131072) place)

pub full-start : (bytes : List ℕ) (count first top word : ℕ) → IsSound bytes count → first < count → top ≤ 8192 → top % 8 ≡ 0 → word ≡ number_at (24 + 4 * first) 4 bytes
    → end_in word ≡ top + 32768 → IsFull bytes count first top (first + 1) 0
full-start bytes count first top word sound within page even read test = record {
  begun = omega arith;
  run = λ none. full-next bytes count first top first (top + 32768) sound within (edge-start bytes count first top page even) (ap end_in (sym read) ∙ test);
}

pub full-more : (bytes : List ℕ) (count first top i apart above word : ℕ) → IsSound bytes count → i < count → above ≡ number_at (20 + 4 * i) 4 bytes → word ≡ number_at (24 + 4 * i) 4 bytes
    → IsFull bytes count first top i apart → IsFull bytes count first top (i + 1) (bit_or apart (bit_xor (end_in word) above))
full-more bytes count first top i apart above word sound within read_above read full =
    let begun = full.begun in
    record {
      begun = omega arith;
      run = λ none.
          let same = joined apart (end_in word) above none in
          let low = end-low bytes count i word sound within read in
          let test : end_in word ≡ above % 131072 = omega (arith, low, same.1) in
          full-next bytes count first top i (number_at (20 + 4 * i) 4 bytes % 131072) sound within (full.run same.0)
          (ap end_in (sym read) ∙ test ∙ ap (λ (n : ℕ). n % 131072) read_above);
    }
