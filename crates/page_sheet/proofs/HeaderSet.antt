-- What a page keeps when the header of a version is written where it stands.
use Rattle.std.proofs.Common.{◌≡◌, ◌≢◌, ⊎_elim, inl, inr, ◌⊎◌, ℕ, ◌+◌, ◌*◌, ◌<◌, ◌≤◌, List, ◌++◌, length, take, drop, set, sym, ap, ◌∙◌, subst, refl, arith, None, length-take, length-drop}
use Rattle.std.proofs.lemmas.List.{drop-drop, set-get_or}
use borrow.Rule.Slice.PartMut.{put_mid}
use Rattle.tuple_header.specs.declared.version.Header.{Header}
use Rattle.tuple_header.specs.Layout.{with_bytes, decoded_version, header_bytes}
use Rattle.tuple_header.specs.Faults.{HeaderFits, header_fault, first_fault}
use Rattle.tuple_header.specs.Version.{Version}
use Rattle.tuple_header.specs.declared.version.Row.{Row}
use Rattle.tuple_header.proofs.Headers.{with_header_bytes, length-new, header-new, row-new, faultless-new}
use Rattle.page_layout.specs.declared.pointer.Pointer.{Pointer}
use Rattle.page_layout.specs.declared.pointer.Extent.{Extent}
use Rattle.page_sheet.specs.declared.slot.Slot.{Slot}
use Rattle.page_sheet.specs.Slots.{with_header}
use Rattle.page_layout.specs.Layout.{pointer_in, part_of, upper_in}
use Rattle.page_sheet.specs.Layout.{slot_in, slots_in, SlotsBecome}
use Rattle.page_layout.specs.Sound.{IsSound, AreApart}
use Rattle.page_layout.proofs.PointerLemmas.{rounded-up}
use Rattle.page_sheet.proofs.Shown.{shown, part-long}
use Rattle.page_layout.proofs.OrderLemmas.{same_or_other}
use Rattle.page_layout.proofs.Frames.{Agrees, agrees-with_bytes, part-written, number-outside, pointer-outside}
use Rattle.page_sheet.proofs.Sounds.{slots_in-at, extent-in, part-kept, slot-kept, slots-set, sound-behind}

-- what is written to a part of the bytes
pub put-part : (a k : ℕ) (xs ys : List ℕ) → length ys ≡ k → put_mid a k xs ys ≡ with_bytes a ys xs
unfolding with_bytes
put-part a k xs ys e =
    let moved = drop-drop k a xs in
    let same : drop (a + k) xs ≡ drop (a + length ys) xs = ap (λ (n : ℕ). drop (a + n) xs) (sym e) in
    cc

pub same_extent : (d e : Extent) → Pointer.Normal d ≡ Pointer.Normal e → d ≡ e
same_extent d e is = cc

-- two versions of a page lie apart
pub extents-apart : (a : List ℕ) (count i j : ℕ) (d e : Extent) → IsSound a count → i < count → j < count → j ≢ i
    → pointer_in a i ≡ Pointer.Normal e → pointer_in a j ≡ Pointer.Normal d → (d.from + d.len ≤ e.from) ⊎ (e.from + e.len ≤ d.from)
extents-apart a count i j d e sound h k other is_i is_j =
    let up_d = rounded-up d.len in
    let up_e = rounded-up e.len in
    ⊎_elim (λ same. absurd (other (sym same)))
    (λ far. let apart : AreApart (Pointer.Normal e) (Pointer.Normal d) = subst (λ (p : Pointer). AreApart p (Pointer.Normal d)) is_i (subst (λ (p : Pointer). AreApart (pointer_in a i) p) is_j far) in
    ⊎_elim (λ before. inr (omega arith)) (λ behind. inl (omega arith)) apart)
    (sound.apart i j h k)

pub record IsReheaded (a b : List ℕ) (count i : ℕ) (h : Header) : Type 0 where
  pub sound : IsSound b count
  pub slots : SlotsBecome a b count (set (slots_in count a) i (with_header (slot_in a i) h))
  pub upper : upper_in b ≡ upper_in a
  pub pointers : (j : ℕ) → j < count → pointer_in b j ≡ pointer_in a j

pub header-set : (a b : List ℕ) (count i : ℕ) (e : Extent) (h : Header) → IsSound a count → i < count → pointer_in a i ≡ Pointer.Normal e → HeaderFits h
    → header_fault h ≡ None → b ≡ with_bytes e.from (header_bytes h ++ drop 24 (part_of a e)) a → IsReheaded a b count i h
header-set a b count i e h sound there is fits good written =
    let old = part_of a e in
    let new = with_header_bytes h old in
    let extent = extent-in a count i e sound there is in
    let whole = sound.long in
    let size = part-long a e whole extent in
    let least : 66 ≤ e.len = extent.least in
    let long : length new ≡ e.len = length-new h old fits (omega arith) ∙ size.0 in
    let over : upper_in a ≤ e.from = extent.over in
    let gap : 24 + 4 * count ≤ upper_in a = sound.gap in
    let end : e.from + e.len ≤ 8192 = size.1 in
    let agrees : Agrees e.from (e.from + e.len) a b = subst (Agrees e.from (e.from + e.len) a) (sym written) (agrees-with_bytes e.from (e.from + e.len) new a (omega arith) (omega arith)) in
    let here : part_of b e ≡ new = ap (λ (bytes : List ℕ). take e.len (drop e.from bytes)) written
    ∙ ap (λ (n : ℕ). take n (drop e.from (with_bytes e.from new a))) (sym long) ∙ part-written e.from new a (omega arith) in
    let none : first_fault (part_of b e) ≡ None = ap first_fault here ∙ faultless-new h old fits good extent.faultless in
    let others : (j : ℕ) (d : Extent) → j < count → j ≢ i → pointer_in a j ≡ Pointer.Normal d → part_of b d ≡ part_of a d = λ j d k other is_j.
    part-kept a b count e.from (e.from + e.len) j d sound agrees k is_j (extents-apart a count i j d e sound there k other is is_j) in
    let pointers : (j : ℕ) → j < count → pointer_in b j ≡ pointer_in a j = λ j k. pointer-outside e.from (e.from + e.len) j a b agrees (inl (omega arith)) in
    let faultless : (j : ℕ) (d : Extent) → j < count → pointer_in a j ≡ Pointer.Normal d → first_fault (part_of b d) ≡ None = λ j d k is_j.
    ⊎_elim (λ same. let one : d ≡ e = same_extent d e (sym is_j ∙ ap (pointer_in a) same ∙ is) in ap (λ (x : Extent). first_fault (part_of b x)) one ∙ none)
    (λ other. ap first_fault (others j d k other is_j) ∙ (extent-in a count j d sound k is_j).faultless)
    (same_or_other j i) in
    let shows : slot_in b i ≡ Slot.Normal (decoded_version (part_of b e)) = shown b i (Pointer.Normal e) (sym (pointers i there ∙ is)) in
    let was : slot_in a i ≡ Slot.Normal (decoded_version old) = shown a i (Pointer.Normal e) (sym is) in
    let version : decoded_version new ≡ record { header = h; row = (decoded_version old).row } =
    ap (λ (x : Header). let v : Version = record { header = x; row = (decoded_version new).row } in v) (header-new h old fits)
    ∙ ap (λ (x : Row). let v : Version = record { header = h; row = x } in v) (row-new h old fits) in
    let becomes : slot_in b i ≡ with_header (slot_in a i) h = shows ∙ ap (λ (part : List ℕ). Slot.Normal (decoded_version part)) here ∙ ap Slot.Normal version
    ∙ sym (ap (λ (s : Slot). with_header s h) was) in
    record {
      sound = sound-behind a b count e.from (e.from + e.len) sound agrees (omega arith) faultless;
      slots = record {
        are = slots-set count i a b (with_header (slot_in a i) h) there becomes (λ j k other. slot-kept a b j (pointers j k) (λ d is_j. others j d k other is_j));
        change = number-outside e.from (e.from + e.len) 0 8 a b agrees (inl (omega arith));
        flags = number-outside e.from (e.from + e.len) 10 2 a b agrees (inl (omega arith));
      };
      upper = number-outside e.from (e.from + e.len) 14 2 a b agrees (inl (omega arith));
      pointers = pointers;
    }

-- what writing a header to the front of a version's bytes leaves
pub header-put : (f k : ℕ) (e : Extent) (h : Header) (bytes out : List ℕ) → f ≡ e.from → k ≡ e.len → HeaderFits h → 24 ≤ e.len → e.from + e.len ≤ length bytes
    → out ≡ header_bytes h ++ drop 24 (take k (drop f bytes)) → put_mid f k bytes out ≡ with_bytes e.from (header_bytes h ++ drop 24 (part_of bytes e)) bytes
header-put f k e h bytes out from_is len_is fits least within is =
    let part : take k (drop f bytes) ≡ part_of bytes e = ap (λ (n : ℕ). take n (drop f bytes)) len_is ∙ ap (λ (n : ℕ). take e.len (drop n bytes)) from_is in
    let new : out ≡ with_header_bytes h (part_of bytes e) = is ∙ ap (with_header_bytes h) part in
    let size : length (part_of bytes e) ≡ e.len = rw (length-take, length-drop) (omega arith) in
    let long : length out ≡ k = ap length new ∙ length-new h (part_of bytes e) fits (omega arith) ∙ size ∙ sym len_is in
    put-part f k bytes out long ∙ ap (λ (n : ℕ). with_bytes n out bytes) from_is ∙ ap (λ (ys : List ℕ). with_bytes e.from ys bytes) new

with_header-none : (a : List ℕ) (i : ℕ) (p : Pointer) (h : Header) → p ≡ pointer_in a i → ((e : Extent) → p ≡ Pointer.Normal e → ⊥) → with_header (slot_in a i) h ≡ slot_in a i
with_header-none a i Pointer.Unused h is other = let s = shown a i Pointer.Unused is in ap (λ (s : Slot). with_header s h) s ∙ sym s
with_header-none a i (Pointer.Normal e) h is other = absurd (other e refl)
with_header-none a i (Pointer.Redirect target) h is other = let s = shown a i (Pointer.Redirect target) is in ap (λ (s : Slot). with_header s h) s ∙ sym s
with_header-none a i Pointer.Dead h is other = let s = shown a i Pointer.Dead is in ap (λ (s : Slot). with_header s h) s ∙ sym s

-- where there is no version nothing changes
pub header-none : (a : List ℕ) (count i : ℕ) (p : Pointer) (h : Header) → i < count → p ≡ pointer_in a i → ((e : Extent) → p ≡ Pointer.Normal e → ⊥)
    → slots_in count a ≡ set (slots_in count a) i (with_header (slot_in a i) h)
header-none a count i p h within is other =
    sym (ap (set (slots_in count a) i) (with_header-none a i p h is other ∙ sym (slots_in-at count a i Slot.Unused within)) ∙ set-get_or (slots_in count a) i Slot.Unused)
