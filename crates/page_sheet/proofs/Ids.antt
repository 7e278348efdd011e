-- Inserter and deleter of a version, read as one number.
use Rattle.std.proofs.Common.{◌≡◌, Some, None, get_or, true, false, Bool, ◌==◌, ◌&&◌, ℕ, zero, suc, ◌+◌, ◌*◌, ◌^◌, ◌<◌, List, drop, slice_index, sym, ap, ◌∙◌, refl, arith, get_or-drop}
use Rattle.std.proofs.lemmas.Bool.Decides.{nat_tests}
use Rattle.byteorder.specs.Endian.{little_from}
use Rattle.byteorder.specs.Numbers.{little_from-lt}
use Rattle.std.specs.Prelude.{Option, unwrap_or, if◌then◌else◌}
use Rattle.std.specs.Option.{option_and_then}
use Rattle.std.proofs.lemmas.Option.{same_Some}
use Rattle.tuple_header.specs.Layout.{number_at, decoded_version, decoded_row}
use Rattle.tuple_header.specs.declared.version.Row.{Row}
use Rattle.tuple_header.specs.Version.{Version}
use Rattle.page_sheet.specs.declared.slot.Slot.{Slot}
use Rattle.page_sheet.specs.declared.slot.Slot.TheVariants.{Unused, Normal, Redirect, Dead}
use Rattle.page_sheet.specs.Layout.{slot_in, slots_in}
use Rattle.page_sheet.specs.Standing.{IsVersionAt}
use Rattle.page_sheet.specs.Slots.{version_of, version_at, slot_at, is_undeleted_by, undeleted_row, undeleted_row_at}
use Rattle.page_sheet.proofs.Sounds.{slots_in-at}

-- the places of a number may be counted from anywhere
from-drop : (i j n : ℕ) (bs : List ℕ) → little_from j n (drop i bs) ≡ little_from (i + j) n bs
from-drop i j zero bs = refl
from-drop i j (suc n) bs =
    let here : slice_index (drop i bs) j ≡ slice_index bs (i + j) = get_or-drop i bs j 0 in
    let next : i + suc j ≡ suc (i + j) = omega arith in
    let rest : little_from (suc j) n (drop i bs) ≡ little_from (suc (i + j)) n bs = from-drop i (suc j) n bs ∙ ap (λ (k : ℕ). little_from k n bs) next in
    rw (here, rest) refl

-- a number of eight bytes by its halves of four
halves-of : (bs : List ℕ) → little_from 0 8 bs ≡ little_from 0 4 bs + 4294967296 * little_from 4 4 bs
halves-of bs = omega arith

pub ids-as_one : (bs : List ℕ) (x : ℕ) → ((i : ℕ) → slice_index bs i < 256) → x < 4294967296
    → (number_at 0 8 bs == x) ≡ ((number_at 0 4 bs == x) && (number_at 4 4 bs == 0))
unfolding number_at
ids-as_one bs x bytes fits =
    let both = halves-of bs in
    let low : little_from 0 4 bs < 256 ^ 4 = little_from-lt 0 4 bs bytes in
    let high : little_from 0 4 (drop 4 bs) ≡ little_from 4 4 bs = from-drop 4 0 4 bs in
    by (little_from 0 8 bs) (little_from 0 4 bs) (little_from 0 4 (drop 4 bs)) (both ∙ ap (λ (h : ℕ). little_from 0 4 bs + 4294967296 * h) (sym high)) low
  where
    by : (whole lo hi : ℕ) → whole ≡ lo + 4294967296 * hi → lo < 256 ^ 4 → (whole == x) ≡ ((lo == x) && (hi == 0))
    by whole lo hi e small = grind (arith, nat_tests)

-- so whether a slot holds a version of an inserter that nobody deleted is read off the version's bytes

undeleted-some : (s : Slot) (v : Version) (x : ℕ) → version_of s ≡ Some v → is_undeleted_by x s ≡ ((v.header.xmin.0 == x) && (v.header.xmax.0 == 0))
undeleted-some Unused v x e = absurd (cc e)
undeleted-some (Normal t) v x e = ap (λ (o : Option Version). let u = unwrap_or o v in (u.header.xmin.0 == x) && (u.header.xmax.0 == 0)) e
undeleted-some (Redirect target) v x e = absurd (cc e)
undeleted-some Dead v x e = absurd (cc e)

undeleted-none : (s : Slot) (x : ℕ) → version_of s ≡ None → is_undeleted_by x s ≡ false
undeleted-none Unused x e = refl
undeleted-none (Normal t) x e = absurd (cc e)
undeleted-none (Redirect target) x e = refl
undeleted-none Dead x e = refl

pub undeleted-version : (count : ℕ) (bytes : List ℕ) (i x : ℕ) (part : List ℕ) → i < count → IsVersionAt bytes i part
    → ((number_at 0 4 part == x) && (number_at 4 4 part == 0)) ≡ is_undeleted_by x (get_or (slots_in count bytes) i Unused)
undeleted-version count bytes i x part within at =
    sym (ap (is_undeleted_by x) (slots_in-at count bytes i Unused within) ∙ undeleted-some (slot_in bytes i) (decoded_version part) x at.value)

pub undeleted-bare : (count : ℕ) (bytes : List ℕ) (i x : ℕ) → i < count → version_of (slot_in bytes i) ≡ None
    → false ≡ is_undeleted_by x (get_or (slots_in count bytes) i Unused)
undeleted-bare count bytes i x within none =
    sym (ap (is_undeleted_by x) (slots_in-at count bytes i Unused within) ∙ undeleted-none (slot_in bytes i) x none)

-- and so is the row of such a version

undeleted-by : (s : Slot) (part : List ℕ) (x : ℕ) (b : Bool) → version_of s ≡ Some (decoded_version part)
    → b ≡ ((number_at 0 4 part == x) && (number_at 4 4 part == 0)) → is_undeleted_by x s ≡ b
undeleted-by s part x b version is = undeleted-some s (decoded_version part) x version ∙ sym is

pub undeleted-shown : (s : Slot) (part : List ℕ) (x : ℕ) (b : Bool) (row : Row) → version_of s ≡ Some (decoded_version part)
    → b ≡ ((number_at 0 4 part == x) && (number_at 4 4 part == 0)) → b ≡ true → row ≡ decoded_row part → Some row ≡ undeleted_row x s
undeleted-shown s part x b row version is holds here = rw (undeleted-by s part x b version is, holds, version, here) refl

pub undeleted-hidden : (s : Slot) (part : List ℕ) (x : ℕ) (b : Bool) → version_of s ≡ Some (decoded_version part)
    → b ≡ ((number_at 0 4 part == x) && (number_at 4 4 part == 0)) → b ≡ false → None ≡ undeleted_row x s
undeleted-hidden s part x b version is fails = rw (undeleted-by s part x b version is, fails) refl

pub undeleted-absent : (s : Slot) (x : ℕ) → version_of s ≡ None → None ≡ undeleted_row x s
undeleted-absent s x none = rw (undeleted-none s x none) refl

chosen : (b : Bool) (a row : Row) → (if b then Some a else None) ≡ Some row → (b ≡ true) × (row ≡ a)
chosen true a row e = (refl, sym (same_Some a row e))
chosen false a row e = absurd (cc e)

both-same : (a b x y : ℕ) → ((a == x) && (b == y)) ≡ true → (a ≡ x) × (b ≡ y)
both-same a b x y e = (grind (arith, nat_tests), grind (arith, nat_tests))

-- what is found by an inserter is its version, which nobody deleted
pub version-from_undeleted : (slots : List Slot) (n x : ℕ) (row : Row) → undeleted_row_at slots x n ≡ Some row
    → (t : Version) × (version_at slots n ≡ Some t) × (t.header.xmin.0 ≡ x) × (t.header.xmax.0 ≡ 0) × (row ≡ t.row)
version-from_undeleted slots n x row e = by (slot_at slots n) e
  where
    by : (o : Option Slot) → option_and_then (undeleted_row x) o ≡ Some row
        → (t : Version) × (option_and_then version_of o ≡ Some t) × (t.header.xmin.0 ≡ x) × (t.header.xmax.0 ≡ 0) × (row ≡ t.row)
    by None is = absurd (cc is)
    by (Some Unused) is = absurd (cc is)
    by (Some (Normal t)) is =
        let one = chosen ((t.header.xmin.0 == x) && (t.header.xmax.0 == 0)) t.row row is in
        let ids = both-same t.header.xmin.0 t.header.xmax.0 x 0 one.0 in
        (t, refl, ids.0, ids.1, one.1)
    by (Some (Redirect target)) is = absurd (cc is)
    by (Some Dead) is = absurd (cc is)
