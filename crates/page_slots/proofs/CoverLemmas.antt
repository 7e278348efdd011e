-- The units of the versions of the first so many slots are marked: one slot more.
use Rattle.std.proofs.Common.{◌≡◌, ℕ, zero, suc, ◌+◌, ◌*◌, ◌/◌, ◌%◌, ◌<◌, ◌≤◌, nat_lt, ◌&&◌, ◌||◌, Bool, true, false, cond, if◌then◌else◌, ◌⊎◌, inl, inr, ⊎_elim, List, length, Option, Some, None, sym, ap, ◌∙◌, refl, arith, subst}
use Rattle.std.proofs.lemmas.Bool.{cases_Bool, true≢false}
use Rattle.std.proofs.lemmas.Bool.Decides.{nat_tests}
use Rattle.std.specs.Int.{next_multiple_of}
use Rattle.std.specs.Prelude.{replicate, slice_index_or}
use Rattle.std.proofs.lemmas.List.{length-replicate}
use Rattle.std.proofs.lemmas.List.Folds.{sum_by-replicate}
use Rattle.page_layout.specs.declared.faults.PageFault.{PageFault}
use Rattle.page_layout.specs.declared.faults.PageFault.TheVariants.{Overlap}
use Rattle.page_layout.specs.declared.pointer.Pointer.{Pointer}
use Rattle.page_layout.specs.declared.pointer.Extent.{Extent}
use Rattle.page_layout.specs.Layout.{pointer_in, upper_in}
use Rattle.page_layout.specs.Sound.{IsExtent, AreApart, end_of}
use Rattle.page_slots.specs.Faults.{overlap, overlaps_among, overlap_fault}
use Rattle.page_layout.specs.Faults.{first_among}
use Rattle.page_layout.specs.Units.{is_marked, units_marked, AreMarked, SomeIsMarked}
use Rattle.page_slots.specs.Marking.{SomeLiesOn, IsCovered}
use Rattle.page_layout.proofs.PointerLemmas.{rounded-up}
use Rattle.page_layout.proofs.OrderLemmas.{below_or_last, same_or_other}
use Rattle.page_sheet.proofs.HeaderSet.{same_extent}
use Rattle.page_layout.proofs.FirstLemmas.{first-more, none-each}
use Rattle.page_layout.proofs.FaultLemmas.{none-of_one}
use Rattle.page_layout.proofs.MarkLemmas.{counted-above}
use Rattle.page_sheet.proofs.Added.{rounded_even}

-- Overlaps.

-- a pointer that no version of these bounds overlaps
overlap-none : (p : Pointer) (e : Extent) → ((d : Extent) → p ≡ Pointer.Normal d → d.from < end_of e → e.from < end_of d → ⊥) → overlap p (Pointer.Normal e) ≡ false
overlap-none Pointer.Unused e apart = refl
overlap-none (Pointer.Normal d) e apart =
    ⊎_elim (λ (is : (nat_lt d.from (end_of e) && nat_lt e.from (end_of d)) ≡ true). absurd (apart d refl (first is) (second is))) (λ is. is)
    (cases_Bool (nat_lt d.from (end_of e) && nat_lt e.from (end_of d)))
  where
    first : (nat_lt d.from (end_of e) && nat_lt e.from (end_of d)) ≡ true → d.from < end_of e
    first is = grind (arith, nat_tests)

    second : (nat_lt d.from (end_of e) && nat_lt e.from (end_of d)) ≡ true → e.from < end_of d
    second is = grind (arith, nat_tests)
overlap-none (Pointer.Redirect target) e apart = refl
overlap-none Pointer.Dead e apart = refl

-- nothing overlaps a slot without a version
pub overlap-bare : (p q : Pointer) → ((e : Extent) → q ≡ Pointer.Normal e → ⊥) → overlap p q ≡ false
overlap-bare Pointer.Unused q none = refl
overlap-bare (Pointer.Normal d) Pointer.Unused none = refl
overlap-bare (Pointer.Normal d) (Pointer.Normal e) none = absurd (none e refl)
overlap-bare (Pointer.Normal d) (Pointer.Redirect target) none = refl
overlap-bare (Pointer.Normal d) Pointer.Dead none = refl
overlap-bare (Pointer.Redirect target) q none = refl
overlap-bare Pointer.Dead q none = refl

overlap-apart : (p q : Pointer) → overlap p q ≡ false → AreApart p q
overlap-apart Pointer.Unused q none = tt
overlap-apart (Pointer.Normal d) Pointer.Unused none = tt
overlap-apart (Pointer.Normal d) (Pointer.Normal e) none = by (end_of d) e.from (end_of e) d.from none
  where
    by : (a b c f : ℕ) → (nat_lt f c && nat_lt b a) ≡ false → (a ≤ b) ⊎ (c ≤ f)
    by a b c f h = ⊎_elim (λ (x : nat_lt b a ≡ true). inr (grind (arith, nat_tests))) (λ (x : nat_lt b a ≡ false). inl (grind (arith, nat_tests))) (cases_Bool (nat_lt b a))
overlap-apart (Pointer.Normal d) (Pointer.Redirect target) none = tt
overlap-apart (Pointer.Normal d) Pointer.Dead none = tt
overlap-apart (Pointer.Redirect target) q none = tt
overlap-apart Pointer.Dead q none = tt

apart-flipped : (p q : Pointer) → AreApart p q → AreApart q p
apart-flipped Pointer.Unused Pointer.Unused apart = tt
apart-flipped Pointer.Unused (Pointer.Normal e) apart = tt
apart-flipped Pointer.Unused (Pointer.Redirect target) apart = tt
apart-flipped Pointer.Unused Pointer.Dead apart = tt
apart-flipped (Pointer.Normal d) Pointer.Unused apart = tt
apart-flipped (Pointer.Normal d) (Pointer.Normal e) apart = ⊎_elim (λ a. inr a) (λ b. inl b) apart
apart-flipped (Pointer.Normal d) (Pointer.Redirect target) apart = tt
apart-flipped (Pointer.Normal d) Pointer.Dead apart = tt
apart-flipped (Pointer.Redirect t) Pointer.Unused apart = tt
apart-flipped (Pointer.Redirect t) (Pointer.Normal e) apart = tt
apart-flipped (Pointer.Redirect t) (Pointer.Redirect target) apart = tt
apart-flipped (Pointer.Redirect t) Pointer.Dead apart = tt
apart-flipped Pointer.Dead Pointer.Unused apart = tt
apart-flipped Pointer.Dead (Pointer.Normal e) apart = tt
apart-flipped Pointer.Dead (Pointer.Redirect target) apart = tt
apart-flipped Pointer.Dead Pointer.Dead apart = tt

pub apart-overlap : (p q : Pointer) → AreApart p q → overlap p q ≡ false
apart-overlap Pointer.Unused q apart = refl
apart-overlap (Pointer.Normal d) Pointer.Unused apart = refl
apart-overlap (Pointer.Normal d) (Pointer.Normal e) apart = ⊎_elim (λ a. grind (arith, nat_tests)) (λ b. grind (arith, nat_tests)) apart
apart-overlap (Pointer.Normal d) (Pointer.Redirect target) apart = refl
apart-overlap (Pointer.Normal d) Pointer.Dead apart = refl
apart-overlap (Pointer.Redirect target) q apart = refl
apart-overlap Pointer.Dead q apart = refl

-- Among the lower slots.

pub among-none : (bytes : List ℕ) (i n : ℕ) → ((j : ℕ) → j < n → overlap (pointer_in bytes j) (pointer_in bytes i) ≡ false) → overlaps_among bytes i n ≡ false
among-none bytes i zero none = refl
among-none bytes i (suc n) none =
    let before = among-none bytes i n (λ j h. none j (omega arith)) in
    let last = none n (omega arith) in
    rw (before, last) refl

either-true : (a b : Bool) → (a ≡ true) ⊎ (b ≡ true) → (a || b) ≡ true
either-true true b h = refl
either-true false b h = ⊎_elim (λ x. absurd (cc)) (λ y. y) h

among-some : (bytes : List ℕ) (i n j : ℕ) → j < n → overlap (pointer_in bytes j) (pointer_in bytes i) ≡ true → overlaps_among bytes i n ≡ true
among-some bytes i zero j within is = absurd (omega arith)
among-some bytes i (suc n) j within is =
    either-true (overlaps_among bytes i n) (overlap (pointer_in bytes n) (pointer_in bytes i))
    (⊎_elim (λ same. inr (ap (λ (k : ℕ). overlap (pointer_in bytes k) (pointer_in bytes i)) (sym same) ∙ is))
    (λ other. inl (among-some bytes i n j (below_or_last j n (omega arith) other) is))
    (same_or_other j n))

none-or : (a b : Bool) → (a || b) ≡ false → (a ≡ false) × (b ≡ false)
none-or false false h = (refl, refl)
none-or false true h = absurd (cc)
none-or true b h = absurd (cc)

none-among : (bytes : List ℕ) (i n j : ℕ) → j < n → overlaps_among bytes i n ≡ false → overlap (pointer_in bytes j) (pointer_in bytes i) ≡ false
none-among bytes i zero j within none = absurd (omega arith)
none-among bytes i (suc n) j within none =
    let both = none-or (overlaps_among bytes i n) (overlap (pointer_in bytes n) (pointer_in bytes i)) none in
    ⊎_elim (λ same. ap (λ (k : ℕ). overlap (pointer_in bytes k) (pointer_in bytes i)) same ∙ both.1)
    (λ other. none-among bytes i n j (below_or_last j n (omega arith) other) both.0)
    (same_or_other j n)

pub overlap_fault-none : (bytes : List ℕ) (i : ℕ) → ((j : ℕ) → j < i → overlap (pointer_in bytes j) (pointer_in bytes i) ≡ false) → overlap_fault bytes i ≡ None
unfolding overlap_fault
overlap_fault-none bytes i none =
    ap (λ (b : Bool). let o : Option PageFault = if b then Some (Overlap (i + 1)) else None in o) (among-none bytes i i none)

overlap_fault-some : (bytes : List ℕ) (i j : ℕ) → j < i → overlap (pointer_in bytes j) (pointer_in bytes i) ≡ true → overlap_fault bytes i ≡ Some (Overlap (i + 1))
unfolding overlap_fault
overlap_fault-some bytes i j within is =
    ap (λ (b : Bool). let o : Option PageFault = if b then Some (Overlap (i + 1)) else None in o) (among-some bytes i i j within is)

none-overlaps : (bytes : List ℕ) (i j : ℕ) → overlap_fault bytes i ≡ None → j < i → overlap (pointer_in bytes j) (pointer_in bytes i) ≡ false
unfolding overlap_fault
none-overlaps bytes i j none within = none-among bytes i i j within (none-of_one (overlaps_among bytes i i) (Overlap (i + 1)) none)

-- where no slot has this fault, all are apart
pub apart-from_none : (bytes : List ℕ) (count i j : ℕ) → first_among (overlap_fault bytes) count ≡ None → i < count → j < count → (i ≡ j) ⊎ AreApart (pointer_in bytes i) (pointer_in bytes j)
apart-from_none bytes count i j none h k = ⊎_elim (λ same. inl same) (λ other. inr (⊎_elim
    (λ (below : nat_lt i j ≡ true). overlap-apart (pointer_in bytes i) (pointer_in bytes j) (none-overlaps bytes j i (none-each (overlap_fault bytes) count none j k) (grind (arith, nat_tests))))
    (λ (above : nat_lt i j ≡ false). apart-flipped (pointer_in bytes j) (pointer_in bytes i)
    (overlap-apart (pointer_in bytes j) (pointer_in bytes i) (none-overlaps bytes i j (none-each (overlap_fault bytes) count none i h)
    (let le : j ≤ i = grind (arith, nat_tests) in omega (arith, other)))))
    (cases_Bool (nat_lt i j))))
    (same_or_other i j)

-- Units.

-- where a version begins and ends
record IsSpan (e : Extent) : Type 0 where
  pub from : 8 * (e.from / 8) ≡ e.from
  pub to : 8 * (end_of e / 8) ≡ end_of e
  pub some : e.from < end_of e
  pub within : end_of e ≤ 8192

pub eighths : (n : ℕ) → n % 8 ≡ 0 → 8 * (n / 8) ≡ n
eighths n even = omega arith

sum-even : (a b : ℕ) → a % 8 ≡ 0 → b % 8 ≡ 0 → (a + b) % 8 ≡ 0
sum-even a b h k = omega arith

span : (bytes : List ℕ) (e : Extent) → IsExtent bytes e → IsSpan e
span bytes e good =
    let up = rounded-up e.len in
    let least : 66 ≤ e.len = good.least in
    record {
      from = eighths e.from good.aligned;
      to = eighths (end_of e) (sum-even e.from (next_multiple_of e.len 8) good.aligned (rounded_even e.len));
      some = omega arith;
      within = good.within;
    }

-- two versions that share a byte share a unit
record SomeUnit (d e : Extent) : Type 0 where
  pub unit : ℕ
  pub first_from : d.from ≤ 8 * unit
  pub first_to : 8 * unit < end_of d
  pub second_from : e.from / 8 ≤ unit
  pub second_to : unit < end_of e / 8

shared-in : (a b c f : ℕ) (x y z w : ℕ) → 8 * x ≡ a → 8 * y ≡ b → 8 * z ≡ c → 8 * w ≡ f → a < b → c < f → a < f → c < b
    → (unit : ℕ) × (a ≤ 8 * unit) × (8 * unit < b) × (z ≤ unit) × (unit < w)
shared-in a b c f x y z w p q r s h k m n =
    ⊎_elim (λ (le : nat_lt a c ≡ true). (z, grind (arith, nat_tests), omega arith, omega arith, omega arith))
    (λ (ge : nat_lt a c ≡ false). (x, omega arith, omega arith, grind (arith, nat_tests), omega arith))
    (cases_Bool (nat_lt a c))

shared : (d e : Extent) → IsSpan d → IsSpan e → d.from < end_of e → e.from < end_of d → SomeUnit d e
shared d e first second h k =
    let u = shared-in d.from (end_of d) e.from (end_of e) (d.from / 8) (end_of d / 8) (e.from / 8) (end_of e / 8) first.from first.to second.from second.to first.some second.some h k in
    record { unit = u.0; first_from = u.1; first_to = u.2; second_from = u.3; second_to = u.4 }

-- One slot more.

-- a version whose units were free overlaps no lower one
pub fresh-none : (bytes : List ℕ) (i : ℕ) (marks new : List Bool) (e : Extent) → ((j : ℕ) (d : Extent) → j < i → pointer_in bytes j ≡ Pointer.Normal d → IsExtent bytes d)
    → IsExtent bytes e → pointer_in bytes i ≡ Pointer.Normal e → IsCovered bytes i marks → AreMarked marks new (e.from / 8) (end_of e / 8) → overlap_fault bytes i ≡ None
fresh-none bytes i marks new e goods good is covered marked =
    overlap_fault-none bytes i (λ j h. subst (λ (q : Pointer). overlap (pointer_in bytes j) q ≡ false) (sym is)
    (overlap-none (pointer_in bytes j) e (λ d there before after.
    let u = shared d e (span bytes d (goods j d h there)) (span bytes e good) before after in
    true≢false (sym (covered.marked u.unit j h (record { extent = d; is = there; from = u.first_from; to = u.first_to })) ∙ marked.free u.unit u.second_from u.second_to))))

-- a version one of whose units was marked overlaps a lower one
pub stale-some : (bytes : List ℕ) (i : ℕ) (marks : List Bool) (e : Extent) → IsExtent bytes e → pointer_in bytes i ≡ Pointer.Normal e → IsCovered bytes i marks
    → SomeIsMarked marks (e.from / 8) (end_of e / 8) → overlap_fault bytes i ≡ Some (Overlap (i + 1))
stale-some bytes i marks e good is covered before =
    let s = span bytes e good in
    let from = s.from in
    let to = s.to in
    let owner = covered.owned before.unit before.marked in
    let d = owner.lies.extent in
    let least = before.least in
    let most = before.most in
    let d_from : d.from ≤ 8 * before.unit = owner.lies.from in
    let d_to : 8 * before.unit < end_of d = owner.lies.to in
    overlap_fault-some bytes i owner.index owner.within
    (subst (λ (p : Pointer). overlap p (pointer_in bytes i) ≡ true) (sym owner.lies.is)
    (subst (λ (q : Pointer). overlap (Pointer.Normal d) q ≡ true) (sym is)
    (both-below d.from (end_of d) e.from (end_of e) (omega arith) (omega arith))))
  where
    both-below : (a b c f : ℕ) → a < f → c < b → (nat_lt a f && nat_lt c b) ≡ true
    both-below a b c f h k = grind (arith, nat_tests)

more-lies : (bytes : List ℕ) (unit i : ℕ) → SomeLiesOn bytes unit i → SomeLiesOn bytes unit (i + 1)
more-lies bytes unit i s = let within = s.within in record { index = s.index; within = omega arith; lies = s.lies }

in-or-out : (k from to : ℕ) → ((from ≤ k) × (k < to)) ⊎ ((k < from) ⊎ (to ≤ k))
in-or-out k from to = ⊎_elim (λ (below : nat_lt k from ≡ true). inr (inl (grind (arith, nat_tests))))
    (λ (above : nat_lt k from ≡ false). ⊎_elim (λ (before : nat_lt k to ≡ true). inl (grind (arith, nat_tests), grind (arith, nat_tests)))
    (λ (behind : nat_lt k to ≡ false). inr (inr (grind (arith, nat_tests)))) (cases_Bool (nat_lt k to)))
    (cases_Bool (nat_lt k from))

pub covered-normal : (bytes : List ℕ) (i : ℕ) (marks new : List Bool) (e : Extent) → IsExtent bytes e → pointer_in bytes i ≡ Pointer.Normal e → overlap_fault bytes i ≡ None
    → IsCovered bytes i marks → AreMarked marks new (e.from / 8) (end_of e / 8) → IsCovered bytes (i + 1) new
covered-normal bytes i marks new e good is none covered marked =
    let s = span bytes e good in
    let from = s.from in
    let to = s.to in
    record {
      long = marked.long ∙ covered.long;
      owned = λ unit h. ⊎_elim
          (λ inside. record { index = i; within = omega arith; lies = record { extent = e; is = is; from = omega (arith, inside.0); to = omega (arith, inside.1) } })
          (λ outside. more-lies bytes unit i (covered.owned unit (sym (marked.others unit outside) ∙ h)))
          (in-or-out unit (e.from / 8) (end_of e / 8));
      marked = λ unit j h lies. ⊎_elim
          (λ inside. marked.now unit inside.0 inside.1)
          (λ outside. ⊎_elim
          (λ same. absurd (not-here unit e lies.extent (same_extent e lies.extent (sym is ∙ ap (pointer_in bytes) (sym same) ∙ lies.is)) s lies.from lies.to outside))
          (λ other. marked.others unit outside ∙ covered.marked unit j (below_or_last j i h other) lies)
          (same_or_other j i))
          (in-or-out unit (e.from / 8) (end_of e / 8));
      none = first-more (overlap_fault bytes) i covered.none ∙ none;
    }
  where
    not-here : (unit : ℕ) (e d : Extent) → e ≡ d → IsSpan e → d.from ≤ 8 * unit → 8 * unit < end_of d → (unit < e.from / 8) ⊎ (end_of e / 8 ≤ unit) → ⊥
    not-here unit e d same s before after outside =
        let from = s.from in
        let to = s.to in
        let first : e.from ≤ 8 * unit = subst (λ (x : Extent). x.from ≤ 8 * unit) (sym same) before in
        let second : 8 * unit < end_of e = subst (λ (x : Extent). 8 * unit < end_of x) (sym same) after in
        ⊎_elim (λ a. absurd (omega arith)) (λ b. absurd (omega arith)) outside

-- a slot without a version takes no unit
pub bare-none : (bytes : List ℕ) (i : ℕ) → ((e : Extent) → pointer_in bytes i ≡ Pointer.Normal e → ⊥) → overlap_fault bytes i ≡ None
bare-none bytes i none = overlap_fault-none bytes i (λ j h. overlap-bare (pointer_in bytes j) (pointer_in bytes i) none)

pub covered-bare : (bytes : List ℕ) (i : ℕ) (marks : List Bool) → ((e : Extent) → pointer_in bytes i ≡ Pointer.Normal e → ⊥) → IsCovered bytes i marks → IsCovered bytes (i + 1) marks
covered-bare bytes i marks none covered = record {
  long = covered.long;
  owned = λ unit h. more-lies bytes unit i (covered.owned unit h);
  marked = λ unit j h lies. ⊎_elim
      (λ same. absurd (none lies.extent (ap (pointer_in bytes) (sym same) ∙ lies.is)))
      (λ other. covered.marked unit j (below_or_last j i h other) lies)
      (same_or_other j i);
  none = first-more (overlap_fault bytes) i covered.none ∙ bare-none bytes i none;
}

-- all that is marked lies over the bound
pub units-fit : (bytes : List ℕ) (count : ℕ) (marks : List Bool) → upper_in bytes ≤ 8192 → upper_in bytes % 8 ≡ 0
    → ((j : ℕ) (d : Extent) → j < count → pointer_in bytes j ≡ Pointer.Normal d → IsExtent bytes d) → IsCovered bytes count marks
    → upper_in bytes + 8 * units_marked marks ≤ 8192
units-fit bytes count marks upper even goods covered =
    let whole = eighths (upper_in bytes) even in
    let long = covered.long in
    let above = counted-above marks (upper_in bytes / 8) (omega arith) (λ k h. ⊎_elim
    (λ is. absurd (let s = covered.owned k is in
    let over = (goods s.index s.lies.extent s.within s.lies.is).over in
    let from = s.lies.from in omega arith))
    (λ free. free) (cases_Bool (is_marked marks k))) in
    omega arith

-- At first none is marked.

none-at : (n k : ℕ) → slice_index_or (replicate n false) k false ≡ false
none-at zero k = refl
none-at (suc n) zero = refl
none-at (suc n) (suc k) = none-at n k

pub covered-start : (bytes : List ℕ) (marks : List Bool) → marks ≡ replicate 1024 false → IsCovered bytes 0 marks × 0 ≡ units_marked marks
covered-start bytes marks is =
    let free : (unit : ℕ) → is_marked marks unit ≡ false = λ unit. ap (λ (m : List Bool). is_marked m unit) is ∙ none-at 1024 unit in
    let sum = sum_by-replicate (λ (x : Bool). cond x 1 0) 1024 false in (
      record {
        long = ap length is ∙ length-replicate {A = Bool} 1024 false;
        owned = λ unit h. absurd (true≢false (sym h ∙ free unit));
        marked = λ unit i h lies. absurd (omega arith);
        none = refl;
      },
      sym (ap units_marked is ∙ sum),
    )

-- A slot without a version takes no bytes.

-- the units of a version, as they are computed
pub at-span : (P : ℕ → ℕ → Type 0) (e : Extent) (a b : ℕ) → a ≡ e.from → b ≡ next_multiple_of e.len 8 → P (a / 8) ((a + b) / 8) → P (e.from / 8) (end_of e / 8)
at-span P e a b p q x = subst (λ (n : ℕ). P (e.from / 8) ((e.from + n) / 8)) q (subst (λ (n : ℕ). P (n / 8) ((n + b) / 8)) p x)
