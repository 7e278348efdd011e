-- What a step along a chain tells.
use Rattle.std.proofs.Common.{◌≡◌, ◌≢◌, ℕ, zero, suc, ◌+◌, ◌<◌, Bool, true, false, not, ◌&&◌, ◌==◌, List, length, get_or, Option, Some, None, is_some, arith, sym, ap, ◌∙◌, refl, subst, if◌then◌else◌}
use Rattle.std.specs.Option.{option_map, option_and_then}
use Rattle.std.proofs.lemmas.Bool.{and_parts, eqb-true, eq-eqb, not-true}
use Rattle.std.proofs.lemmas.Option.{slice_get-get_or}
use Rattle.page_sheet.specs.declared.slot.Slot.{Slot}
use Rattle.page_sheet.specs.declared.slot.Slot.TheVariants.{Unused, Normal, Redirect, Dead}
use Rattle.page_sheet.specs.Slots.{slot_at, version_at, header_at, version_of, SlotIsThere}
use Rattle.page_sheet.proofs.SlotLemmas.{there-from_slot_at, slot_at-from_version_at}
use Rattle.tuple_header.specs.Version.{Version}
use Rattle.tuple_header.specs.Marks.{is_hot_updated, is_heap_only}
use Rattle.hot_chain.specs.Chain.{is_replaced, is_made_by, successor, next_in_chain, start_in, first_of, IsChain}
use Rattle.hot_chain.proofs.SeenWalks.{version-there as some-if}

-- what leads to the next version, and to what
pub record IsLink (aborted : ℕ → Bool) (slots : List Slot) (n k : ℕ) : Type 0 where
  pub old : Version
  pub new : Version
  pub from : version_at slots n ≡ Some old
  pub to : version_at slots k ≡ Some new
  pub place : old.header.ctid.slot ≡ k
  pub replaced : is_replaced aborted old.header ≡ true
  pub deleter : old.header.xmax.0 ≢ 0
  pub live : aborted old.header.xmax.0 ≡ false
  pub heap_only : is_heap_only new.header ≡ true
  pub made : new.header.xmin.0 ≡ old.header.xmax.0

-- from what a link is made of
pub successor-from : (aborted : ℕ → Bool) (slots : List Slot) (n k : ℕ) (t u : Version) → version_at slots n ≡ Some t → version_at slots k ≡ Some u
    → is_replaced aborted t.header ≡ true → t.header.ctid.slot ≡ k → is_heap_only u.header ≡ true → u.header.xmin.0 ≡ t.header.xmax.0
    → next_in_chain aborted slots n ≡ Some k
successor-from aborted slots n k t u from to replaced place heap_only made =
    let at : version_at slots t.header.ctid.slot ≡ Some u = ap (version_at slots) place ∙ to in
    let same = eq-eqb u.header.xmin.0 t.header.xmax.0 made in
    rw (from, replaced, at, heap_only, same, place) refl

guarded : {A : Type 0} (b : Bool) (x y : A) → (if b then Some x else None) ≡ Some y → (b ≡ true) × (x ≡ y)
guarded true x y e = (refl, cc)
guarded false x y e = absurd (cc)

record Made (x : ℕ) (o : Option Version) : Type 0 where
  by : Version
  is : o ≡ Some by
  heap_only : is_heap_only by.header ≡ true
  id : by.header.xmin.0 ≡ x

made-by : (x : ℕ) (o : Option Version) → is_made_by x (option_map (λ t. t.header) o) ≡ true → Made x o
made-by x None e = absurd (cc)
made-by x (Some u) e =
    let both = and_parts (is_heap_only u.header) (u.header.xmin.0 == x) e in
    record { by = u; is = refl; heap_only = both.0; id = eqb-true u.header.xmin.0 x both.1 }

not-eq : (x : ℕ) → not (x == 0) ≡ true → x ≢ 0
not-eq zero e f = absurd (cc)
not-eq (suc x) e f = absurd (omega arith)

successor-link : (aborted : ℕ → Bool) (slots : List Slot) (n k : ℕ) (o : Option Version) → version_at slots n ≡ o
    → option_and_then (successor aborted slots) (option_map (λ t. t.header) o) ≡ Some k → IsLink aborted slots n k
successor-link aborted slots n k None at e = absurd (cc)
successor-link aborted slots n k (Some t) at e =
    let h = t.header in
    let yes = guarded (is_replaced aborted h && is_made_by h.xmax.0 (header_at slots h.ctid.slot)) h.ctid.slot k e in
    let both = and_parts (is_replaced aborted h) (is_made_by h.xmax.0 (header_at slots h.ctid.slot)) yes.0 in
    let outer = and_parts (is_hot_updated h && not (h.xmax.0 == 0)) (not (aborted h.xmax.0)) both.0 in
    let inner = and_parts (is_hot_updated h) (not (h.xmax.0 == 0)) outer.0 in
    let made = made-by h.xmax.0 (version_at slots h.ctid.slot) both.1 in
    record {
      old = t;
      new = made.by;
      from = at;
      to = ap (λ i. version_at slots i) (sym yes.1) ∙ made.is;
      place = yes.1;
      replaced = both.0;
      deleter = not-eq h.xmax.0 inner.1;
      live = not-true (aborted h.xmax.0) outer.1;
      heap_only = made.heap_only;
      made = made.id;
    }

pub link-of : (aborted : ℕ → Bool) (slots : List Slot) (n k : ℕ) → next_in_chain aborted slots n ≡ Some k → IsLink aborted slots n k
link-of aborted slots n k e = successor-link aborted slots n k (version_at slots n) refl e

-- the version in a slot
pub record SomeVersion (slots : List Slot) (n : ℕ) : Type 0 where
  pub version : Version
  pub there : version_at slots n ≡ Some version

-- where a chain starts
pub record Starts (slots : List Slot) (n first : ℕ) (slot : Slot) : Type 0 where
  pub at : slot_at slots n ≡ Some slot
  pub start : start_in slots n slot ≡ Some first

starts-in : (slots : List Slot) (n first : ℕ) (o : Option Slot) → slot_at slots n ≡ o → option_and_then (start_in slots n) o ≡ Some first
    → (slot : Slot) × Starts slots n first slot
starts-in slots n first None at e = absurd (cc)
starts-in slots n first (Some slot) at e = (slot, record { at = at; start = e })

first-in : (slots : List Slot) (n first : ℕ) (slot : Slot) → Starts slots n first slot → SomeVersion slots first
first-in slots n first Unused s = absurd (let e = s.start in cc)
first-in slots n first (Normal t) s = record { version = t; there = (let e : Some n ≡ Some first = s.start in let f : n ≡ first = cc in subst (λ k. version_at slots k ≡ Some t) f (ap (option_and_then version_of) s.at)) }
first-in slots n first (Redirect k) s =
    let yes = guarded (is_some (version_at slots k)) k first s.start in
    let v = some-if (version_at slots k) yes.0 in
    record { version = v.0; there = subst (λ i. version_at slots i ≡ Some v.0) yes.1 v.1 }
first-in slots n first Dead s = absurd (let e = s.start in cc)

pub first-version : (slots : List Slot) (n first : ℕ) → first_of slots n ≡ Some first → SomeVersion slots first
first-version slots n first e = let s = starts-in slots n first (slot_at slots n) refl e in first-in slots n first s.0 s.1

-- each slot of a chain holds a version
pub member-version : (aborted : ℕ → Bool) (slots : List Slot) (n : ℕ) (chain : List ℕ) (i : ℕ) → IsChain aborted slots n chain → i < length chain
    → SomeVersion slots (get_or chain i 0)
member-version aborted slots n chain zero c h = first-version slots n (get_or chain 0 0) (sym c.start ∙ slice_get-get_or chain 0 0 h)
member-version aborted slots n chain (suc i) c h =
    let one : i + 1 ≡ suc i = omega arith in
    let l = link-of aborted slots (get_or chain i 0) (get_or chain (i + 1) 0) (c.linked i (omega arith)) in
    subst (λ k. SomeVersion slots (get_or chain k 0)) one (record { version = l.new; there = l.to })

pub version-there : (slots : List Slot) (n : ℕ) (t : Version) → version_at slots n ≡ Some t → SlotIsThere slots n
version-there slots n t e = there-from_slot_at slots n (Normal t) (slot_at-from_version_at slots n t e)

pub member-there : (aborted : ℕ → Bool) (slots : List Slot) (n : ℕ) (chain : List ℕ) (i : ℕ) → IsChain aborted slots n chain → i < length chain → SlotIsThere slots (get_or chain i 0)
member-there aborted slots n chain i c h = let v = member-version aborted slots n chain i c h in version-there slots (get_or chain i 0) v.version v.there
