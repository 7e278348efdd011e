-- The places of a chain.
use Rattle.std.proofs.Common.{◌≡◌, ℕ, zero, suc, ◌+◌, ◌-◌, ◌<◌, ◌≤◌, Bool, true, false, nat_eq, List, length, take, get_or, not, Option, Some, arith, sym, ap, ◌∙◌, refl, subst}
use Rattle.std.specs.List.{list_any, Contains}
use Rattle.std.specs.Option.{option_and_then}
use Rattle.std.proofs.lemmas.List.{length-take-le, get_or-take}
use Rattle.std.proofs.lemmas.Option.{get_or_from_slice_get, slice_get_within, slice_get-get_or, same_Some}
use Rattle.xid_circle.specs.Following.{ReachesIn}
use Rattle.page_sheet.specs.declared.slot.Slot.{Slot}
use Rattle.page_sheet.specs.Slots.{version_at}
use Rattle.page_sheet.proofs.SlotLemmas.{slot_at-from_version_at}
use Rattle.tuple_header.specs.Version.{Version}
use Rattle.tuple_header.specs.Marks.{is_heap_only}
use Rattle.commit_status.specs.Window.{Window}
use Rattle.hot_chain.specs.Chain.{has_aborted, first_of, start_in, is_root, is_root_in, IsChain, LeadsTo}
use Rattle.hot_chain.proofs.Chains.{any-place, place-any, contains-any, any-contains}
use Rattle.sound_page.specs.Links.{Reaches, link}
use Rattle.sound_page.proofs.Links.{link-of, member-version}

pub place-of : (q : ℕ) (xs : List ℕ) → Contains xs q → (j : ℕ) × (j < length xs) × (get_or xs j 0 ≡ q)
place-of q xs c = any-place q xs (contains-any q xs c)

pub at-place : (q : ℕ) (xs : List ℕ) (j : ℕ) → j < length xs → get_or xs j 0 ≡ q → Contains xs q
at-place q xs j h e = any-contains q xs (place-any q xs j h e)

-- a slot among the first of a chain
pub place-in_front : (q cut : ℕ) (xs : List ℕ) → cut ≤ length xs → list_any (nat_eq q) (take cut xs) ≡ true → (j : ℕ) × (j < cut) × (get_or xs j 0 ≡ q)
place-in_front q cut xs within e =
    let p = any-place q (take cut xs) e in
    let long = length-take-le cut xs within in
    let below : p.0 < cut = (let h = p.1 in omega arith) in
    (p.0, below, sym (get_or-take cut xs p.0 0 below) ∙ p.2)

pub in_front-place : (q cut j : ℕ) (xs : List ℕ) → cut ≤ length xs → j < cut → get_or xs j 0 ≡ q → list_any (nat_eq q) (take cut xs) ≡ true
in_front-place q cut j xs within h e =
    let long = length-take-le cut xs within in
    place-any q (take cut xs) j (omega arith) (get_or-take cut xs j 0 h ∙ e)

-- a version leads to itself first
pub first-normal : (slots : List Slot) (n : ℕ) (t : Version) → version_at slots n ≡ Some t → first_of slots n ≡ Some n
first-normal slots n t e = ap (option_and_then (start_in slots n)) (slot_at-from_version_at slots n t e)

pub chain-first : (aborted : ℕ → Bool) (slots : List Slot) (n k : ℕ) (chain : List ℕ) → IsChain aborted slots n chain → first_of slots n ≡ Some k
    → (0 < length chain) × (get_or chain 0 0 ≡ k)
chain-first aborted slots n k chain c e =
    let at = c.start ∙ e in (slice_get_within chain 0 k at, get_or_from_slice_get chain 0 k 0 at)

-- whatever comes after the first is heap-only
pub later-heap_only : (aborted : ℕ → Bool) (slots : List Slot) (n : ℕ) (chain : List ℕ) (j : ℕ) (t : Version) → IsChain aborted slots n chain
    → j < length chain → 0 < j → version_at slots (get_or chain j 0) ≡ Some t → is_heap_only t.header ≡ true
later-heap_only aborted slots n chain zero t c h some e = absurd (omega arith)
later-heap_only aborted slots n chain (suc i) t c h some e =
    let one : i + 1 ≡ suc i = omega arith in
    let l = link-of aborted slots (get_or chain i 0) (get_or chain (i + 1) 0) (c.linked i (omega arith)) in
    let same : l.new ≡ t = same_Some l.new t (sym l.to ∙ ap (λ k. version_at slots (get_or chain k 0)) one ∙ e) in
    subst (λ (v : Version). is_heap_only v.header ≡ true) same l.heap_only

pub root-plain : (slots : List Slot) (n : ℕ) (t : Version) → is_root slots n ≡ true → version_at slots n ≡ Some t → is_heap_only t.header ≡ false
root-plain slots n t starts e =
    let f = ap is_root_in (slot_at-from_version_at slots n t e) in plain (is_heap_only t.header) (sym f ∙ starts)
  where
    plain : (b : Bool) → not b ≡ true → b ≡ false
    plain true e = absurd (cc)
    plain false e = refl

-- a root in any chain stands first there
pub root-first : (aborted : ℕ → Bool) (slots : List Slot) (root n : ℕ) (chain : List ℕ) → IsChain aborted slots root chain → is_root slots n ≡ true
    → Contains chain n → get_or chain 0 0 ≡ n
root-first aborted slots root n chain c starts holds = by p.0 p.1 p.2
  where
    p : (j : ℕ) × (j < length chain) × (get_or chain j 0 ≡ n)
    p = place-of n chain holds

    by : (j : ℕ) → j < length chain → get_or chain j 0 ≡ n → get_or chain 0 0 ≡ n
    by zero h e = e
    by (suc j) h e =
        let v = member-version aborted slots root chain (suc j) c h in
        let yes = later-heap_only aborted slots root chain (suc j) v.version c h (omega arith) v.there in
        let plain = root-plain slots n v.version starts (ap (version_at slots) (sym e) ∙ v.there) in
        absurd (cc)

-- so it leads to itself
pub root-leads : (aborted : ℕ → Bool) (slots : List Slot) (root n : ℕ) (chain : List ℕ) → IsChain aborted slots root chain → is_root slots n ≡ true
    → Contains chain n → LeadsTo aborted slots n n
root-leads aborted slots root n chain c starts holds =
    let p = place-of n chain holds in
    let v = member-version aborted slots root chain p.0 c p.1 in
    let first = root-first aborted slots root n chain c starts holds in
    let some : 0 < length chain = (let h = p.1 in omega arith) in
    let at : version_at slots n ≡ Some v.version = ap (version_at slots) (sym p.2) ∙ v.there in
    record {
      starts = starts;
      chain = chain;
      is_chain = record {
        start = slice_get-get_or chain 0 0 some ∙ ap Some first ∙ sym (first-normal slots n v.version at);
        linked = c.linked;
        distinct = c.distinct;
        end = c.end;
      };
      holds = holds;
    }

-- From slot to slot.

pub forward : (next : ℕ → Option ℕ) (chain : List ℕ) (i j : ℕ) → ((i : ℕ) → i + 1 < length chain → next (get_or chain i 0) ≡ Some (get_or chain (i + 1) 0))
    → i + j < length chain → ReachesIn next j (get_or chain i 0) (get_or chain (i + j) 0)
forward next chain i zero linked within =
    let e : i ≡ i + 0 = omega arith in
    ap (λ k. get_or chain k 0) e
forward next chain i (suc j) linked within =
    let e : i + 1 + j ≡ i + suc j = omega arith in (
      get_or chain (i + 1) 0,
      linked i (omega arith),
      subst (λ k. ReachesIn next j (get_or chain (i + 1) 0) (get_or chain k 0)) e (forward next chain (i + 1) j linked (omega arith)),
    )

pub reaches-places : (w : Window) (slots : List Slot) (n : ℕ) (chain : List ℕ) (i k : ℕ) → IsChain (has_aborted w) slots n chain → i ≤ k → k < length chain
    → Reaches (link w slots) (get_or chain i 0) (get_or chain k 0)
reaches-places w slots n chain i k c le within =
    let gap : i + (k - i) ≡ k = omega arith in
    record { turns = k - i; along = subst (λ j. ReachesIn (link w slots) (k - i) (get_or chain i 0) (get_or chain j 0)) gap (forward (link w slots) chain i (k - i) c.linked (omega arith)) }
