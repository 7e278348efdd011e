-- A walk along a chain that tests each version as it comes: what it has not seen so far, and where it is.
use Rattle.std.proofs.Common.{◌≡◌, ℕ, zero, suc, ◌+◌, ◌-◌, ◌<◌, ◌≤◌, Bool, true, false, ◌&&◌, if◌then◌else◌, nat_eq, is_some, List, [], ◌∷◌, ◌++◌, length, get_or, slice_get, Option, Some, None, arith, ⊎_elim, length-append, refl, sym, ap, ◌∙◌, subst}
use Rattle.std.specs.Option.{option_and_then, option_map}
use Rattle.std.specs.List.{list_any}
use Rattle.std.proofs.lemmas.Bool.{cases_lt}
use Rattle.std.proofs.lemmas.Option.{same_Some, slice_get-get_or, slice_get_past}
use Rattle.tuple_header.specs.Version.{Version}
use Rattle.tuple_header.specs.declared.version.Header.{Header}
use Rattle.page_sheet.specs.declared.slot.Slot.{Slot}
use Rattle.page_sheet.specs.declared.slot.Slot.TheVariants.{Unused, Normal, Redirect, Dead}
use Rattle.page_sheet.specs.Slots.{slot_at, version_at, header_at}
use Rattle.page_sheet.proofs.SlotLemmas.{version-from_header, slot_at-from_version_at, there-from_slot_at}
use Rattle.hot_chain.specs.Chain.{start_in, first_of, is_made_by, successor, next_in_chain, IsChain, IsEnd, NoneSeen, IsSeenIn}
use Rattle.hot_chain.proofs.Chains.{by-test, any-place}
use Rattle.hot_chain.proofs.Seen.{seen-here}
use Rattle.hot_chain.proofs.Walks.{Walk, walk-none, walk-more, walk-room, chain-from_walk}

-- Each slot has a chain, of at most 292 slots.

chosen : (b : Bool) (k m : ℕ) → (if b then Some k else None) ≡ Some m → (b ≡ true) × (k ≡ m)
chosen true k m e = (refl, same_Some k m e)
chosen false k m e = absurd (cc)

second-of : (a b : Bool) → (a && b) ≡ true → b ≡ true
second-of true b e = e
second-of false b e = absurd (cc)

made-there : (x : ℕ) (o : Option Header) → is_made_by x o ≡ true → (h : Header) × (o ≡ Some h)
made-there x None e = absurd (cc)
made-there x (Some h) e = (h, refl)

pub version-there : (o : Option Version) → is_some o ≡ true → (t : Version) × (o ≡ Some t)
version-there None e = absurd (cc)
version-there (Some t) e = (t, refl)

version-within : (slots : List Slot) (n : ℕ) (t : Version) → version_at slots n ≡ Some t → n ≤ length slots
version-within slots n t is = (there-from_slot_at slots n (Normal t) (slot_at-from_version_at slots n t is)).1

successor-within : (aborted : ℕ → Bool) (slots : List Slot) (h : Header) (m : ℕ) → successor aborted slots h ≡ Some m → m ≤ length slots
successor-within aborted slots h m e =
    let c = chosen _ h.ctid.slot m e in
    let made = made-there h.xmax.0 (header_at slots h.ctid.slot) (second-of _ _ c.0) in
    let v = version-from_header slots h.ctid.slot made.0 made.1 in
    subst (λ k. k ≤ length slots) c.1 (version-within slots h.ctid.slot v.0 v.1)

next-within : (aborted : ℕ → Bool) (slots : List Slot) (o : Option Header) (m : ℕ) → option_and_then (successor aborted slots) o ≡ Some m → m ≤ length slots
next-within aborted slots None m e = absurd (cc)
next-within aborted slots (Some h) m e = successor-within aborted slots h m e

first-within : (slots : List Slot) (n : ℕ) (o : Option Slot) (m : ℕ) → slot_at slots n ≡ o → option_and_then (start_in slots n) o ≡ Some m → m ≤ length slots
first-within slots n None m at e = absurd (cc)
first-within slots n (Some Unused) m at e = absurd (cc)
first-within slots n (Some (Normal t)) m at e = subst (λ k. k ≤ length slots) (same_Some n m e) (there-from_slot_at slots n (Normal t) at).1
first-within slots n (Some (Redirect target)) m at e =
    let c = chosen (is_some (version_at slots target)) target m e in
    let v = version-there (version_at slots target) c.0 in
    subst (λ k. k ≤ length slots) c.1 (version-within slots target v.0 v.1)
first-within slots n (Some Dead) m at e = absurd (cc)

module _ (aborted : ℕ → Bool) (slots : List Slot) (n : ℕ) (few : length slots ≤ 291) where
  small : (k m : ℕ) → next_in_chain aborted slots k ≡ Some m → m < 292
  small k m e = let within = next-within aborted slots (header_at slots k) m e in omega (arith, few, within)

  goes-on : (fuel : ℕ) (visited : List ℕ) (at : Option ℕ) → Walk (next_in_chain aborted slots) (first_of slots n) visited at → 292 ≤ length visited + fuel → length visited ≤ 292
      → (chain : List ℕ) × IsChain aborted slots n chain × (length chain ≤ 292)
  goes-on zero visited None w room short = (visited, chain-from_walk aborted slots n visited None w tt, short)
  goes-on zero visited (Some m) w room short = by-test (list_any (nat_eq m) visited)
      (λ again. (visited, chain-from_walk aborted slots n visited (Some m) w again, short))
      (λ new. absurd (let lt = walk-room (next_in_chain aborted slots) (first_of slots n) visited m w new in omega (arith, lt, room)))
  goes-on (suc fuel) visited None w room short = (visited, chain-from_walk aborted slots n visited None w tt, short)
  goes-on (suc fuel) visited (Some m) w room short = by-test (list_any (nat_eq m) visited)
      (λ again. (visited, chain-from_walk aborted slots n visited (Some m) w again, short))
      (λ new.
      let lt = walk-room (next_in_chain aborted slots) (first_of slots n) visited m w new in
      let long = length-append visited (m ∷ []) in
      goes-on fuel (visited ++ m ∷ []) (next_in_chain aborted slots m) (walk-more (next_in_chain aborted slots) (first_of slots n) visited m (next_in_chain aborted slots m) w new refl (small m))
      (omega (arith, long, room)) (omega (arith, long, lt)))

  pub has-chain : (chain : List ℕ) × IsChain aborted slots n chain × (length chain ≤ 292)
  has-chain = goes-on 292 [] (first_of slots n)
      (walk-none (next_in_chain aborted slots) (first_of slots n) (first_of slots n) refl
      (λ m e. let within = first-within slots n (slot_at slots n) m refl e in omega (arith, few, within)))
      (omega arith) (omega arith)

-- Where the walk is after some steps: at the slot of the chain that is so far along it, or, past its end, at one of its slots
-- again. What it has passed is not seen.

abbrev pub IsOn : List ℕ → ℕ → Type 0
IsOn chain n = (j : ℕ) × (j < length chain) × (get_or chain j 0 ≡ n)

pub record Unseen (seen : Header → Type 0) (slots : List Slot) (chain : List ℕ) (k : ℕ) (at : Option ℕ) : Type 0 where
  pub before : (j : ℕ) (u : Version) → j < k → j < length chain → version_at slots (get_or chain j 0) ≡ Some u → ¬ seen u.header
  pub along : k < length chain → at ≡ Some (get_or chain k 0)
  pub past : length chain ≤ k → (m : ℕ) → at ≡ Some m → IsOn chain m

pub header-of : (o : Option Version) (h : Header) (t : Version) → option_map (λ (t : Version). t.header) o ≡ Some h → o ≡ Some t → h ≡ t.header
header-of None h t e is = absurd (cc)
header-of (Some u) h t e is = sym (same_Some u.header h e) ∙ ap (λ (v : Version). v.header) (same_Some u t is)

pub headless : (o : Option Version) (t : Version) → option_map (λ (t : Version). t.header) o ≡ None → o ≡ Some t → ⊥
headless None t e is = absurd (cc)
headless (Some u) t e is = absurd (cc)

chain-goes : (aborted : ℕ → Bool) (slots : List Slot) (n : ℕ) (c : List ℕ) → IsChain aborted slots n c → (j m : ℕ) → j < length c → next_in_chain aborted slots (get_or c j 0) ≡ Some m → IsOn c m
chain-goes aborted slots n c is j m within e = ⊎_elim
    (λ lt. (j + 1, lt, same_Some (get_or c (j + 1) 0) m (sym (is.linked j lt) ∙ e)))
    (λ ge.
    let last : length c - 1 ≡ j = omega (arith, ge, within) in
    any-place m c (subst (IsEnd c) (ap (λ k. next_in_chain aborted slots (get_or c k 0)) last ∙ e) (is.end (omega (arith, within)))))
    (cases_lt (j + 1) (length c))

pub unseen-first : (seen : Header → Type 0) (aborted : ℕ → Bool) (slots : List Slot) (n : ℕ) (c : List ℕ) → IsChain aborted slots n c → Unseen seen slots c 0 (first_of slots n)
unseen-first seen aborted slots n c is = record {
  before = λ j u lt within there. absurd (omega (arith, lt));
  along = λ some. sym is.start ∙ slice_get-get_or c 0 0 some;
  past = λ none m e. absurd (let s : None ≡ Some m = sym (slice_get_past c 0 none) ∙ is.start ∙ e in cc);
}

module _ (seen : Header → Type 0) (slots : List Slot) (c : List ℕ) (k m : ℕ) (w : Unseen seen slots c k (Some m)) where
  here : k < length c → m ≡ get_or c k 0
  here lt = same_Some m (get_or c k 0) (w.along lt)

  is-on : IsOn c m
  is-on = ⊎_elim (λ lt. (k, lt, sym (here lt))) (λ ge. w.past ge m refl) (cases_lt k (length c))

  pub unseen-more : (aborted : ℕ → Bool) (n : ℕ) (h : Header) → IsChain aborted slots n c → header_at slots m ≡ Some h → ¬ seen h → Unseen seen slots c (k + 1) (successor aborted slots h)
  unseen-more aborted n h is at not =
      let next = next_in_chain aborted slots in
      let goes : next m ≡ successor aborted slots h = ap (option_and_then (successor aborted slots)) at in
      record {
        before = λ j u lt within there. ⊎_elim
            (λ less. w.before j u less within there)
            (λ ge.
            let same : k ≡ j = omega (arith, lt, ge) in
            let slot = here (omega (arith, same, within)) ∙ ap (λ i. get_or c i 0) same in
            λ has. not (subst seen (sym (header-of (version_at slots m) h u at (ap (version_at slots) slot ∙ there))) has))
            (cases_lt j k);
        along = λ lt. sym goes ∙ (ap next (here (omega (arith, lt))) ∙ is.linked k lt);
        past = λ le p e. let on = is-on in chain-goes aborted slots n c is on.0 p on.1 (ap next on.2 ∙ (goes ∙ e));
      }

  pub seen-now : (h : Header) → header_at slots m ≡ Some h → seen h → IsSeenIn seen slots c m
  seen-now h at has = ⊎_elim
      (λ lt.
      let slot = here lt in
      subst (IsSeenIn seen slots c) (sym slot)
      (seen-here seen slots c k (Some h) h lt (sym at ∙ ap (header_at slots) slot) refl has (λ j u less there. w.before j u less (omega (arith, less, lt)) there)))
      (λ ge.
      let on = is-on in
      let within = on.1 in
      let v = version-from_header slots m h at in
      absurd (w.before on.0 v.0 (omega (arith, within, ge)) on.1 (ap (version_at slots) on.2 ∙ v.1) (subst seen v.2 has)))
      (cases_lt k (length c))

  pub headless-end : (aborted : ℕ → Bool) (n : ℕ) → IsChain aborted slots n c → header_at slots m ≡ None → NoneSeen seen slots c
  headless-end aborted n is none = λ j u within there. ⊎_elim
      (λ less. w.before j u less within there)
      (λ ge.
      let slot = here (omega (arith, ge, within)) in
      let ends = ap (option_and_then (successor aborted slots)) none in
      absurd (⊎_elim
      (λ more. let s : None ≡ Some (get_or c (k + 1) 0) = sym ends ∙ (ap (next_in_chain aborted slots) slot ∙ is.linked k (omega (arith, more, within))) in cc)
      (λ le. let same : k ≡ j = omega (arith, le, ge) in headless (version_at slots m) u none (ap (version_at slots) (slot ∙ ap (λ i. get_or c i 0) same) ∙ there))
      (cases_lt k j)))
      (cases_lt j k)

pub all-unseen : (seen : Header → Type 0) (slots : List Slot) (c : List ℕ) (k : ℕ) (at : Option ℕ) → length c ≤ k → Unseen seen slots c k at → NoneSeen seen slots c
all-unseen seen slots c k at le w = λ j u within there. w.before j u (omega (arith, le, within)) within there

pub unseen-end : (seen : Header → Type 0) (slots : List Slot) (c : List ℕ) (k : ℕ) → Unseen seen slots c k None → NoneSeen seen slots c
unseen-end seen slots c k w = all-unseen seen slots c k None
    (⊎_elim (λ lt. absurd (let s : None ≡ Some (get_or c k 0) = w.along lt in cc)) (λ ge. ge) (cases_lt k (length c))) w
