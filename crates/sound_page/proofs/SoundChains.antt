-- The chains of a sound page: links and lists say the same.
use Rattle.std.proofs.Common.{◌≡◌, ℕ, zero, suc, ◌+◌, ◌-◌, ◌<◌, ◌≤◌, Bool, true, false, not, nat_eq, if◌then◌else◌, List, [], ◌∷◌, ◌++◌, length, length-append, get_or, Option, Some, None, is_some, arith, ⊎_elim, sym, ap, ◌∙◌, refl, subst}
use Rattle.std.specs.List.{list_any}
use Rattle.std.specs.Option.{option_and_then}
use Rattle.std.proofs.lemmas.Bool.{cases_lt, cases_Bool}
use Rattle.std.proofs.lemmas.Option.{slice_get-get_or, same_Some}
use Rattle.xid_circle.specs.Following.{ReachesIn}
use Rattle.page_sheet.specs.declared.slot.Slot.{Slot}
use Rattle.page_sheet.specs.declared.slot.Slot.TheVariants.{Unused, Normal, Redirect, Dead}
use Rattle.page_sheet.specs.Slots.{slot_at, version_at}
use Rattle.tuple_header.specs.Version.{Version}
use Rattle.tuple_header.specs.Marks.{is_heap_only}
use Rattle.commit_status.specs.Window.{Window}
use Rattle.hot_chain.specs.Chain.{has_aborted, is_root, is_root_in, first_of, start_in, next_in_chain, IsChain, IsEnd, LeadsTo}
use Rattle.hot_chain.proofs.Walks.{Walk, walk-none, walk-more, walk-room, chain-from_walk}
use Rattle.hot_chain.proofs.Chains.{any-place}
use Rattle.sound_page.specs.Links.{Reaches, link, NoSharedSlots}
use Rattle.sound_page.specs.Sound.{chain_start_in, chain_start_of, IsIn, SoundPage}
use Rattle.sound_page.proofs.Links.{link-of, first-version, version-there}
use Rattle.sound_page.proofs.ChainPlaces.{place-of, at-place, chain-first, reaches-places}
use Rattle.page_sheet.proofs.SlotLemmas.{slot_at-from_version_at}

-- each slot has a chain
pub record SomeChain (aborted : ℕ → Bool) (slots : List Slot) (n : ℕ) : Type 0 where
  pub chain : List ℕ
  pub is : IsChain aborted slots n chain

pub chain-exists : (aborted : ℕ → Bool) (slots : List Slot) (n : ℕ) → length slots ≤ 291 → SomeChain aborted slots n
chain-exists aborted slots n few =
    go 292 [] (first_of slots n) (walk-none next (first_of slots n) (first_of slots n) refl first-small) (omega arith)
  where
    next : ℕ → Option ℕ
    next = next_in_chain aborted slots

    first-small : (k : ℕ) → first_of slots n ≡ Some k → k < 292
    first-small k e = let v = first-version slots n k e in let there = (version-there slots k v.version v.there).1 in omega arith

    next-small : (m k : ℕ) → next_in_chain aborted slots m ≡ Some k → k < 292
    next-small m k e = let l = link-of aborted slots m k e in let there = (version-there slots k l.new l.to).1 in omega arith

    go : (fuel : ℕ) (visited : List ℕ) (at : Option ℕ) → Walk (next_in_chain aborted slots) (first_of slots n) visited at → 292 ≤ fuel + length visited → SomeChain aborted slots n
    go fuel visited None w h = record { chain = visited; is = chain-from_walk aborted slots n visited None w tt }
    go zero visited (Some m) w h = ⊎_elim
        (λ t. record { chain = visited; is = chain-from_walk aborted slots n visited (Some m) w t })
        (λ f. absurd (let room = walk-room (next_in_chain aborted slots) (first_of slots n) visited m w f in omega arith))
        (cases_Bool (list_any (nat_eq m) visited))
    go (suc fuel) visited (Some m) w h = ⊎_elim
        (λ t. record { chain = visited; is = chain-from_walk aborted slots n visited (Some m) w t })
        (λ f.
        let long = length-append visited (m ∷ []) in
        go fuel (visited ++ m ∷ []) (next_in_chain aborted slots m) (walk-more (next_in_chain aborted slots) (first_of slots n) visited m (next_in_chain aborted slots m) w f refl (next-small m)) (omega arith))
        (cases_Bool (list_any (nat_eq m) visited))

-- the last of a chain leads nowhere
end-none : (w : Window) (slots : List Slot) (n : ℕ) (chain : List ℕ) (last : ℕ) (o : Option ℕ) → SoundPage w slots → IsChain (has_aborted w) slots n chain
    → last + 1 ≡ length chain → link w slots (get_or chain last 0) ≡ o → IsEnd chain o → o ≡ None
end-none w slots n chain last None sound c size e end = refl
end-none w slots n chain last (Some y) sound c size e end =
    let p = any-place y chain end in
    let r = reaches-places w slots n chain p.0 last c (let b = p.1 in omega arith) (omega arith) in
    absurd (sound.ends (get_or chain last 0) y e (subst (λ x. Reaches (link w slots) x (get_or chain last 0)) p.2 r))

pub chain-ends : (w : Window) (slots : List Slot) (n : ℕ) (chain : List ℕ) (last : ℕ) → SoundPage w slots → IsChain (has_aborted w) slots n chain
    → last + 1 ≡ length chain → link w slots (get_or chain last 0) ≡ None
chain-ends w slots n chain last sound c size =
    let place : length chain - 1 ≡ last = omega arith in
    end-none w slots n chain last (link w slots (get_or chain last 0)) sound c size refl
    (subst (λ k. IsEnd chain (link w slots (get_or chain k 0))) place (c.end (omega arith)))

-- what a chain's slot comes to is in the chain
pub record IsLater (chain : List ℕ) (i j x : ℕ) : Type 0 where
  pub within : i + j < length chain
  pub is : x ≡ get_or chain (i + j) 0

pub exact : (w : Window) (slots : List Slot) (n : ℕ) (chain : List ℕ) (i j x : ℕ) → SoundPage w slots → IsChain (has_aborted w) slots n chain
    → i < length chain → ReachesIn (link w slots) j (get_or chain i 0) x → IsLater chain i j x
exact w slots n chain i zero x sound c within along =
    let e : i ≡ i + 0 = omega arith in
    record { within = omega arith; is = sym along ∙ ap (λ k. get_or chain k 0) e }
exact w slots n chain i (suc j) x sound c within along = ⊎_elim
    (λ more.
    let same : along.0 ≡ get_or chain (i + 1) 0 = same_Some along.0 (get_or chain (i + 1) 0) (sym along.1 ∙ c.linked i more) in
    let rest = exact w slots n chain (i + 1) j x sound c more (subst (λ k. ReachesIn (link w slots) j k x) same along.2) in
    let e : i + 1 + j ≡ i + suc j = omega arith in
    record { within = subst (λ k. k < length chain) e rest.within; is = rest.is ∙ ap (λ k. get_or chain k 0) e })
    (λ past.
    let none = chain-ends w slots n chain i sound c (omega arith) in
    let f : None ≡ Some along.0 = sym none ∙ along.1 in
    absurd (cc))
    (cases_lt (i + 1) (length chain))

-- Entries.

-- It can be applied.

-- a version that isn't heap-only stands in a root's slot
pub plain-root : (slots : List Slot) (n : ℕ) (t : Version) → version_at slots n ≡ Some t → is_heap_only t.header ≡ false → is_root slots n ≡ true
plain-root slots n t at plain = ap is_root_in (slot_at-from_version_at slots n t at) ∙ ap not plain

pub entry-root : (slots : List Slot) (n e : ℕ) → chain_start_of slots n ≡ Some e → is_root slots n ≡ true
entry-root slots n e leads = by (slot_at slots n) leads
  where
    by : (o : Option Slot) → chain_start_in n o ≡ Some e → is_root_in o ≡ true
    by None f = absurd (cc)
    by (Some Unused) f = absurd (cc)
    by (Some (Normal t)) f = plain (is_heap_only t.header) f
      where
        plain : (b : Bool) → (if b then None else Some n) ≡ Some e → not b ≡ true
        plain true g = absurd (cc)
        plain false g = refl
    by (Some (Redirect k)) f = refl
    by (Some Dead) f = absurd (cc)

-- a root's entry is where its chain starts
pub first-entry : (slots : List Slot) (n f : ℕ) → is_root slots n ≡ true → first_of slots n ≡ Some f → chain_start_of slots n ≡ Some f
first-entry slots n f starts first = by (slot_at slots n) starts first
  where
    by : (o : Option Slot) → is_root_in o ≡ true → option_and_then (start_in slots n) o ≡ Some f → chain_start_in n o ≡ Some f
    by None s e = absurd (cc)
    by (Some Unused) s e = absurd (cc)
    by (Some (Normal t)) s e = plain (is_heap_only t.header) s e
      where
        plain : (b : Bool) → not b ≡ true → Some n ≡ Some f → (if b then None else Some n) ≡ Some f
        plain true s e = absurd (cc)
        plain false s e = e
    by (Some (Redirect k)) s e = there (is_some (version_at slots k)) e
      where
        there : (b : Bool) → (if b then Some k else None) ≡ Some f → Some k ≡ Some f
        there true e = e
        there false e = absurd (cc)
    by (Some Dead) s e = absurd (cc)

pub entry-first : (w : Window) (slots : List Slot) (n e : ℕ) → SoundPage w slots → chain_start_of slots n ≡ Some e → first_of slots n ≡ Some e
entry-first w slots n e sound leads = by (slot_at slots n) refl leads
  where
    by : (o : Option Slot) → slot_at slots n ≡ o → chain_start_in n o ≡ Some e → option_and_then (start_in slots n) o ≡ Some e
    by None at f = absurd (cc)
    by (Some Unused) at f = absurd (cc)
    by (Some (Normal t)) at f = plain (is_heap_only t.header) f
      where
        plain : (b : Bool) → (if b then None else Some n) ≡ Some e → Some n ≡ Some e
        plain true g = absurd (cc)
        plain false g = g
    by (Some (Redirect k)) at f =
        let target = sound.redirects n k at in
        ap (λ (o : Option Version). if is_some o then Some k else None) target.there ∙ f
    by (Some Dead) at f = absurd (cc)

pub in-leads : (w : Window) (slots : List Slot) (root n : ℕ) → SoundPage w slots → IsIn w slots root n → LeadsTo (has_aborted w) slots root n
in-leads w slots root n sound i =
    let c = chain-exists (has_aborted w) slots root sound.few in
    let first = chain-first (has_aborted w) slots root i.entry c.chain c.is (entry-first w slots root i.entry sound i.leads) in
    let later = exact w slots root c.chain 0 i.later.turns n sound c.is first.0 (subst (λ k. ReachesIn (link w slots) i.later.turns k n) (sym first.1) i.later.along) in
    record { starts = entry-root slots root i.entry i.leads; chain = c.chain; is_chain = c.is; holds = at-place n c.chain (0 + i.later.turns) later.within (sym later.is) }

pub leads-in : (w : Window) (slots : List Slot) (root n : ℕ) → LeadsTo (has_aborted w) slots root n → IsIn w slots root n
leads-in w slots root n l =
    let p = place-of n l.chain l.holds in
    let some : 0 < length l.chain = (let h = p.1 in omega arith) in
    let first = sym l.is_chain.start ∙ slice_get-get_or l.chain 0 0 some in
    record {
      entry = get_or l.chain 0 0;
      leads = first-entry slots root (get_or l.chain 0 0) l.starts first;
      later = subst (λ k. Reaches (link w slots) (get_or l.chain 0 0) k) p.2 (reaches-places w slots root l.chain 0 p.0 l.is_chain (omega arith) p.1);
    }

pub sound-unshared : (w : Window) (slots : List Slot) → SoundPage w slots → NoSharedSlots (has_aborted w) slots
sound-unshared w slots sound a b n x y = sound.alone a b n (leads-in w slots a n x) (leads-in w slots b n y)
