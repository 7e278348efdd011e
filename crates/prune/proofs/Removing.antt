-- What pruning removes, and what becomes of roots.
use Rattle.std.proofs.Common.{◌≡◌, ◌≢◌, ℕ, zero, suc, ◌<◌, ◌==◌, ◌&&◌, not, Bool, true, false, nat_eq, if◌then◌else◌, List, take, Option, Some, None, arith, inl, inr, sym, ap, ◌∙◌, refl, subst, slice_get}
use Rattle.std.specs.List.{list_any}
use Rattle.std.specs.Option.{option_and_then, option_map}
use Rattle.std.proofs.lemmas.Bool.{and_parts, not-true, eqb-true, eq-eqb}
use Rattle.std.proofs.lemmas.Option.{same_Some}
use Rattle.page_sheet.specs.declared.slot.Slot.{Slot}
use Rattle.page_sheet.specs.Slots.{slot_at, version_at, version_of}
use Rattle.tuple_header.specs.Version.{Version}
use Rattle.tuple_header.specs.Marks.{is_frozen, is_heap_only}
use Rattle.commit_status.specs.Window.{Window, IsAborted}
use Rattle.visibility.specs.Visible.{IsDead, IsFrozen}
use Rattle.hot_chain.specs.Chain.{has_aborted, first_of}
use Rattle.hot_chain.proofs.Chains.{root-there}
use Rattle.prune_actions.specs.declared.Action.{Action}
use Rattle.prune_actions.specs.declared.Action.TheVariants as action
use Rattle.prune.specs.Cutting.{IsCut, RemovesVersions}
use Rattle.sound_page.specs.Links.{NoSharedSlots}
use Rattle.prune.specs.Actions.{made_by, acted}
use Rattle.prune.specs.Pruning.{root_action, chain_action, loose_in, orphan_action, PrunesSlot, by_root, by_none, IsPruned}
use Rattle.sound_page.specs.Sound.{lead, KeepsRoots}
use Rattle.sound_page.proofs.Links.{version-there}
use Rattle.sound_page.proofs.ChainPlaces.{place-in_front, first-normal, chain-first, root-leads, at-place}
use Rattle.prune.proofs.CutPlaces.{prefix-cut}
use Rattle.sound_page.proofs.Undone.{has-aborted}

-- by whether something is done to a slot
pub by-answer : {P : Type 0} (o : Option Action) → (o ≡ None → P) → ((a : Action) → o ≡ Some a → P) → P
by-answer None f g = f refl
by-answer (Some a) f g = g a refl

-- Tests of two parts, taken apart.

pub if-some : (b : Bool) (a : Action) → (if b then Some action.Unuse else None) ≡ Some a → (b ≡ true) × (a ≡ action.Unuse)
if-some true a e = (refl, (let f = same_Some action.Unuse a e in sym f))
if-some false a e = absurd (cc)

-- a slot to which something is done is the root, or among those that are cut
pub chain-cases : {P : Type 0} (root cut n : ℕ) (chain : List ℕ) (a : Action) → chain_action root chain cut n ≡ Some a
    → (n ≡ root → root_action cut (slice_get chain cut) ≡ Some a → P) → (n ≢ root → list_any (nat_eq n) (take cut chain) ≡ true → a ≡ action.Unuse → P) → P
chain-cases {P} root cut n chain a e f g = by (n == root) refl e
  where
    by : (b : Bool) → n == root ≡ b → (if b then root_action cut (slice_get chain cut) else (if list_any (nat_eq n) (take cut chain) then Some action.Unuse else None)) ≡ Some a → P
    by true t e = f (eqb-true n root t) e
    by false t e = let both = if-some (list_any (nat_eq n) (take cut chain)) a e in
        g (λ same. let s = eq-eqb n root same in cc) both.0 both.1

pub root-cut : (cut : ℕ) (o : Option ℕ) (a : Action) → root_action cut o ≡ Some a → 0 < cut
root-cut zero o a e = absurd (cc)
root-cut (suc cut) o a e = omega arith

pub root-lead : (cut : ℕ) (o : Option ℕ) (a : Action) → root_action cut o ≡ Some a → made_by a ≡ lead o
root-lead zero o a e = absurd (cc)
root-lead (suc cut) None a e = let f = same_Some action.Kill a e in ap made_by (sym f)
root-lead (suc cut) (Some k) a e = let f = same_Some (action.Redirect k) a e in ap made_by (sym f)

-- a loose slot that goes holds a heap-only version whose inserter is aborted
pub record IsLost (w : Window) (slots : List Slot) (n : ℕ) : Type 0 where
  pub version : Version
  pub there : version_at slots n ≡ Some version
  pub heap_only : is_heap_only version.header ≡ true
  pub thawed : ¬ IsFrozen version.header
  pub aborted : IsAborted w version.header.xmin.0

loose-lost : (w : Window) (slots : List Slot) (n : ℕ) (o : Option Version) (a : Action) → version_at slots n ≡ o → loose_in w (option_map (λ t. t.header) o) ≡ Some a
    → (a ≡ action.Unuse) × IsLost w slots n
loose-lost w slots n None a at e = absurd (cc)
loose-lost w slots n (Some t) a at e =
    let both = if-some (is_heap_only t.header && (not (is_frozen t.header) && has_aborted w t.header.xmin.0)) a e in
    let outer = and_parts (is_heap_only t.header) (not (is_frozen t.header) && has_aborted w t.header.xmin.0) both.0 in
    let inner = and_parts (not (is_frozen t.header)) (has_aborted w t.header.xmin.0) outer.1 in
    let thawed = not-true (is_frozen t.header) inner.0 in (
      both.1,
      record { version = t; there = at; heap_only = outer.0; thawed = λ f. absurd (let g : true ≡ false = sym f ∙ thawed in cc); aborted = has-aborted w t.header.xmin.0 inner.1 },
    )

pub lost-from : (w : Window) (slots : List Slot) (n : ℕ) (a : Action) → orphan_action w slots n ≡ Some a → (a ≡ action.Unuse) × IsLost w slots n
lost-from w slots n a e = loose-lost w slots n (version_at slots n) a refl e

pub lost-cut : (w : Window) (horizon : ℕ) (slots : List Slot) (n : ℕ) → IsLost w slots n → IsCut w horizon slots n
lost-cut w horizon slots n l = record {
  last = n;
  later = record { turns = 0; along = refl };
  dead = record { version = l.version; there = l.there; dead = IsDead.never_was l.thawed l.aborted };
}

-- a version to whose slot something is done is cut
pub done-cut : (w : Window) (horizon : ℕ) (slots : List Slot) (n : ℕ) (t : Version) (o : Option Action) (a : Action) → version_at slots n ≡ Some t → PrunesSlot w horizon slots n o
    → o ≡ Some a → IsCut w horizon slots n
done-cut w horizon slots n t o a at (by_root root chain cut i c e) is =
    chain-cases root cut n chain a (sym e ∙ is)
    (λ same act. let first = chain-first (has_aborted w) slots root n chain i.is_chain (ap (first_of slots) (sym same) ∙ first-normal slots n t at) in
    subst (IsCut w horizon slots) first.1 (prefix-cut w horizon slots root chain cut 0 i.is_chain c (root-cut cut (slice_get chain cut) a act)))
    (λ other prefix _. let p = place-in_front n cut chain c.within prefix in
    subst (IsCut w horizon slots) p.2 (prefix-cut w horizon slots root chain cut p.0 i.is_chain c p.1))
done-cut w horizon slots n t o a at (by_none l e) is = lost-cut w horizon slots n (lost-from w slots n a (sym e ∙ is)).1

pub acted-version : (old after : Option Slot) (o : Option Action) (t : Version) → after ≡ acted old o → option_and_then version_of after ≡ Some t
    → (o ≡ None) × (option_and_then version_of old ≡ Some t)
acted-version old after None t e at = (refl, ap (option_and_then version_of) (sym e) ∙ at)
acted-version old after (Some action.Unuse) t e at = absurd (let f = ap (option_and_then version_of) e in cc)
acted-version old after (Some action.Kill) t e at = absurd (let f = ap (option_and_then version_of) e in cc)
acted-version old after (Some (action.Redirect k)) t e at = absurd (let f = ap (option_and_then version_of) e in cc)

-- whatever pruning removes is cut
pub pruned-removes : (w : Window) (horizon : ℕ) (slots after : List Slot) → IsPruned w horizon slots after → RemovesVersions w horizon slots after
pruned-removes w horizon slots after p = record {
  kept = λ n t at.
      let there = version-there after n t at in
      let count = p.count in
      let each = p.each n (there.0, (let h = there.1 in omega arith)) in
      (acted-version (slot_at slots n) (slot_at after n) each.answer t each.is at).1;
  gone = λ n t at.
      let each = p.each n (version-there slots n t at) in
      by-answer each.answer
      (λ none. inl (ap (option_and_then version_of) (each.is ∙ ap (acted (slot_at slots n)) none) ∙ at))
      (λ a some. inr (done-cut w horizon slots n t each.answer a at each.does some));
}

-- what an index entry leads to stays, or becomes a redirect or dead
pub pruned-keeps_roots : (w : Window) (horizon : ℕ) (slots after : List Slot) → NoSharedSlots (has_aborted w) slots → IsPruned w horizon slots after → KeepsRoots slots after
pruned-keeps_roots w horizon slots after apart p n starts =
    let each = p.each n (root-there slots n starts) in
    by-answer each.answer
    (λ none. inl (each.is ∙ ap (acted (slot_at slots n)) none))
    (λ a some. inr (led a each.answer each.does some (each.is ∙ ap (acted (slot_at slots n)) some)))
  where
    led : (a : Action) (o : Option Action) → PrunesSlot w horizon slots n o → o ≡ Some a → slot_at after n ≡ Some (made_by a) → (kept : Option ℕ) × (slot_at after n ≡ Some (lead kept))
    led a o (by_root root chain cut i c e) is at =
        chain-cases root cut n chain a (sym e ∙ is)
        (λ same act. (slice_get chain cut, at ∙ ap Some (root-lead cut (slice_get chain cut) a act)))
        (λ other prefix _.
        let p = place-in_front n cut chain c.within prefix in
        let holds = at-place n chain p.0 (let h = p.1 in let l = c.within in omega arith) p.2 in
        let itself = root-leads (has_aborted w) slots root n chain i.is_chain starts holds in
        absurd (other (apart n root n itself (record { starts = i.starts; chain = chain; is_chain = i.is_chain; holds = holds }))))
    led a o (by_none l e) is at = absurd (let f = l.no_root in cc)
