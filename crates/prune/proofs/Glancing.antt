-- Glances at the slots of a page, from the last to the first.
use Rattle.std.proofs.Common.{◌≡◌, ℕ, zero, suc, ◌+◌, ◌-◌, ◌<◌, ◌≤◌, Bool, true, false, List, [], ◌∷◌, ◌++◌, length, reverse, get_or, set, Some, arith, ⊎_elim, sym, ap, ◌∙◌, refl, subst, length-append}
use Rattle.std.proofs.lemmas.Bool.{cases_lt}
use Rattle.std.proofs.lemmas.List.{get_or-set_same, get_or-set_other, length-set, reverse-append}
use Rattle.std.proofs.lemmas.Option.{same_Some}
use Rattle.page_sheet.specs.declared.slot.Slot.{Slot}
use Rattle.page_sheet.specs.Slots.{version_at, header_at, the_slot, SlotIsThere, is_undeleted_by}
use Rattle.tuple_header.specs.declared.version.Header.{Header}
use Rattle.commit_status.specs.Window.{Window, IsAborted}
use Rattle.sound_page.proofs.ChainPlaces.{first-normal}
use Rattle.prune.specs.Marks.{PlainlyStays, ListsAllBut, ListsDoubtful}
use Rattle.prune.specs.Glances.{IsPlain, IsPlainAt, StartsPlainly, ArePlainOrNotedOver}
use Rattle.prune.proofs.Cuts.{some-version}
use Rattle.prune.proofs.Passed.{kept-there, kept-alive, kept-unreplaced, kept-header}
use Rattle.prune.proofs.Gaps.{gaps-before, gaps-put, gaps-map}

-- What a glance tells.

pub starts-stays : (w : Window) (horizon : ℕ) (slots : List Slot) (n : ℕ) → StartsPlainly w slots n → PlainlyStays w horizon slots n
starts-stays w horizon slots n plain start h first at =
    let p = plain start first h at in
    (kept-unreplaced w h p.0, kept-alive w horizon h.xmin.0 h p.1 refl p.0)

pub starts-version : (w : Window) (slots : List Slot) (n : ℕ) (h : Header) → header_at slots n ≡ Some h → IsPlain w h → StartsPlainly w slots n
starts-version w slots n h at plain start first k there =
    let v = some-version (version_at slots n) h at in
    let e : Some n ≡ Some start = sym (first-normal slots n v.0 v.1) ∙ first in
    let same : h ≡ k = same_Some h k (sym at ∙ ap (header_at slots) (same_Some n start e) ∙ there) in
    subst (IsPlain w) same plain

-- a version is the first of its chain
pub starts-plain : (w : Window) (slots : List Slot) (n : ℕ) → StartsPlainly w slots n → IsPlainAt w slots n
starts-plain w slots n plain h at =
    let v = some-version (version_at slots n) h at in
    plain n (first-normal slots n v.0 v.1) h at

-- one that is passed over
passed-starts : (w : Window) (slots : List Slot) (n x : ℕ) → ¬ IsAborted w x → SlotIsThere slots n → is_undeleted_by x (the_slot slots n) ≡ true → StartsPlainly w slots n
passed-starts w slots n x good there e =
    let k = kept-there slots n x there e in
    starts-version w slots n k.version.header (kept-header slots n x k) (k.kept, subst (λ y. ¬ IsAborted w y) (sym k.made) good)

-- The slots over a number.

pub record IsGlancing (w : Window) (slots : List Slot) (doubtful : List ℕ) (noted : List Bool) (known number : ℕ) : Type 0 where
  pub few : number + length doubtful ≤ length slots
  pub listed : ListsAllBut (StartsPlainly w slots) number (reverse doubtful) (length slots + 1)
  pub others : ArePlainOrNotedOver w slots noted number
  pub unaborted : ¬ IsAborted w known
  pub long : length noted ≡ 292

pub glancing-more : (w : Window) (slots : List Slot) (doubtful : List ℕ) (noted : List Bool) (known x number : ℕ) → IsGlancing w slots doubtful noted known number
    → StartsPlainly w slots number → ¬ IsAborted w x → IsGlancing w slots doubtful noted x (number - 1)
glancing-more w slots doubtful noted known x number g plain good = record {
  few = let few = g.few in omega arith;
  listed = gaps-before (StartsPlainly w slots) number (length slots + 1) (reverse doubtful) g.listed plain;
  others = λ n over off. ⊎_elim (λ lt. g.others n lt off)
      (λ ge. let same : n ≡ number = omega arith in subst (IsPlainAt w slots) (sym same) (starts-plain w slots number plain)) (cases_lt number n);
  unaborted = good;
  long = g.long;
}

pub glancing-push : (w : Window) (slots : List Slot) (doubtful : List ℕ) (noted : List Bool) (known number : ℕ) → 1 ≤ number → number < length noted
    → IsGlancing w slots doubtful noted known number → IsGlancing w slots (doubtful ++ number ∷ []) (set noted number true) known (number - 1)
glancing-push w slots doubtful noted known number from small g = record {
  few = let few = g.few in let long : length (doubtful ++ number ∷ []) ≡ length doubtful + 1 = rw length-append refl in omega arith;
  listed = let few = g.few in
      subst (λ xs. ListsAllBut (StartsPlainly w slots) (number - 1) xs (length slots + 1)) (sym (reverse-append doubtful (number ∷ [])))
      (gaps-put (StartsPlainly w slots) number (length slots + 1) (reverse doubtful) from (omega arith) g.listed);
  others = λ n over off. ⊎_elim (λ lt. g.others n lt (sym (get_or-set_other noted number n true false (λ same. omega arith)) ∙ off))
      (λ ge. let same : n ≡ number = omega arith in
      let on = get_or-set_same noted number true false small in
      absurd (let f : true ≡ false = sym on ∙ ap (λ k. get_or (set noted number true) k false) (sym same) ∙ off in cc)) (cases_lt number n);
  unaborted = g.unaborted;
  long = length-set noted number true ∙ g.long;
}

glancing-steps : (w : Window) (slots : List Slot) (doubtful : List ℕ) (noted : List Bool) (known next k : ℕ)
    → ((n : ℕ) → next < n → n ≤ next + k → is_undeleted_by known (the_slot slots n) ≡ true) → IsGlancing w slots doubtful noted known (next + k) → IsGlancing w slots doubtful noted known next
glancing-steps w slots doubtful noted known next zero p g = let same : next + 0 ≡ next = omega arith in subst (IsGlancing w slots doubtful noted known) same g
glancing-steps w slots doubtful noted known next (suc k) p g =
    let few = g.few in
    let same : (next + suc k) - 1 ≡ next + k = omega arith in
    let plain = passed-starts w slots (next + suc k) known g.unaborted (omega arith, omega arith) (p (next + suc k) (omega arith) (omega arith)) in
    glancing-steps w slots doubtful noted known next k (λ n over upto. p n over (omega arith))
    (subst (IsGlancing w slots doubtful noted known) same (glancing-more w slots doubtful noted known known (next + suc k) g plain g.unaborted))

-- slots that are passed over
pub glancing-passed : (w : Window) (slots : List Slot) (doubtful : List ℕ) (noted : List Bool) (known number next : ℕ) → next ≤ number
    → ((n : ℕ) → next < n → n ≤ number → is_undeleted_by known (the_slot slots n) ≡ true) → IsGlancing w slots doubtful noted known number → IsGlancing w slots doubtful noted known next
glancing-passed w slots doubtful noted known number next le p g =
    let same : number ≡ next + (number - next) = omega arith in
    glancing-steps w slots doubtful noted known next (number - next) (λ n over upto. p n over (omega arith)) (subst (IsGlancing w slots doubtful noted known) same g)

pub listed-doubtful : (w : Window) (horizon : ℕ) (slots : List Slot) (doubtful : List ℕ) → ListsAllBut (StartsPlainly w slots) 0 doubtful (length slots + 1)
    → ListsDoubtful w horizon slots doubtful
listed-doubtful w horizon slots doubtful l =
    gaps-map (StartsPlainly w slots) (PlainlyStays w horizon slots) 0 (length slots + 1) doubtful (λ n plain. starts-stays w horizon slots n plain) l
