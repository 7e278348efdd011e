-- Slots that are known to hold the only versions which are not plain.
use Rattle.std.proofs.Common.{◌≡◌, ◌⊎◌, ℕ, zero, suc, ◌+◌, ◌-◌, ◌<◌, ◌≤◌, Bool, true, false, List, [], ◌∷◌, ◌++◌, length, reverse, get_or, set, Option, Some, None, inl, inr, arith, ⊎_elim, sym, ap, ◌∙◌, refl, subst, length-append}
use Rattle.std.specs.Prelude.{Contains}
use Rattle.std.specs.Option.{option_map}
use Rattle.std.proofs.lemmas.Bool.{cases_eq}
use Rattle.std.proofs.lemmas.List.{get_or-set_same, get_or-set_other, get_or_default, length-set, reverse-append}
use Rattle.std.proofs.lemmas.Option.{none-some}
use Rattle.page_sheet.specs.declared.slot.Slot.{Slot}
use Rattle.page_sheet.specs.Slots.{version_at, header_at}
use Rattle.tuple_header.specs.Version.{Version}
use Rattle.tuple_header.specs.declared.version.Header.{Header}
use Rattle.commit_status.specs.Window.{Window}
use Rattle.space_maps.specs.Hints.{AddsDoubt}
use Rattle.sound_page.proofs.Links.{version-there}
use Rattle.prune.specs.Marks.{ListsAllBut}
use Rattle.prune.specs.Glances.{IsPlain, IsPlainAt, StartsPlainly, StartsUnnoted, ArePlainBut, AreDoubts, is_noted}
use Rattle.prune.proofs.Cuts.{some-version}
use Rattle.prune.proofs.Gaps.{gaps-before, gaps-put, gaps-found}
use Rattle.prune.proofs.Glancing.{starts-plain}

-- Numbers that are noted.

-- the first so many are, as far as a slot may have them
abbrev pub AreNoted : List Bool → List ℕ → ℕ → Type 0
AreNoted noted numbers upto = (k : ℕ) → k < upto → get_or numbers k 0 < 292 → is_noted noted (get_or numbers k 0) ≡ true

pub noted-more : (noted : List Bool) (numbers : List ℕ) (i x : ℕ) → length (set noted x true) ≡ 292 → x ≡ get_or numbers i 0 → x < 292 → AreNoted noted numbers i
    → AreNoted (set noted x true) numbers (i + 1)
noted-more noted numbers i x long is small before k lt within = ⊎_elim
    (λ same. ap (is_noted (set noted x true)) same ∙ get_or-set_same noted x true false (let same = length-set noted x true in omega (arith, long, small, same)))
    (λ other. get_or-set_other noted x (get_or numbers k 0) true false other ∙ before k (⊎_elim (λ it. absurd (other (ap (λ j. get_or numbers j 0) it ∙ sym is))) (λ off. omega (arith, lt, off)) (cases_eq k i)) within)
    (cases_eq (get_or numbers k 0) x)

pub noted-past : (noted : List Bool) (numbers : List ℕ) (i x : ℕ) → x ≡ get_or numbers i 0 → 292 ≤ x → AreNoted noted numbers i → AreNoted noted numbers (i + 1)
noted-past noted numbers i x is past before k lt within = ⊎_elim
    (λ it. let same : get_or numbers k 0 ≡ x = ap (λ j. get_or numbers j 0) it ∙ sym is in absurd (omega (arith, same, past, within)))
    (λ off. before k (omega (arith, lt, off)) within)
    (cases_eq k i)

pub noted-all : (noted : List Bool) (numbers : List ℕ) (upto : ℕ) → length numbers ≤ upto → AreNoted noted numbers upto
    → (n : ℕ) → n < 292 → Contains numbers n → is_noted noted n ≡ true
noted-all noted numbers upto all are n small there =
    let within = there.1 in
    let same : get_or numbers there.0 0 ≡ n = get_or_default numbers there.0 0 n within ∙ there.2 in
    sym (ap (is_noted noted) same) ∙ are there.0 (omega (arith, within, all)) (omega (arith, same, small))

-- The slots whose chains begin where a version is not plain.

pub plain-there : (w : Window) (slots : List Slot) (numbers : List ℕ) (n : ℕ) → ArePlainBut w slots numbers → ¬ Contains numbers n → IsPlainAt w slots n
plain-there w slots numbers n plain off h at =
    let v = some-version (version_at slots n) h at in
    let is : Some v.0.header ≡ Some h = sym (ap (option_map (λ (t : Version). t.header)) v.1) ∙ at in
    subst (IsPlain w) (same_header v.0.header h is) (plain n v.0 v.1 off)
  where
    same_header : (a b : Header) → Some a ≡ Some b → a ≡ b
    same_header a b e = cc

pub unnoted-plain : (w : Window) (slots : List Slot) (numbers : List ℕ) (noted : List Bool) (n : ℕ) → length slots ≤ 291
    → ((m : ℕ) → m < 292 → Contains numbers m → is_noted noted m ≡ true) → ArePlainBut w slots numbers → StartsUnnoted slots noted n → StartsPlainly w slots n
unnoted-plain w slots numbers noted n few all plain unnoted start first h at =
    let v = some-version (version_at slots start) h at in
    let there = version-there slots start v.0 v.1 in
    let upto = there.1 in
    let small : start < 292 = omega (arith, upto, few) in
    plain-there w slots numbers start plain
    (λ in_it. absurd (let e : true ≡ false = sym (all start small in_it) ∙ unnoted start first small in cc)) h at

pub record IsListingKnown (w : Window) (slots : List Slot) (doubtful : List ℕ) (number : ℕ) : Type 0 where
  pub few : number + length doubtful ≤ length slots
  pub listed : ListsAllBut (StartsPlainly w slots) number (reverse doubtful) (length slots + 1)

pub known-more : (w : Window) (slots : List Slot) (doubtful : List ℕ) (number : ℕ) → StartsPlainly w slots number → IsListingKnown w slots doubtful number
    → IsListingKnown w slots doubtful (number - 1)
known-more w slots doubtful number plain k = record {
  few = let few = k.few in omega arith;
  listed = gaps-before (StartsPlainly w slots) number (length slots + 1) (reverse doubtful) k.listed plain;
}

pub known-push : (w : Window) (slots : List Slot) (doubtful : List ℕ) (number : ℕ) → 1 ≤ number → IsListingKnown w slots doubtful number
    → IsListingKnown w slots (doubtful ++ number ∷ []) (number - 1)
known-push w slots doubtful number from k = record {
  few = let few = k.few in let long : length (doubtful ++ number ∷ []) ≡ length doubtful + 1 = rw length-append refl in omega arith;
  listed = let few = k.few in
      subst (λ xs. ListsAllBut (StartsPlainly w slots) (number - 1) xs (length slots + 1)) (sym (reverse-append doubtful (number ∷ [])))
      (gaps-put (StartsPlainly w slots) number (length slots + 1) (reverse doubtful) from (omega arith) k.listed);
}

-- What is known afterwards.

-- of the first so many of these slots each is noted, or its version is plain
abbrev pub AreDoubtsUpTo : Window → List Slot → List ℕ → ℕ → Option (List ℕ) → Type 0
AreDoubtsUpTo w slots doubtful upto None = Unit {0}
AreDoubtsUpTo w slots doubtful upto (Some numbers) = (k : ℕ) → k < upto → ¬ Contains numbers (get_or doubtful k 0) → IsPlainAt w slots (get_or doubtful k 0)

pub upto-plain : (w : Window) (slots : List Slot) (doubtful : List ℕ) (i x : ℕ) (known : Option (List ℕ)) → x ≡ get_or doubtful i 0 → IsPlainAt w slots x
    → AreDoubtsUpTo w slots doubtful i known → AreDoubtsUpTo w slots doubtful (i + 1) known
upto-plain w slots doubtful i x None is plain before = tt
upto-plain w slots doubtful i x (Some numbers) is plain before = λ k lt off. ⊎_elim
    (λ it. subst (IsPlainAt w slots) (is ∙ ap (λ j. get_or doubtful j 0) (sym it)) plain)
    (λ other. before k (omega (arith, lt, other)) off)
    (cases_eq k i)

pub upto-added : (w : Window) (slots : List Slot) (doubtful : List ℕ) (i x : ℕ) (known after : Option (List ℕ)) → x ≡ get_or doubtful i 0 → AddsDoubt known x after
    → AreDoubtsUpTo w slots doubtful i known → AreDoubtsUpTo w slots doubtful (i + 1) after
upto-added w slots doubtful i x known None is adds before = tt
upto-added w slots doubtful i x None (Some after) is adds before = absurd adds
upto-added w slots doubtful i x (Some numbers) (Some after) is adds before = λ k lt off. ⊎_elim
    (λ none. λ h at. absurd (none-some h (sym (ap (header_at slots) none) ∙ at)))
    (λ some.
    let both = adds (get_or doubtful k 0) some off in
    before k (⊎_elim (λ it. absurd (both.0 (ap (λ j. get_or doubtful j 0) it ∙ sym is))) (λ other. omega (arith, lt, other)) (cases_eq k i)) both.1)
    (zero-or (get_or doubtful k 0))
  where
    zero-or : (n : ℕ) → (n ≡ 0) ⊎ (1 ≤ n)
    zero-or zero = inl refl
    zero-or (suc n) = inr (omega arith)

pub upto-all : (w : Window) (slots : List Slot) (doubtful : List ℕ) (upto : ℕ) (known : Option (List ℕ)) → length doubtful ≤ upto
    → ListsAllBut (StartsPlainly w slots) 0 doubtful (length slots + 1) → AreDoubtsUpTo w slots doubtful upto known → AreDoubts w slots known
upto-all w slots doubtful upto None all lists are = tt
upto-all w slots doubtful upto (Some numbers) all lists are = λ n t at off.
    let there = version-there slots n t at in
    let within = there.1 in
    let header : header_at slots n ≡ Some t.header = ap (option_map (λ (v : Version). v.header)) at in
    ⊎_elim
    (λ plain. starts-plain w slots n plain t.header header)
    (λ found.
    let lt = found.1 in
    are found.0 (omega (arith, lt, all)) (λ c. off (subst (Contains numbers) found.2 c)) t.header (ap (header_at slots) found.2 ∙ header))
    (gaps-found (StartsPlainly w slots) 0 (length slots + 1) n doubtful lists there.0 (omega (arith, within)))
