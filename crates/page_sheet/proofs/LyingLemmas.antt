-- What is known of how versions lie is kept, and what it is once one went or came.
use Rattle.std.proofs.Common.{◌≡◌, ⊎_elim, ℕ, zero, suc, ◌+◌, ◌*◌, ◌%◌, ◌<◌, ◌≤◌, List, take, sum_by, sym, ap, ◌∙◌, subst, refl, arith}
use Rattle.std.specs.Int.{next_multiple_of}
use Rattle.page_layout.specs.declared.pointer.Pointer.{Pointer}
use Rattle.page_layout.specs.declared.pointer.Extent.{Extent}
use Rattle.page_sheet.specs.declared.lying.Lying.{Lying}
use Rattle.page_sheet.specs.declared.slot.Slot.{Slot}
use Rattle.page_sheet.specs.Slots.{bytes_taken}
use Rattle.page_layout.specs.Layout.{pointer_in, upper_in}
use Rattle.page_sheet.specs.Layout.{slots_in}
use Rattle.page_layout.specs.Sound.{IsSound, end_of}
use Rattle.page_sheet.specs.Packing.{taken_to, IsBlock}
use Rattle.page_sheet.specs.Lying.{IsInOrderWithout, IsLying, IsCleared}
use Rattle.page_layout.proofs.OrderLemmas.{last_or_before, same_or_other}
use Rattle.page_sheet.proofs.Sounds.{extent-in}
use Rattle.page_sheet.proofs.Added.{none-taken, below-aligned, rounded_even}
use Rattle.page_sheet.proofs.PackLemmas.{IsCompacted}
use Rattle.page_sheet.proofs.RunLemmas.{closes, run-normal, run-bare, taken-all, taken-normal, taken-bare}

-- Versions that stand as they did.

-- the first so many slots hold versions at the same places
pub record StandAlike (a b : List ℕ) (n : ℕ) : Type 0 where
  pub there : (j : ℕ) (e : Extent) → j < n → pointer_in a j ≡ Pointer.Normal e → pointer_in b j ≡ Pointer.Normal e
  pub back : (j : ℕ) (e : Extent) → j < n → pointer_in b j ≡ Pointer.Normal e → pointer_in a j ≡ Pointer.Normal e

pub alike-same : (a b : List ℕ) (n : ℕ) → ((j : ℕ) → j < n → pointer_in b j ≡ pointer_in a j) → StandAlike a b n
alike-same a b n same = record { there = λ j e h is. same j h ∙ is; back = λ j e h is. sym (same j h) ∙ is }

alike-fewer : (a b : List ℕ) (m n : ℕ) → m ≤ n → StandAlike a b n → StandAlike a b m
alike-fewer a b m n less alike = record { there = λ j e h is. alike.there j e (omega arith) is; back = λ j e h is. alike.back j e (omega arith) is }

-- so they take as much
taken-one : (a b : List ℕ) (c d n : ℕ) (p : Pointer) → IsSound a c → IsSound b d → n < c → n < d → StandAlike a b (n + 1) → p ≡ pointer_in a n
    → taken_to b d n ≡ taken_to a c n → taken_to b d (n + 1) ≡ taken_to a c (n + 1)
taken-one a b c d n p old new few_a few_b alike is before = by p is
  where
    bare : ((e : Extent) → pointer_in a n ≡ Pointer.Normal e → ⊥) → taken_to b d (n + 1) ≡ taken_to a c (n + 1)
    bare none = taken-bare b d n few_b (λ e there. none e (alike.back n e (omega arith) there)) ∙ before ∙ sym (taken-bare a c n few_a none)

    by : (p : Pointer) → p ≡ pointer_in a n → taken_to b d (n + 1) ≡ taken_to a c (n + 1)
    by Pointer.Unused at = bare (λ e x. absurd (cc))
    by (Pointer.Normal e) at =
        taken-normal b d n e new few_b (alike.there n e (omega arith) (sym at)) ∙ ap (λ (k : ℕ). k + next_multiple_of e.len 8) before
        ∙ sym (taken-normal a c n e old few_a (sym at))
    by (Pointer.Redirect target) at = bare (λ e x. absurd (cc))
    by Pointer.Dead at = bare (λ e x. absurd (cc))

taken-alike : (a b : List ℕ) (c d n : ℕ) → IsSound a c → IsSound b d → n ≤ c → n ≤ d → StandAlike a b n → taken_to b d n ≡ taken_to a c n
taken-alike a b c d zero old new few_a few_b alike = refl
taken-alike a b c d (suc n) old new few_a few_b alike =
    let more : n + 1 ≡ suc n = omega arith in
    subst (λ (k : ℕ). taken_to b d k ≡ taken_to a c k) more
    (taken-one a b c d n (pointer_in a n) old new (omega arith) (omega arith) (alike-fewer a b (n + 1) (suc n) (omega arith) alike) refl
    (taken-alike a b c d n old new (omega arith) (omega arith) (alike-fewer a b n (suc n) (omega arith) alike)))

block-alike : (a b : List ℕ) (c d first top i low : ℕ) → IsSound a c → IsSound b d → first ≤ i → i ≤ c → i ≤ d → StandAlike a b i
    → IsBlock a c first top i low → IsBlock b d first top i low
block-alike a b c d first top i low old new order few_a few_b alike block =
    let begin = taken-alike a b c d first old new (omega arith) (omega arith) (alike-fewer a b first i order alike) in
    let end = taken-alike a b c d i old new few_a few_b alike in
    let total = block.total in
    record {
      total = omega arith;
      even = block.even;
      lie = λ j e h k is.
          let here = block.lie j e h k (alike.back j e k is) in
          let same = taken-alike a b c d (j + 1) old new (omega arith) (omega arith) (alike-fewer a b (j + 1) i (omega arith) alike) in
          omega arith;
    }

-- where they stand as they did, they lie as they did
pub lying-kept : (a b : List ℕ) (count : ℕ) (lying : Lying) → IsSound a count → IsSound b count → upper_in b ≡ upper_in a → StandAlike a b count
    → IsLying a count lying → IsLying b count lying
lying-kept a b count Lying.Anyhow old new upper alike lies = tt
lying-kept a b count Lying.InOrder old new upper alike lies =
    subst (λ (u : ℕ). IsBlock b count 0 8192 count u) (sym upper) (block-alike a b count count 0 8192 count (upper_in a) old new (omega arith) (omega arith) (omega arith) alike lies)
lying-kept a b count (Lying.Without first e) old new upper alike lies =
    let within = lies.within in
    let most : first ≤ count = omega (arith, within) in
    record {
      within = within;
      above = block-alike a b count count 0 8192 first (end_of e) old new (omega arith) most most (alike-fewer a b first count most alike) lies.above;
      below = subst (λ (u : ℕ). IsBlock b count first e.from count u) (sym upper)
          (block-alike a b count count first e.from count (upper_in a) old new most (omega arith) (omega arith) alike lies.below);
    }

-- A version goes.

-- what is cleared held no version
alike-cleared : (a b : List ℕ) (count i : ℕ) → ((e : Extent) → pointer_in a i ≡ Pointer.Normal e → ⊥) → IsCleared a b count i → StandAlike a b count
alike-cleared a b count i none cleared = record {
  there = λ j e h is. ⊎_elim (λ same. absurd (none e (ap (pointer_in a) (sym same) ∙ is))) (λ other. cleared.others j other ∙ is) (same_or_other j i);
  back = λ j e h is. ⊎_elim (λ same. absurd (cleared.bare e (ap (pointer_in b) (sym same) ∙ is))) (λ other. sym (cleared.others j other) ∙ is) (same_or_other j i);
}

pub lying-bare : (a b : List ℕ) (count i : ℕ) (lying : Lying) → IsSound a count → ((e : Extent) → pointer_in a i ≡ Pointer.Normal e → ⊥) → IsCleared a b count i
    → IsLying a count lying → IsLying b count lying
lying-bare a b count i lying old none cleared lies = lying-kept a b count lying old cleared.sound cleared.upper (alike-cleared a b count i none cleared) lies

-- the slots behind take less by what went
less-here : (a b : List ℕ) (count i : ℕ) (e : Extent) → IsSound a count → i < count → pointer_in a i ≡ Pointer.Normal e → IsCleared a b count i
    → taken_to b count (i + 1) + next_multiple_of e.len 8 ≡ taken_to a count (i + 1)
less-here a b count i e old within is cleared =
    let alike : StandAlike a b i = alike-same a b i (λ j h. cleared.others j (λ x. absurd (omega arith))) in
    let before = taken-alike a b count count i old cleared.sound (omega arith) (omega arith) alike in
    let went = taken-bare b count i within cleared.bare in
    let was = taken-normal a count i e old within is in
    omega arith

less-more : (a b : List ℕ) (count i n size : ℕ) (p : Pointer) → IsSound a count → IsCleared a b count i → n < count → i < n → p ≡ pointer_in a n
    → taken_to b count n + size ≡ taken_to a count n → taken_to b count (n + 1) + size ≡ taken_to a count (n + 1)
less-more a b count i n size p old cleared few behind at before = by p at
  where
    same : pointer_in b n ≡ pointer_in a n
    same = cleared.others n (λ x. absurd (omega (arith, x, behind)))

    bare : ((d : Extent) → pointer_in a n ≡ Pointer.Normal d → ⊥) → taken_to b count (n + 1) + size ≡ taken_to a count (n + 1)
    bare none =
        let new = taken-bare b count n few (λ d there. none d (sym same ∙ there)) in
        let was = taken-bare a count n few none in
        omega (arith, new, was, before)

    by : (p : Pointer) → p ≡ pointer_in a n → taken_to b count (n + 1) + size ≡ taken_to a count (n + 1)
    by Pointer.Unused x = bare (λ d y. absurd (cc))
    by (Pointer.Normal d) x =
        let new = taken-normal b count n d cleared.sound few (same ∙ sym x) in
        let was = taken-normal a count n d old few (sym x) in
        omega (arith, new, was, before)
    by (Pointer.Redirect target) x = bare (λ d y. absurd (cc))
    by Pointer.Dead x = bare (λ d y. absurd (cc))

taken-less : (a b : List ℕ) (count i n : ℕ) (e : Extent) → IsSound a count → i < count → pointer_in a i ≡ Pointer.Normal e → IsCleared a b count i → i < n → n ≤ count
    → taken_to b count n + next_multiple_of e.len 8 ≡ taken_to a count n
taken-less a b count i zero e old within is cleared behind few = absurd (omega arith)
taken-less a b count i (suc n) e old within is cleared behind few =
    let more : n + 1 ≡ suc n = omega arith in
    subst (λ (k : ℕ). taken_to b count k + next_multiple_of e.len 8 ≡ taken_to a count k) more (⊎_elim
    (λ (same : i ≡ n). subst (λ (k : ℕ). taken_to b count (k + 1) + next_multiple_of e.len 8 ≡ taken_to a count (k + 1)) same (less-here a b count i e old within is cleared))
    (λ (later : i < n). less-more a b count i n (next_multiple_of e.len 8) (pointer_in a n) old cleared (omega arith) later refl
    (taken-less a b count i n e old within is cleared later (omega arith)))
    (last_or_before i n (omega arith)))

pub lying-without : (a b : List ℕ) (count i : ℕ) (e : Extent) → IsSound a count → i < count → pointer_in a i ≡ Pointer.Normal e → IsCleared a b count i
    → IsLying a count Lying.InOrder → IsLying b count (Lying.Without i e)
lying-without a b count i e old within is cleared lies =
    let total = lies.total in
    let here = lies.lie i e (omega arith) within is in
    let more = taken-normal a count i e old within is in
    let alike : StandAlike a b i = alike-same a b i (λ j h. cleared.others j (λ x. absurd (omega arith))) in
    let before = taken-alike a b count count i old cleared.sound (omega arith) (omega arith) alike in
    let all = taken-less a b count i count e old within is cleared within (omega arith) in
    let upper = cleared.upper in
    let good = extent-in a count i e old within is in
    let aligned : e.from % 8 ≡ 0 = good.aligned in
    let even = rounded_even e.len in
    record {
      within = omega arith;
      above = record {
        total = omega arith;
        even = omega arith;
        lie = λ j d h k there.
            let was = lies.lie j d (omega arith) (omega arith) (alike.back j d k there) in
            let same = taken-alike a b count count (j + 1) old cleared.sound (omega arith) (omega arith) (alike-fewer a b (j + 1) i (omega arith) alike) in
            omega arith;
      };
      below = record {
        total = omega arith;
        even = subst (λ (u : ℕ). u % 8 ≡ 0) (sym upper) lies.even;
        lie = λ j d h k there. ⊎_elim
            (λ same. absurd (cleared.bare d (ap (pointer_in b) (sym same) ∙ there)))
            (λ other. let was = lies.lie j d (omega arith) k (sym (cleared.others j other) ∙ there) in
            let less = taken-less a b count i (j + 1) e old within is cleared (omega arith) (omega arith) in
            omega arith)
            (same_or_other j i);
      };
    }

-- A slot comes, behind all others.

block-grown : (a b : List ℕ) (count first top low : ℕ) → IsSound a count → IsSound b (count + 1) → first ≤ count → StandAlike a b count
    → pointer_in b count ≡ Pointer.Unused → IsBlock a count first top count low → IsBlock b (count + 1) first top (count + 1) low
block-grown a b count first top low old new within alike is block =
    run-bare b (count + 1) first top count low (omega arith) (λ e there. absurd (cc)) (block-alike a b count (count + 1) first top count low old new within (omega arith) (omega arith) alike block)

pub lying-grown : (a b : List ℕ) (count : ℕ) (lying : Lying) → IsSound a count → IsSound b (count + 1) → upper_in b ≡ upper_in a
    → ((j : ℕ) → j < count → pointer_in b j ≡ pointer_in a j) → pointer_in b count ≡ Pointer.Unused → IsLying a count lying → IsLying b (count + 1) lying
lying-grown a b count Lying.Anyhow old new upper same is lies = tt
lying-grown a b count Lying.InOrder old new upper same is lies =
    subst (λ (u : ℕ). IsBlock b (count + 1) 0 8192 (count + 1) u) (sym upper)
    (block-grown a b count 0 8192 (upper_in a) old new (omega arith) (alike-same a b count same) is lies)
lying-grown a b count (Lying.Without first e) old new upper same is lies =
    let within = lies.within in
    let most : first ≤ count = omega (arith, within) in
    let alike = alike-same a b count same in
    record {
      within = omega (arith, within);
      above = block-alike a b count (count + 1) 0 8192 first (end_of e) old new (omega arith) most (omega (arith, most)) (alike-fewer a b first count most alike) lies.above;
      below = subst (λ (u : ℕ). IsBlock b (count + 1) first e.from (count + 1) u) (sym upper)
          (block-grown a b count first e.from (upper_in a) old new most alike is lies.below);
    }

-- A version comes into the last slot, below all others.

block-filled : (a b : List ℕ) (count i first top : ℕ) (e : Extent) → IsSound a count → IsSound b count → i + 1 ≡ count → first ≤ i → StandAlike a b i
    → ((d : Extent) → pointer_in a i ≡ Pointer.Normal d → ⊥) → pointer_in b i ≡ Pointer.Normal e → e.from ≡ upper_in b → upper_in b + next_multiple_of e.len 8 ≡ upper_in a
    → IsBlock a count first top count (upper_in a) → IsBlock b count first top count (upper_in b)
block-filled a b count i first top e old new last before alike none is from size block =
    let shorter : IsBlock a count first top i (upper_in a) =
    let total : upper_in a + taken_to a count (i + 1) ≡ top + taken_to a count first = subst (λ (k : ℕ). upper_in a + taken_to a count k ≡ top + taken_to a count first) (sym last) block.total in
    let bare = taken-bare a count i (omega (arith, last)) none in
    record { total = omega (arith, total, bare); even = block.even; lie = λ j d h k there. block.lie j d h (omega (arith, k, last)) there } in
    subst (λ (k : ℕ). IsBlock b count first top k (upper_in b)) last
    (subst (λ (u : ℕ). IsBlock b count first top (i + 1) u) from
    (run-normal b count first top i (upper_in a) e new (omega (arith, last)) is (ap (λ (u : ℕ). u + next_multiple_of e.len 8) from ∙ size)
    (block-alike a b count count first top i (upper_in a) old new before (omega (arith, last)) (omega (arith, last)) alike shorter)))

pub lying-filled : (a b : List ℕ) (count i : ℕ) (lying : Lying) (e : Extent) → IsSound a count → IsSound b count → i + 1 ≡ count
    → ((j : ℕ) → j < i → pointer_in b j ≡ pointer_in a j) → ((d : Extent) → pointer_in a i ≡ Pointer.Normal d → ⊥)
    → pointer_in b i ≡ Pointer.Normal e → e.from ≡ upper_in b → upper_in b + next_multiple_of e.len 8 ≡ upper_in a
    → IsLying a count lying → IsLying b count lying
lying-filled a b count i Lying.Anyhow e old new last same none is from size lies = tt
lying-filled a b count i Lying.InOrder e old new last same none is from size lies =
    block-filled a b count i 0 8192 e old new last (omega arith) (alike-same a b i same) none is from size lies
lying-filled a b count i (Lying.Without first hole) e old new last same none is from size lies =
    let within = lies.within in
    let alike = alike-same a b i same in
    let few : first ≤ i = omega (arith, within, last) in
    let most : first ≤ count = omega (arith, within) in
    record {
      within = within;
      above = block-alike a b count count 0 8192 first (end_of hole) old new (omega arith) most most (alike-fewer a b first i few alike) lies.above;
      below = block-filled a b count i first hole.from e old new last few alike none is from size lies.below;
    }

-- Versions that were moved together, or none at all.

pub lying-compacted : (old b : List ℕ) (count top : ℕ) → IsCompacted old b count top → IsLying b count Lying.InOrder
lying-compacted old b count top done =
    let upper = done.upper in
    let all : taken_to b count count ≡ sum_by bytes_taken (slots_in count old) = taken-all b count ∙ ap (λ (xs : List Slot). sum_by bytes_taken xs) done.slots.are in
    record {
      total = omega arith;
      even = done.sound.aligned;
      lie = λ j e h k is. ap (λ (xs : List Slot). e.from + sum_by bytes_taken (take (j + 1) xs)) done.slots.are ∙ done.order j e k is;
    }

pub lying-bare_page : (b : List ℕ) (count : ℕ) → IsSound b count → sum_by bytes_taken (slots_in count b) ≡ 0 → upper_in b ≡ 8192 → IsLying b count Lying.InOrder
lying-bare_page b count sound none upper =
    let all : taken_to b count count ≡ 0 = taken-all b count ∙ none in
    record {
      total = omega arith;
      even = sound.aligned;
      lie = λ j e h k is. absurd (none-taken b count j e sound none k is);
    }

-- The hole is closed.

-- what its parts ask for
pub record HoleCloses (old : List ℕ) (count first low top size : ℕ) : Type 0 where
  pub head : IsBlock old count 0 8192 first (top + size)
  pub tail : IsBlock old count first top count low
  pub order : low ≤ top
  pub behind : 24 + 4 * count ≤ low + size
  pub most : top + size ≤ 8192
  pub even : size % 8 ≡ 0

pub hole-closes : (old : List ℕ) (count first low top size : ℕ) (e : Extent) → IsInOrderWithout old count first e → 4 * count + sum_by bytes_taken (slots_in count old) ≤ 8168
    → low ≡ upper_in old → top ≡ e.from → size ≡ next_multiple_of e.len 8 → HoleCloses old count first low top size
hole-closes old count first low top size e lies room low_is top_is size_is =
    let even = lies.above.even in
    let inside = lies.within in
    let within : first ≤ count = omega (arith, inside) in
    let parts =
    closes old count first (end_of e) count (upper_in old) e.from lies.above within lies.below (omega arith) (omega arith) (omega arith)
    (below-aligned (end_of e) e.from e.len even refl) room in
    let order = parts.order in
    let behind = parts.behind in
    let most = parts.most in
    let end : end_of e ≡ top + size = omega (arith, top_is, size_is) in
    record {
      head = subst (λ (u : ℕ). IsBlock old count 0 8192 first u) end lies.above;
      tail = subst (λ (u : ℕ). IsBlock old count first u count low) (sym top_is) (subst (λ (u : ℕ). IsBlock old count first e.from count u) (sym low_is) lies.below);
      order = omega (arith, order, low_is, top_is);
      behind = omega (arith, behind, low_is, size_is);
      most = omega (arith, most, end);
      even = subst (λ (u : ℕ). u % 8 ≡ 0) (sym size_is) (rounded_even e.len);
    }
