-- The marks after the walks along the chains of the first roots.
use Rattle.std.proofs.Common.{◌≡◌, ℕ, zero, suc, ◌+◌, ◌<◌, Bool, true, false, nat_eq, if◌then◌else◌, ◌||◌, List, length, get_or, replicate, [], ◌∷◌, ◌≤◌, drop, drop-cons, add-one, arith, inl, inr, ⊎_elim, ap, ◌∙◌, refl, subst}
use Rattle.std.specs.List.{list_any, Contains}
use Rattle.std.proofs.lemmas.Bool.{cases_lt, cases_Bool, or_cases, eqb-true, eqb-false, or_parts}
use Rattle.page_sheet.specs.declared.slot.Slot.{Slot}
use Rattle.commit_status.specs.Window.{Window}
use Rattle.hot_chain.specs.Chain.{has_aborted, is_root}
use Rattle.hot_chain.proofs.Chains.{chain-one, any-contains, contains-any, root-there}
use Rattle.prune.specs.declared.marks.PruneVerdict.{PruneVerdict}
use Rattle.prune.specs.declared.marks.PruneVerdict.TheVariants.{Orphan}
use Rattle.prune.specs.Cutting.{IsCutCount}
use Rattle.prune.specs.Pruning.{IsInChainOf, chain_action}
use Rattle.prune.specs.Marks.{verdict_of, mark_at, MarksChain, IsVerdict, held, spared, NoneDead, PlainlyStays, ListsAllBut}
use Rattle.prune.proofs.Stays.{stays-none_dead}

pub data IsMarkSoFar (w : Window) (horizon : ℕ) (slots : List Slot) (bound n : ℕ) (mark : PruneVerdict) : Type 0 where
  by_chain : (root : ℕ) (chain : List ℕ) (cut : ℕ) → IsInChainOf (has_aborted w) slots root chain n → IsCutCount w horizon slots chain cut
      → mark ≡ verdict_of (chain_action root chain cut n) → IsMarkSoFar w horizon slots bound n mark
  by_none : ((root : ℕ) (chain : List ℕ) → root < bound → IsInChainOf (has_aborted w) slots root chain n → NoneDead w horizon slots chain)
      → mark ≡ Orphan → IsMarkSoFar w horizon slots bound n mark

-- the slots from one bound to another are no roots, or plainly stay
pub so_far-jump : (w : Window) (horizon : ℕ) (slots : List Slot) (bound more n : ℕ) (mark : PruneVerdict)
    → ((root : ℕ) → bound ≤ root → root < more → is_root slots root ≡ true → PlainlyStays w horizon slots root)
    → IsMarkSoFar w horizon slots bound n mark → IsMarkSoFar w horizon slots more n mark
so_far-jump w horizon slots bound more n mark stays (IsMarkSoFar.by_chain root chain cut o c e) = IsMarkSoFar.by_chain root chain cut o c e
so_far-jump w horizon slots bound more n mark stays (IsMarkSoFar.by_none f e) = IsMarkSoFar.by_none
    (λ root chain h i. ⊎_elim (λ lt. f root chain lt i)
    (λ ge. stays-none_dead w horizon slots root chain (stays root ge h i.starts) i.is_chain) (cases_lt root bound)) e

pub so_far-chain : (w : Window) (horizon : ℕ) (slots : List Slot) (root n : ℕ) (before after : List PruneVerdict) → MarksChain w horizon slots root before after
    → is_root slots root ≡ true → IsMarkSoFar w horizon slots root n (mark_at before n) → IsMarkSoFar w horizon slots (root + 1) n (mark_at after n)
so_far-chain w horizon slots root n before after m starts old = ⊎_elim in-chain elsewhere (cases_Bool (nat_eq n root || list_any (nat_eq n) m.chain))
  where
    chosen : (b : Bool) → nat_eq n root || list_any (nat_eq n) m.chain ≡ b
        → mark_at after n ≡ (if b then verdict_of (chain_action root m.chain m.cut n) else mark_at before n)
    chosen b e = m.each n ∙ ap (λ (x : Bool). if x then verdict_of (chain_action root m.chain m.cut n) else mark_at before n) e

    in-chain : nat_eq n root || list_any (nat_eq n) m.chain ≡ true → IsMarkSoFar w horizon slots (root + 1) n (mark_at after n)
    in-chain here = IsMarkSoFar.by_chain root m.chain m.cut (record {
      starts = starts;
      is_chain = m.is_chain;
      holds = ⊎_elim (λ a. inl (eqb-true n root a)) (λ b. inr (any-contains n m.chain b)) (or_cases (nat_eq n root) (list_any (nat_eq n) m.chain) here);
    }) m.is_cut (chosen true here)

    same : nat_eq n root || list_any (nat_eq n) m.chain ≡ false → IsMarkSoFar w horizon slots root n (mark_at before n) → IsMarkSoFar w horizon slots (root + 1) n (mark_at after n)
    same off (IsMarkSoFar.by_chain r chain cut o c e) = IsMarkSoFar.by_chain r chain cut o c (chosen false off ∙ e)
    same off (IsMarkSoFar.by_none f e) =
        IsMarkSoFar.by_none
        (λ r chain h i. ⊎_elim (λ lt. f r chain lt i)
        (λ ge. let at : r ≡ root = omega arith in absurd (not-held (subst (λ k. IsInChainOf (has_aborted w) slots k chain n) at i))) (cases_lt r root))
        (chosen false off ∙ e)
      where
        not-held : {chain : List ℕ} → IsInChainOf (has_aborted w) slots root chain n → ⊥
        not-held {chain} i =
            let apart = or_parts (nat_eq n root) (list_any (nat_eq n) m.chain) off in
            ⊎_elim (λ same. eqb-false n root apart.0 same)
            (λ holds.
            let one = chain-one (has_aborted w) slots root chain m.chain i.is_chain m.is_chain in
            let some = contains-any n m.chain (subst (λ c. Contains c n) one holds) in
            let none = apart.1 in
            absurd (cc)) i.holds

    elsewhere : nat_eq n root || list_any (nat_eq n) m.chain ≡ false → IsMarkSoFar w horizon slots (root + 1) n (mark_at after n)
    elsewhere off = same off old

pub so_far-all : (w : Window) (horizon : ℕ) (slots : List Slot) (bound n : ℕ) (mark : PruneVerdict) → length slots < bound
    → IsMarkSoFar w horizon slots bound n mark → IsVerdict w horizon slots n mark
so_far-all w horizon slots bound n mark all (IsMarkSoFar.by_chain root chain cut o c e) = held root chain cut o c e
so_far-all w horizon slots bound n mark all (IsMarkSoFar.by_none f e) =
    spared (λ root chain i. let there = (root-there slots root i.starts).1 in f root chain (omega arith) i) e

-- The marks after the first `i` of the slots that are listed: of those up to `low` each is marked, or plainly stays.
pub record IsMarkingPage (w : Window) (horizon : ℕ) (slots : List Slot) (doubtful : List ℕ) (marks : List PruneVerdict) (i : ℕ) : Type 0 where
  pub low : ℕ
  pub left : ListsAllBut (PlainlyStays w horizon slots) low (drop i doubtful) (length slots + 1)
  pub marked : (n : ℕ) → IsMarkSoFar w horizon slots (low + 1) n (mark_at marks n)

-- the next one that is listed
pub record IsNext (w : Window) (horizon : ℕ) (slots : List Slot) (doubtful : List ℕ) (low i : ℕ) : Type 0 where
  pub over : low < get_or doubtful i 0
  pub within : get_or doubtful i 0 ≤ length slots
  pub between : (n : ℕ) → low < n → n < get_or doubtful i 0 → PlainlyStays w horizon slots n
  pub left : ListsAllBut (PlainlyStays w horizon slots) (get_or doubtful i 0) (drop (i + 1) doubtful) (length slots + 1)

pub next-listed : (w : Window) (horizon : ℕ) (slots : List Slot) (doubtful : List ℕ) (low i : ℕ) → i < length doubtful
    → ListsAllBut (PlainlyStays w horizon slots) low (drop i doubtful) (length slots + 1) → IsNext w horizon slots doubtful low i
next-listed w horizon slots doubtful low i within l =
    let more : ListsAllBut (PlainlyStays w horizon slots) low (get_or doubtful i 0 ∷ drop (i + 1) doubtful) (length slots + 1) =
    subst (λ xs. ListsAllBut (PlainlyStays w horizon slots) low xs (length slots + 1)) (next-of doubtful i within) l in
    record { over = more.0; within = let lt = more.1 in omega arith; between = more.2; left = more.3 }
  where
    next-of : (xs : List ℕ) (i : ℕ) → i < length xs → drop i xs ≡ get_or xs i 0 ∷ drop (i + 1) xs
    next-of xs i within = rw add-one (drop-cons xs i 0 within)

pub marking-root : (w : Window) (horizon : ℕ) (slots : List Slot) (doubtful : List ℕ) (before after : List PruneVerdict) (i : ℕ) (m : IsMarkingPage w horizon slots doubtful before i)
    → i < length doubtful → is_root slots (get_or doubtful i 0) ≡ true → MarksChain w horizon slots (get_or doubtful i 0) before after → IsMarkingPage w horizon slots doubtful after (i + 1)
marking-root w horizon slots doubtful before after i m within starts c =
    let x = next-listed w horizon slots doubtful m.low i within m.left in
    record {
      low = get_or doubtful i 0;
      left = x.left;
      marked = λ n. so_far-chain w horizon slots (get_or doubtful i 0) n before after c starts
          (so_far-jump w horizon slots (m.low + 1) (get_or doubtful i 0) n _ (λ r h lt _. x.between r (omega arith) lt) (m.marked n));
    }

pub marking-other : (w : Window) (horizon : ℕ) (slots : List Slot) (doubtful : List ℕ) (marks : List PruneVerdict) (i : ℕ) (m : IsMarkingPage w horizon slots doubtful marks i)
    → i < length doubtful → is_root slots (get_or doubtful i 0) ≡ false → IsMarkingPage w horizon slots doubtful marks (i + 1)
marking-other w horizon slots doubtful marks i m within off =
    let x = next-listed w horizon slots doubtful m.low i within m.left in
    record {
      low = get_or doubtful i 0;
      left = x.left;
      marked = λ n. so_far-jump w horizon slots (m.low + 1) (get_or doubtful i 0 + 1) n _
          (λ r h lt starts. ⊎_elim (λ below. x.between r (omega arith) below)
          (λ ge. let same : r ≡ get_or doubtful i 0 = omega arith in absurd (let at = ap (is_root slots) same in cc)) (cases_lt r (get_or doubtful i 0))) (m.marked n);
    }

pub marking-all : (w : Window) (horizon : ℕ) (slots : List Slot) (doubtful : List ℕ) (marks : List PruneVerdict) (i : ℕ) → IsMarkingPage w horizon slots doubtful marks i
    → drop i doubtful ≡ [] → (n : ℕ) → IsVerdict w horizon slots n (mark_at marks n)
marking-all w horizon slots doubtful marks i m none n =
    let l : ListsAllBut (PlainlyStays w horizon slots) m.low [] (length slots + 1) = subst (λ xs. ListsAllBut (PlainlyStays w horizon slots) m.low xs (length slots + 1)) none m.left in
    so_far-all w horizon slots (length slots + 1) n _ (omega arith)
    (so_far-jump w horizon slots (m.low + 1) (length slots + 1) n _ (λ r h lt _. l r (omega arith) lt) (m.marked n))

pub loose-everywhere : (count n : ℕ) → get_or (replicate count Orphan) n Orphan ≡ Orphan
loose-everywhere zero n = refl
loose-everywhere (suc count) zero = refl
loose-everywhere (suc count) (suc n) = loose-everywhere count n
