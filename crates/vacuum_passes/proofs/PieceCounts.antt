-- How many pieces of the indexes are left, before and after a step.
use Rattle.std.proofs.Common.{◌≡◌, ℕ, zero, suc, ◌+◌, ◌-◌, ◌<◌, ◌≤◌, max, true, false, List, [], ◌∷◌, ◌++◌, length, get_or, take, drop, Option, Some, None, is_some, if◌then◌else◌, arith, refl, sym, ap, ◌∙◌, subst, ⊎_elim, Contains, length-append}
use Rattle.std.specs.Prelude.{IsSome, unwrap_or}
use Rattle.std.specs.List.{AllPairs, filter}
use Rattle.std.specs.Ordering.{is_lt}
use Rattle.std.proofs.lemmas.List.{take-append-drop, drop_more}
use Rattle.std.proofs.lemmas.List.Elements.{All-contains, filter_passes, Contains-append_left, Contains-append_right, Contains-append_cases}
use Rattle.std.proofs.lemmas.List.Kept.{AllPairs-cons, AllPairs-filter}
use Rattle.xid_circle.specs.declared.Tid.{Tid}
use Rattle.xid_circle.proofs.Members.{Contains-first, Contains-rest, Contains-cases, Contains-none}
use Rattle.dead_places.proofs.PlaceLemmas.{less_from_test}
use Rattle.index_entries.specs.declared.entry.Entry.{Entry}
use Rattle.index_entries.specs.Order.{comparison, EntryPrecedes, IsAscending}
use Rattle.index_entries.specs.Sets.{IsAfter}
use Rattle.index_entries.proofs.OrderLemmas.{not_before_itself, Precedes-trans}
use Rattle.table_indexes.specs.Indexes.{IndexesView, entries_at, entries_in, IsInUse}
use Rattle.root_index.specs.declared.progress.Progress.{Progress}
use Rattle.root_index.specs.declared.progress.Progress.TheVariants.{More}
use Rattle.root_index.specs.Pieces.{RemovesPiece}
use Rattle.vacuum_passes.specs.Bound.{entries_after, pieces_in, pieces_of, pieces_from, pieces_after}
use Rattle.table_indexes.specs.Indexes.{entries_from}
use Rattle.vacuum_passes.proofs.ListLemmas.{pairs-tail, pairs-head, all-from, in-filtered, in-filter}

-- A list without doubles is no longer than one that has all of it.
pub no-longer : {A : Type 0} (R : A → A → Type 0) → ((a : A) → ¬ R a a) → (ys xs : List A) → AllPairs R ys → ((a : A) → Contains ys a → Contains xs a) → length ys ≤ length xs
no-longer R apart [] xs up all = omega arith
no-longer {A} R apart (y ∷ ys) xs up all =
    let at = all y (Contains-first y ys) in
    let split : take at.0 xs ++ get_or xs at.0 y ∷ drop (at.0 + 1) xs ≡ xs = ap (λ l. take at.0 xs ++ l) (sym (drop_more xs at.0 y at.1)) ∙ take-append-drop at.0 xs in
    let rest = no-longer R apart ys (take at.0 xs ++ drop (at.0 + 1) xs) (pairs-tail R y ys up)
    (λ a there. in-rest (take at.0 xs) (drop (at.0 + 1) xs) (get_or xs at.0 y) a
    (λ same. apart y (subst (R y) (sym same ∙ at.2) (pairs-head R y a ys up there)))
    (subst (λ l. Contains l a) (sym split) (all a (Contains-rest y a ys there)))) in
    let whole = ap (λ l. length l) split in
    let parts = length-append (take at.0 xs) (get_or xs at.0 y ∷ drop (at.0 + 1) xs) in
    let others = length-append (take at.0 xs) (drop (at.0 + 1) xs) in
    omega (arith, rest, whole, parts, others)
  where
    in-rest : (prefix back : List A) (x a : A) → ¬ (x ≡ a) → Contains (prefix ++ x ∷ back) a → Contains (prefix ++ back) a
    in-rest prefix back x a other there = ⊎_elim
        (λ before. Contains-append_left prefix back a before)
        (λ after. ⊎_elim (λ same. absurd (other same)) (λ later. Contains-append_right prefix back a later) (Contains-cases x a back after))
        (Contains-append_cases prefix (x ∷ back) a there)

-- The entries after one.

after-passes : (from e : Entry) → EntryPrecedes from e → is_lt (comparison from e) ≡ true
after-passes from e before = ap is_lt before

pub after-there : (from : Option Entry) (entries : List Entry) (e : Entry) → Contains entries e → IsAfter from e → Contains (entries_after from entries) e
after-there None entries e there after = there
after-there (Some a) entries e there after = in-filter (λ f. is_lt (comparison a f)) entries e there (after-passes a e after)

pub after-is : (last : Entry) (entries : List Entry) (e : Entry) → Contains (entries_after (Some last) entries) e → Contains entries e × EntryPrecedes last e
after-is last entries e there = (
  in-filtered (λ f. is_lt (comparison last f)) entries e there,
  less_from_test (comparison last e) (All-contains (λ f. is_lt (comparison last f) ≡ true) (filter (λ f. is_lt (comparison last f)) entries) e (filter_passes (λ f. is_lt (comparison last f)) entries) there),
)

-- A piece.

pub after-later : (from : Option Entry) (last e : Entry) → IsAfter from last → EntryPrecedes last e → IsAfter from e
after-later None last e first second = tt
after-later (Some a) last e first second = Precedes-trans a last e first second

module _ (old new : List Entry) (dead : List Tid) (from : Option Entry) where
  -- where an entry follows, there is a piece less
  pub piece-less : (last : Entry) → RemovesPiece old new dead from (More last) → pieces_in (Some last) new < pieces_in from old
  piece-less last r =
      let next = r.goes_on.2 in
      let after-last = entries_after (Some last) new in
      let members : (e : Entry) → Contains (last ∷ entries_after (Some last) new) e → Contains (entries_after from old) e = λ e there. ⊎_elim
      (λ first. subst (Contains (entries_after from old)) first (after-there from old last r.goes_on.0 r.goes_on.1))
      (λ rest. let a = after-is last new e rest in after-there from old e ((r.members e).0 a.0).0 (after-later from last e r.goes_on.1 a.1))
      (Contains-cases last e (entries_after (Some last) new) there) in
      let ascending : IsAscending (last ∷ entries_after (Some last) new) = AllPairs-cons EntryPrecedes last (entries_after (Some last) new)
      (all-from (EntryPrecedes last) (entries_after (Some last) new) (λ e there. (after-is last new e there).1))
      (AllPairs-filter EntryPrecedes (λ e. is_lt (comparison last e)) new r.ascending) in
      let fewer = no-longer EntryPrecedes not_before_itself (last ∷ entries_after (Some last) new) (entries_after from old) ascending members in
      let two = no-longer EntryPrecedes not_before_itself (last ∷ next.0 ∷ []) (entries_after from old)
      (AllPairs-cons EntryPrecedes last (next.0 ∷ []) (all-from (EntryPrecedes last) (next.0 ∷ []) (λ e there. one next.0 e next.2 there)) (λ i j d lt within. absurd (omega (arith, lt, within))))
      (λ e there. ⊎_elim
      (λ first. subst (Contains (entries_after from old)) first (after-there from old last r.goes_on.0 r.goes_on.1))
      (λ rest. subst (Contains (entries_after from old)) (single next.0 e rest) (after-there from old next.0 next.1 (after-later from last next.0 r.goes_on.1 next.2)))
      (Contains-cases last e (next.0 ∷ []) there)) in
      omega (arith, fewer, two)
    where
      single : (x e : Entry) → Contains (x ∷ []) e → x ≡ e
      single x e there = ⊎_elim (λ same. same) (λ none. absurd (Contains-none e none)) (Contains-cases x e [] there)

      one : (x e : Entry) → EntryPrecedes last x → Contains (x ∷ []) e → EntryPrecedes last e
      one x e before there = subst (EntryPrecedes last) (single x e there) before

  pub removed-fewer : (progress : Progress) → RemovesPiece old new dead from progress → length new ≤ length old
  removed-fewer progress r = no-longer EntryPrecedes not_before_itself new old r.ascending (λ e there. ((r.members e).0 there).0)

pub piece-some : (from : Option Entry) (entries : List Entry) → 1 ≤ pieces_in from entries
piece-some from entries = omega arith

-- Indexes.

in-use-is : (o : Option (List Entry)) → IsSome o → (if is_some o then max 1 (length (unwrap_or o [])) else 0) ≡ max 1 (length (unwrap_or o []))
in-use-is None used = absurd (cc used)
in-use-is (Some es) used = refl

pub pieces-in_use : (indexes : IndexesView) (n : ℕ) → IsInUse indexes n → pieces_of indexes n ≡ pieces_in None (entries_in indexes n)
pieces-in_use indexes n used = in-use-is (entries_at indexes n) used

of-fewer : (o o' : Option (List Entry)) → (IsSome o' → IsSome o) → length (unwrap_or o' []) ≤ length (unwrap_or o [])
    → (if is_some o' then max 1 (length (unwrap_or o' [])) else 0) ≤ (if is_some o then max 1 (length (unwrap_or o [])) else 0)
of-fewer o None used fewer = omega arith
of-fewer None (Some es) used fewer = absurd (let e : false ≡ true = used refl in cc)
of-fewer (Some es) (Some es') used fewer = let le : length es' ≤ length es = fewer in omega (arith, le)

pub pieces-fewer : (indexes indexes' : IndexesView) (n : ℕ) → (IsInUse indexes' n → IsInUse indexes n) → length (entries_in indexes' n) ≤ length (entries_in indexes n)
    → pieces_of indexes' n ≤ pieces_of indexes n
pieces-fewer indexes indexes' n used fewer = of-fewer (entries_at indexes n) (entries_at indexes' n) used fewer

pub all-fewer : (indexes indexes' : IndexesView) (n count : ℕ) → ((k : ℕ) → pieces_of indexes' k ≤ pieces_of indexes k) → pieces_from indexes' n count ≤ pieces_from indexes n count
all-fewer indexes indexes' n zero fewer = omega arith
all-fewer indexes indexes' n (suc count) fewer =
    let first = fewer n in
    let rest = all-fewer indexes indexes' (suc n) count fewer in
    omega (arith, first, rest)

pub pieces-split : (indexes : IndexesView) (n a b count : ℕ) → count ≡ a + b → pieces_from indexes n count ≡ pieces_from indexes n a + pieces_from indexes (n + a) b
pieces-split indexes n zero b count e =
    let size : count ≡ b = omega (arith, e) in
    let place : n ≡ n + 0 = omega arith in
    let same = ap (λ k. pieces_from indexes n k) size ∙ ap (λ k. pieces_from indexes k b) place in
    omega (arith, same)
pieces-split indexes n (suc a) b zero e = absurd (omega (arith, e))
pieces-split indexes n (suc a) b (suc count) e =
    let rest = pieces-split indexes (suc n) a b count (omega (arith, e)) in
    let place : suc n + a ≡ n + suc a = omega arith in
    let same = ap (λ k. pieces_from indexes k b) place in
    omega (arith, rest, same)

-- the pieces after index i are those of a later one and those after it, and maybe more
pub pieces-later : (indexes : IndexesView) (i j : ℕ) → i < j → j < 5 → pieces_of indexes j + pieces_after indexes j ≤ pieces_after indexes i
pieces-later indexes i j onward few =
    let split = pieces-split indexes (suc i) (j - suc i) (suc (4 - j)) (4 - i) (omega (arith, onward, few)) in
    let start : suc i + (j - suc i) ≡ j = omega (arith, onward) in
    let there = ap (λ k. pieces_from indexes k (suc (4 - j))) start in
    omega (arith, split, there)

-- the pieces of an index that holds some entries are at most one more
pub pieces-few : (indexes : IndexesView) (n count : ℕ) → pieces_from indexes n count ≤ entries_from indexes n count + count
pieces-few indexes n zero = omega arith
pieces-few indexes n (suc count) =
    let first = by (entries_at indexes n) in
    let rest = pieces-few indexes (suc n) count in
    omega (arith, first, rest)
  where
    by : (o : Option (List Entry)) → (if is_some o then max 1 (length (unwrap_or o [])) else 0) ≤ length (unwrap_or o []) + 1
    by None = omega arith
    by (Some es) = omega arith
