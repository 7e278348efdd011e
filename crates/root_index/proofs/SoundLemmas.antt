-- What the calls of an index keep.
use Rattle.std.proofs.Common.{◌≡◌, ◌∙◌, ℕ, zero, suc, ◌+◌, ◌-◌, ◌^◌, ◌<◌, ◌≤◌, ◌⊎◌, inl, inr, ⊎_elim, max, List, length, Option, slice_get, sym, ap, refl, subst, arith}
use Rattle.std.specs.List.{insert}
use Rattle.std.proofs.lemmas.Bool.{cases_lt}
use Rattle.std.proofs.lemmas.List.Edits.{length-insert}
use Rattle.index_entries.specs.declared.entry.Entry.{Entry}
use Rattle.index_entries.specs.Order.{IsAscending}
use Rattle.index_entries.specs.Sets.{AddsEntry, IsAt, IsGapFor, IsLeast}
use Rattle.index_nodes.specs.declared.nodes.TreePosition.{TreePosition}
use Rattle.index_nodes.specs.Nodes.{all, rank_in, AreNeat, IsStartIn}
use Rattle.root_index.specs.Trees.{Tree, among, long_among, IsNeatTree, SetAside, IsSoundIndex}
use Rattle.index_entries.proofs.SetLemmas.{ascending-insert, adds-inserted, first_is_least}

-- what is left for one insert fewer
left_after : (HasLeft HasLeft' : ℕ → Type 0) → ((k : ℕ) → HasLeft (k + 1) → HasLeft' k) → HasLeft' 0 → (promised : ℕ) → HasLeft promised → HasLeft' (promised - 1)
left_after HasLeft HasLeft' next none zero left = none
left_after HasLeft HasLeft' next none (suc k) left =
    let is : suc k ≡ k + 1 = omega arith in
    let less : k ≡ suc k - 1 = omega arith in
    subst HasLeft' less (next k (subst HasLeft is left))

module _ (trees new : List Tree) (aside aside' : SetAside) (count promised : ℕ) (sound : IsSoundIndex trees aside count promised) where
  pub sound_inserted : (x : Entry) (rank count' promised' : ℕ) → IsGapFor (among trees) x rank → among new ≡ insert (among trees) rank x → AreNeat IsNeatTree (λ tree. length tree) new → aside'.HasPlaces → aside'.HasReserve ⊎ (0 < long_among new)
      → aside.places ≤ aside'.places + 1 → aside.trees ≤ aside'.trees + 1 → ((k : ℕ) → aside.HasLeft (k + 1) → aside'.HasLeft k) → aside'.HasLeft 0 → count' ≡ count + 1 → promised' ≡ promised - 1 → count' < 2 ^ 64
      → IsSoundIndex new aside' count' promised'
  sound_inserted x rank count' promised' gap made neat places ready in_room in_spare next none counted kept fits =
      let up = ascending-insert (among trees) x rank sound.ascending gap in
      let longer = length-insert (among trees) rank x gap.in_range in
      let before = sound.counted in
      let after : length (among new) ≡ length (insert (among trees) rank x) = ap length made in
      let in_list = sound.in_list in
      let in_trees = sound.in_trees in
      let bound = sound.countable in
      record {
        ascending = subst IsAscending (sym made) up;
        neat = neat;
        counted = omega arith;
        in_list = omega arith;
        in_trees = omega arith;
        below = subst aside'.HasLeft (sym kept) (left_after aside.HasLeft aside'.HasLeft next none promised sound.below);
        places = λ some. places;
        ready = λ some. ready;
        countable = omega arith;
      }

  -- what was promised for others is kept where it is still enough
  pub sound_unspent : (x : Entry) (rank count' promised' : ℕ) → IsGapFor (among trees) x rank → among new ≡ insert (among trees) rank x → AreNeat IsNeatTree (λ tree. length tree) new → aside'.HasPlaces → aside'.HasReserve ⊎ (0 < long_among new)
      → count' ≡ count + 1 → promised ≤ aside'.places → promised ≤ aside'.trees → aside'.HasLeft promised → count' + promised < 2 ^ 64 → promised' ≡ promised
      → IsSoundIndex new aside' count' promised'
  sound_unspent x rank count' promised' gap made neat places ready counted in_list in_trees below countable is =
      let up = ascending-insert (among trees) x rank sound.ascending gap in
      let longer = length-insert (among trees) rank x gap.in_range in
      let before = sound.counted in
      let after : length (among new) ≡ length (insert (among trees) rank x) = ap length made in
      record {
        ascending = subst IsAscending (sym made) up;
        neat = neat;
        counted = omega arith;
        in_list = omega (arith, is, in_list);
        in_trees = omega (arith, is, in_trees);
        below = subst aside'.HasLeft (sym is) below;
        places = λ some. places;
        ready = λ some. ready;
        countable = omega (arith, is, countable);
      }

-- Of an index alone: entries that go, and calls that may be refused.

module _ (trees : List Tree) (aside : SetAside) (count promised : ℕ) (sound : IsSoundIndex trees aside count promised) where
  -- Where nothing is promised a call may be refused.

  pub one_left : ((k : ℕ) → aside.HasLeft (k + 1) → aside.HasLeft k) → ¬ aside.HasLeft 1 → promised ≡ 0
  one_left less none = by_case promised sound.below
    where
      down : (k : ℕ) → aside.HasLeft (suc k) → aside.HasLeft 1
      down zero left = left
      down (suc k) left =
          let is : suc (suc k) ≡ suc k + 1 = omega arith in
          down k (less (suc k) (subst aside.HasLeft is left))

      by_case : (p : ℕ) → aside.HasLeft p → p ≡ 0
      by_case zero left = refl
      by_case (suc k) left = absurd (none (down k left))

  pub none_promised : ((k : ℕ) → aside.HasLeft (k + 1) → aside.HasLeft k) → (aside.places ≡ 0) ⊎ ((aside.trees ≡ 0) ⊎ (¬ aside.HasLeft 1)) → promised ≡ 0
  none_promised less (inl none) = let in_list = sound.in_list in omega arith
  none_promised less (inr (inl none)) = let in_trees = sound.in_trees in omega arith
  none_promised less (inr (inr none)) = one_left less none

  pub none_countable : count + 1 ≡ 2 ^ 64 → promised ≡ 0
  none_countable full = let bound = sound.countable in omega arith

-- what a call reads through a reference
pub ascending_there : (trees there : List Tree) → there ≡ trees → IsAscending (among trees) → IsAscending (among there)
ascending_there trees there is up = subst (λ (ts : List Tree). IsAscending (among ts)) (sym is) up

-- the first entry from where those begin that a look-up asks for
pub least_found : {N S : Type 0} (entries : N → List Entry) (rank : N → S → ℕ) (IsPosition : N → S → Type 0) (nodes there here : List N) (P : Entry → Type 0) (position : TreePosition S) (found : Option Entry)
    → there ≡ nodes → here ≡ nodes → IsAscending (all entries nodes) → IsStartIn entries rank IsPosition there P position
    → found ≡ slice_get (all entries here) (rank_in entries rank here position) → IsLeast (all entries nodes) P found
least_found {N} entries rank IsPosition nodes there here P position found is is_too up start at =
    let begins = (subst (λ (ns : List N). IsStartIn entries rank IsPosition ns P position) is start).start in
    let first = first_is_least (all entries nodes) P (rank_in entries rank nodes position) up begins in
    subst (IsLeast (all entries nodes) P) (sym (at ∙ ap (λ (ns : List N). slice_get (all entries ns) (rank_in entries rank ns position)) is_too)) first

pub found_there : {N S : Type 0} (entries : N → List Entry) (rank : N → S → ℕ) (nodes there : List N) (x : Entry) (position : TreePosition S) → there ≡ nodes
    → IsAt (all entries there) x (rank_in entries rank there position) → IsAt (all entries nodes) x (rank_in entries rank nodes position)
found_there {N} entries rank nodes there x position is found = subst (λ (ns : List N). IsAt (all entries ns) x (rank_in entries rank ns position)) is found

pub gap_there : {N S : Type 0} (entries : N → List Entry) (rank : N → S → ℕ) (nodes there : List N) (x : Entry) (position : TreePosition S) → there ≡ nodes
    → IsGapFor (all entries there) x (rank_in entries rank there position) → IsGapFor (all entries nodes) x (rank_in entries rank nodes position)
gap_there {N} entries rank nodes there x position is gap = subst (λ (ns : List N). IsGapFor (all entries ns) x (rank_in entries rank ns position)) is gap

pub adds_in_gap : (old new : List Entry) (x : Entry) (rank : ℕ) → IsAscending old → IsGapFor old x rank → new ≡ insert old rank x → AddsEntry old new x
adds_in_gap old new x rank up gap made = subst (λ (xs : List Entry). AddsEntry old xs x) (sym made) (adds-inserted old x rank up gap)

pub max_left : (HasLeft : ℕ → Type 0) (a b most : ℕ) → HasLeft a → HasLeft b → (most ≡ a) ⊎ (most ≡ b) → HasLeft most
max_left HasLeft a b most left left_too (inl is) = subst HasLeft (sym is) left
max_left HasLeft a b most left left_too (inr is) = subst HasLeft (sym is) left_too

most_is : (a b most : ℕ) → most ≡ max a b → (most ≡ a) ⊎ (most ≡ b)
most_is a b most is = elim (cases_lt a b) [ inl less ↦ inr (omega (arith, is)) | inr more ↦ inl (omega (arith, is)) ]

-- an index that has room for more
pub sound_roomier : (trees new : List Tree) (aside aside' : SetAside) (count promised given most : ℕ) → IsSoundIndex trees aside count promised → new ≡ trees
    → aside.places ≤ aside'.places → given ≤ aside'.places → aside.trees ≤ aside'.trees → given ≤ aside'.trees → ((k : ℕ) → aside.HasLeft k → aside'.HasLeft k) → aside'.HasLeft given
    → (aside.HasPlaces → aside'.HasPlaces) → (aside.HasReserve → aside'.HasReserve) → most ≡ max promised given → count + given < 2 ^ 64 → IsSoundIndex new aside' count most
sound_roomier trees new aside aside' count promised given most sound same kept_room in_room kept_spare in_spare kept left places reserve is fits =
    let which = most_is promised given most is in
    let in_list = sound.in_list in
    let in_trees = sound.in_trees in
    let bound = sound.countable in
    record {
      ascending = subst (λ (ts : List Tree). IsAscending (among ts)) (sym same) sound.ascending;
      neat = subst (AreNeat IsNeatTree (λ tree. length tree)) (sym same) sound.neat;
      counted = sound.counted ∙ ap (λ (ts : List Tree). length (among ts)) (sym same);
      in_list = omega arith;
      in_trees = omega arith;
      below = max_left aside'.HasLeft promised given most (kept promised sound.below) left which;
      places = λ some. places (sound.places some);
      ready = λ some. ⊎_elim (λ has. inl (reserve has)) (λ long. inr (subst (λ (ts : List Tree). 0 < long_among ts) (sym same) long)) (sound.ready some);
      countable = omega arith;
    }
