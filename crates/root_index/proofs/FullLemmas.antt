-- What an index takes without memory.
use Rattle.std.proofs.Common.{◌≡◌, ℕ, zero, suc, ◌+◌, ◌*◌, ◌-◌, ◌<◌, ◌≤◌, ◌⊎◌, inl, inr, ⊎_elim, max, List, [], ◌∷◌, length, ap, refl, arith}
use Rattle.std.proofs.lemmas.Bool.{cases_lt}
use Rattle.entry_columns.specs.Columns.{ColumnsView}
use Rattle.index_nodes.specs.Nodes.{AreNeat}
use Rattle.root_index.specs.View.{free_places}
use Rattle.index_nodes.specs.Rows.{some_with}
use Rattle.root_index.specs.Trees.{Tree, branch_entries, tree_entries, among, long_among, IsNeatBranch, IsNeatTree}

-- where a leaf has no place and no larger list is there, there are 128 entries or more
pub full_among : (trees : List Tree) (Reserve : Type 0) → (0 < length (among trees) → Reserve ⊎ (0 < long_among trees))
    → (length trees ≡ 0) ⊎ ((128 ≤ length (among trees)) ⊎ ((¬ Reserve) × (64 * (long_among trees + 1) ≤ length (among trees)))) → (length (among trees) ≡ 0) ⊎ (128 ≤ length (among trees))
full_among [] Reserve ready full = inl refl
full_among (tree ∷ trees) Reserve ready (inl none) = absurd (omega (arith, none))
full_among (tree ∷ trees) Reserve ready (inr (inl many)) = inr many
full_among (tree ∷ trees) Reserve ready (inr (inr taken)) = elim (ready (omega (arith, taken.1))) [
  | inl has ↦ absurd (taken.0 has)
  | inr long ↦ inr (omega (arith, long, taken.1))
]

pub no_room : (promised n : ℕ) → promised ≡ 0 → (n ≡ 0) ⊎ (128 ≤ n) → max promised (free_places n promised) ≡ 0
no_room zero zero none full = refl
no_room zero (suc n) none (inl empty) = absurd (omega (arith, empty))
no_room zero (suc n) none (inr many) = omega (arith, many)
no_room (suc promised) n none full = absurd (omega (arith, none))

free_less : (n promised promised' : ℕ) → free_places n promised ≤ free_places (suc n) promised' + 1
free_less zero zero promised' = omega arith
free_less zero (suc promised) promised' = omega arith
free_less (suc n) promised promised' = omega arith

-- an insert takes at most one place
pub room_less : (promised promised' n n' : ℕ) → promised - 1 ≤ promised' → n' ≡ n + 1
    → max promised (free_places n promised) ≤ max promised' (free_places n' promised') + 1
room_less promised promised' n n' less more =
    let free = free_less n promised promised' in
    let next : n' ≡ suc n = omega (arith, more) in
    let is = ap (λ n. free_places n promised') next in
    omega (arith, less, free, is)

-- trees that are there have entries

pub some_among : (trees : List Tree) → AreNeat IsNeatTree (λ tree. length tree) trees → 0 < length trees → 0 < length (among trees)
some_among = some_with tree_entries IsNeatTree (λ tree. length tree)
    (some_with branch_entries IsNeatBranch (λ branch. length branch)
    (some_with (λ (leaf : ColumnsView). leaf.entries) (λ leaf. Unit {0}) (λ leaf. length leaf.entries) (λ leaf neat some. some)))

-- the places for emptied nodes are made with the first entry
pub places_after : (trees : List Tree) (count : ℕ) (Places Places' : Type 0) → AreNeat IsNeatTree (λ tree. length tree) trees → count ≡ length (among trees)
    → (0 < count → Places) → (Places → Places') → (length trees ≡ 0 → Places') → Places'
places_after trees count Places Places' neat counted were kept first = elim (cases_lt 0 (length trees)) [
  | inl some ↦ kept (were (omega (arith, counted, some_among trees neat some)))
  | inr none ↦ first (omega (arith, none))
]

-- with it a list for a leaf that outgrows its own
pub ready_after : (trees new : List Tree) (count : ℕ) (Reserve Reserve' : Type 0) → AreNeat IsNeatTree (λ tree. length tree) trees → count ≡ length (among trees)
    → (0 < count → Reserve ⊎ (0 < long_among trees)) → (Reserve → Reserve' ⊎ (long_among trees < long_among new)) → long_among trees ≤ long_among new → (length trees ≡ 0 → Reserve')
    → Reserve' ⊎ (0 < long_among new)
ready_after trees new count Reserve Reserve' neat counted were kept more first = elim (cases_lt 0 (length trees)) [
  | inl some ↦ ⊎_elim (λ has. ⊎_elim (λ still. inl still) (λ longer. inr (omega (arith, longer))) (kept has)) (λ long. inr (omega (arith, long, more)))
      (were (omega (arith, counted, some_among trees neat some)))
  | inr none ↦ inl (first (omega (arith, none)))
]
