use Rattle.std.proofs.Common.{◌≡◌, ◌∙◌, ◌++◌, ◌∷◌, [], length, ℕ, List, slice_set, refl, ap}
use Rattle.tuple_header.specs.declared.version.Row.{Row}
use Rattle.table_scans.proofs.taking.add_row.Goals as goal

set_behind : (rows : List Row) (a b : Row) → slice_set (rows ++ a ∷ []) (length rows) b ≡ rows ++ b ∷ []
set_behind [] a b = refl
set_behind (row ∷ rows) a b = ap (λ rest. row ∷ rest) (set_behind rows a b)

-- a list with one more row, which becomes another
set_last : (rows more : List Row) (place : ℕ) (a b : Row) → more ≡ rows ++ a ∷ [] → place ≡ length rows → slice_set more place b ≡ rows ++ b ∷ []
set_last rows more place a b is last =
    ap (λ i. slice_set more i b) last ∙ ap (λ (now : List Row). slice_set now (length rows) b) is ∙ set_behind rows a b

pub returns : goal.returns
returns c =
    set_last c.try_reserve.new.self.items c.push_reserved.new.self.items (length c.as_slice-place.result.now) _ c.copy_to.new.row c.push_reserved.ensures.items (ap length c.as_slice-place.ensures.value)
    ∙ (rw (c.try_reserve.ensures.items, c.copy_to.ensures) refl)
