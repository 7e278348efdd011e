-- The shapes so far at their spots, one more, and all.
use Rattle.std.proofs.Common.{◌≡◌, ℕ, zero, suc, ◌+◌, ◌≤◌, List, [], ◌∷◌, ◌++◌, length, take, Some, refl, sym, ap, ◌∙◌, append_assoc, add-one, arith, slice_get}
use Rattle.std.specs.Prelude.{zip}
use Rattle.std.proofs.lemmas.List.{append-nil}
use Rattle.std.proofs.lemmas.Option.{same_Some, none-some}
use Rattle.shape_list.specs.declared.shape.Shape.{Shape}
use Rattle.picture_layout.specs.declared.layout.Layout.{Layout}
use Rattle.picture_layout.specs.declared.layout.Spot.{Spot}
use Rattle.svg_text.specs.Svg.{shape_svg, shapes_svg}

more : (layout : Layout) (spots : List Spot) (shapes : List Shape) (i : ℕ) (spot : Spot) (shape : Shape) → slice_get spots i ≡ Some spot → slice_get shapes i ≡ Some shape
    → shapes_svg layout (take (suc i) (zip spots shapes)) ≡ shapes_svg layout (take i (zip spots shapes)) ++ shape_svg layout spot shape
more layout [] shapes i spot shape a b = absurd (none-some spot a)
more layout (s ∷ spots) [] i spot shape a b = absurd (none-some shape b)
more layout (s ∷ spots) (h ∷ shapes) zero spot shape a b =
    append-nil (shape_svg layout s h) ∙ ap (λ x. shape_svg layout x h) (same_Some s spot a) ∙ ap (λ x. shape_svg layout spot x) (same_Some h shape b)
more layout (s ∷ spots) (h ∷ shapes) (suc i) spot shape a b =
    ap (λ x. shape_svg layout s h ++ x) (more layout spots shapes i spot shape a b) ∙ sym (append_assoc (shape_svg layout s h) (shapes_svg layout (take i (zip spots shapes))) (shape_svg layout spot shape))

-- one more shape at its spot
pub zip-more : (layout : Layout) (spots : List Spot) (shapes : List Shape) (i : ℕ) (spot : Spot) (shape : Shape) (a b c : List ℕ) → slice_get spots i ≡ Some spot
    → slice_get shapes i ≡ Some shape → b ≡ a ++ shapes_svg layout (take i (zip spots shapes)) → c ≡ b ++ shape_svg layout spot shape
    → c ≡ a ++ shapes_svg layout (take (i + 1) (zip spots shapes))
zip-more layout spots shapes i spot shape a b c at there so_far one =
    one ∙ ap (λ (x : List ℕ). x ++ shape_svg layout spot shape) so_far ∙ append_assoc a (shapes_svg layout (take i (zip spots shapes))) (shape_svg layout spot shape)
    ∙ ap (λ (x : List ℕ). a ++ x) (sym (rw add-one (more layout spots shapes i spot shape at there)))

all : (spots : List Spot) (shapes : List Shape) (i : ℕ) → length shapes ≤ i → take i (zip spots shapes) ≡ zip spots shapes
all [] shapes zero h = refl
all [] shapes (suc i) h = refl
all (s ∷ spots) [] zero h = refl
all (s ∷ spots) [] (suc i) h = refl
all (s ∷ spots) (x ∷ shapes) zero h = absurd (omega arith)
all (s ∷ spots) (x ∷ shapes) (suc i) h = ap (λ (xs : List (Spot × Shape)). (s, x) ∷ xs) (all spots shapes i (omega arith))

-- no shape is left
pub zip-all : (layout : Layout) (spots : List Spot) (shapes : List Shape) (i : ℕ) (a b : List ℕ) → length shapes ≤ i → b ≡ a ++ shapes_svg layout (take i (zip spots shapes))
    → b ≡ a ++ shapes_svg layout (zip spots shapes)
zip-all layout spots shapes i a b past so_far = so_far ∙ ap (λ (xs : List (Spot × Shape)). a ++ shapes_svg layout xs) (all spots shapes i past)
