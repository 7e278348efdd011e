-- What a text says that was added to others.
use Rattle.std.proofs.Common.{ℕ, ◌+◌, List, ◌++◌, refl, codes}
use Rattle.std.specs.Prelude.{zip}
use Rattle.session_core.specs.State.{WaitingView}
use Rattle.shape_list.specs.declared.shape.Shape.{Shape}
use Rattle.shapes.specs.Shapes.{IsPicture}
use Rattle.svg_text.specs.Svg.{Draws, svg_head, shapes_svg}
use Rattle.shapes.specs.Pictures.{AddsText, IsPictureText}

pub picture-added : (e : WaitingView) (pages : List ℕ) (shapes : List Shape) (old new : List ℕ) → IsPicture e pages shapes → Draws shapes old new → AddsText (IsPictureText e pages) old new
picture-added e pages shapes old new is d = record {
  text = svg_head d.layout ++ (shapes_svg d.layout (zip d.spots shapes) ++ codes "</svg>");
  is = (shapes, is, record { layout = d.layout; spots = d.spots; each = d.each; behind = refl });
  behind = d.behind;
}
