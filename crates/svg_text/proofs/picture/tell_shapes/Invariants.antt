use Rattle.std.proofs.Common.{◌≡◌, ◌++◌, take}
use Rattle.std.specs.Prelude.{zip}
use Rattle.svg_text.specs.Svg.{shapes_svg}
use Rattle.svg_text.proofs.picture.tell_shapes.Given as goal

abbrev pub invariant-loop-i : goal.invariant-loop-i
invariant-loop-i l = l.out.items ≡ l.initial.out.items ++ shapes_svg l.layout (take l.i (zip l.spots l.shapes))
