use Rattle.svg_text.proofs.Joining.{behind}
use Rattle.svg_text.specs.Svg.{box_svg}
use Rattle.svg_text.proofs.slots.rectangle.Goals as goal

pub returns : goal.returns
unfolding box_svg
returns c =
    behind c.extend-3.result c.args.out.now.items _ _ _ _ c.in_ok-short_number.ensures (
    behind c.extend-3.result c.short_number.new.out.items _ _ _ _ c.in_ok-short_number-2.ensures (
    behind c.extend-3.result c.short_number-2.new.out.items _ _ _ _ c.in_ok-short_number-3.ensures (
    behind c.extend-3.result c.short_number-3.new.out.items _ _ _ _ c.in_ok-extend.ensures.added (
    behind c.extend-3.result c.extend.new.out.items _ _ _ _ c.in_ok-fill.ensures (
    behind c.extend-3.result c.fill.new.out.items _ _ _ _ c.in_ok-extend-2.ensures.added (
    behind c.extend-3.result c.extend-2.new.out.items _ _ _ _ c.in_ok-text_at.ensures (
    behind c.extend-3.result c.text_at.new.out.items _ _ _ _ c.in_ok-slot_number.ensures c.extend-3.ensures.added)))))))
