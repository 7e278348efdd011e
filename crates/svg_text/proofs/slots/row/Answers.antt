use Rattle.svg_text.proofs.Joining.{behind}
use Rattle.svg_text.specs.Svg.{row_svg}
use Rattle.svg_text.proofs.slots.row.Goals as goal

pub returns : goal.returns
unfolding row_svg
returns c =
    behind c.extend-3.result c.args.out.now.items _ _ _ _ c.in_ok-word_at.ensures (
    behind c.extend-3.result c.word_at.new.out.items _ _ _ _ c.in_ok-number.ensures (
    behind c.extend-3.result c.number.new.out.items _ _ _ _ c.in_ok-extend.ensures.added (
    behind c.extend-3.result c.extend.new.out.items _ _ _ _ c.in_ok-word_at-2.ensures (
    behind c.extend-3.result c.word_at-2.new.out.items _ _ _ _ c.in_ok-columns_of.ensures (
    behind c.extend-3.result c.columns_of.new.out.items _ _ _ _ c.in_ok-extend-2.ensures.added (
    behind c.extend-3.result c.extend-2.new.out.items _ _ _ _ c.in_ok-word_at-3.ensures (
    behind c.extend-3.result c.word_at-3.new.out.items _ _ _ _ c.in_ok-body.ensures c.extend-3.ensures.added)))))))
