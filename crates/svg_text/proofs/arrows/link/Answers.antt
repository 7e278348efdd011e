use Rattle.svg_text.proofs.Joining.{behind}
use Rattle.svg_text.proofs.arrows.link.Goals as goal

pub returns : goal.returns
returns c =
    behind c.extend-4.result c.args.out.now.items _ _ _ _ c.in_ok-extend.ensures.added (
    behind c.extend-4.result c.extend.new.out.items _ _ _ _ c.in_ok-title.ensures (
    behind c.extend-4.result c.title.new.out.items _ _ _ _ c.in_ok-slot_number.ensures (
    behind c.extend-4.result c.slot_number.new.out.items _ _ _ _ c.in_ok-short_number.ensures (
    behind c.extend-4.result c.short_number.new.out.items _ _ _ _ c.in_ok-short_number-2.ensures (
    behind c.extend-4.result c.short_number-2.new.out.items _ _ _ _ c.in_ok-short_number-3.ensures (
    behind c.extend-4.result c.short_number-3.new.out.items _ _ _ _ c.in_ok-short_number-4.ensures (
    behind c.extend-4.result c.short_number-4.new.out.items _ _ _ _ c.in_ok-short_number-5.ensures (
    behind c.extend-4.result c.short_number-5.new.out.items _ _ _ _ c.in_ok-extend-2.ensures.added (
    behind c.extend-4.result c.extend-2.new.out.items _ _ _ _ c.in_ok-colour_of.ensures (
    behind c.extend-4.result c.colour_of.new.out.items _ _ _ _ c.in_ok-short_number-6.ensures (
    behind c.extend-4.result c.short_number-6.new.out.items _ _ _ _ c.in_ok-short_number-7.ensures (
    behind c.extend-4.result c.short_number-7.new.out.items _ _ _ _ c.in_ok-extend-3.ensures.added (
    behind c.extend-4.result c.extend-3.new.out.items _ _ _ _ c.in_ok-colour_of-2.ensures c.extend-4.ensures.added)))))))))))))
