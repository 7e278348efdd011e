use Rattle.svg_text.proofs.Joining.{behind}
use Rattle.svg_text.specs.Svg.{id_ring}
use Rattle.svg_text.proofs.ids.id_ring.Goals as goal

pub returns : goal.returns
unfolding id_ring
returns c =
    behind c.extend-2.result c.args.out.now.items _ _ _ _ c.in_ok-id_number.ensures (
    behind c.extend-2.result c.id_number.new.out.items _ _ _ _ c.in_ok-extend.ensures.added (
    behind c.extend-2.result c.extend.new.out.items _ _ _ _ c.in_ok-status.ensures (
    behind c.extend-2.result c.status.new.out.items _ _ _ _ c.in_ok-owner.ensures (
    behind c.extend-2.result c.owner.new.out.items _ _ _ _ c.in_ok-short_number.ensures (
    behind c.extend-2.result c.short_number.new.out.items _ _ _ _ c.in_ok-short_number-2.ensures (
    behind c.extend-2.result c.short_number-2.new.out.items _ _ _ _ c.in_ok-ring.ensures (
    behind c.extend-2.result c.ring.new.out.items _ _ _ _ c.in_ok-cross.ensures c.extend-2.ensures.added)))))))
