use Rattle.svg_text.proofs.Joining.{behind}
use Rattle.svg_text.proofs.ids.id.Goals as goal

pub returns : goal.returns
returns c =
    behind c.owner_below.result c.args.out.now.items _ _ _ _ c.in_ok-id_ring.ensures (
    behind c.owner_below.result c.id_ring.new.out.items _ _ _ _ c.in_ok-text_at.ensures (
    behind c.owner_below.result c.text_at.new.out.items _ _ _ _ c.in_ok-id_number.ensures (
    behind c.owner_below.result c.id_number.new.out.items _ _ _ _ c.in_ok-extend.ensures.added c.owner_below.ensures)))
