use Rattle.svg_text.proofs.Joining.{behind}
use Rattle.stories.proofs.explaining.place.Goals as goal

pub returns : goal.returns
returns c =
    behind c.extend.result c.args.out.now.items _ _ _ _ c.in_ok-number.ensures (
    behind c.extend.result c.number.new.out.items _ _ _ _ c.in_ok-slot_number.ensures (
    behind c.extend.result c.slot_number.new.out.items _ _ _ _ c.in_ok-page_number.ensures c.extend.ensures.added))
