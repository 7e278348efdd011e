use Rattle.svg_text.proofs.Joining.{behind}
use Rattle.svg_text.proofs.slots.redirect.Goals as goal

pub returns : goal.returns
returns c =
    behind c.extend.result c.args.out.now.items _ _ _ _ c.in_ok-word_at.ensures (
    behind c.extend.result c.word_at.new.out.items _ _ _ _ c.in_ok-slot_number.ensures c.extend.ensures.added)
