use Rattle.svg_text.proofs.Joining.{behind}
use Rattle.svg_text.proofs.ids.owner_number.Goals as goal

pub returns : goal.returns
returns c =
    behind c.extend.result c.args.out.now.items _ _ _ _ c.in_ok-text_at.ensures (
    behind c.extend.result c.text_at.new.out.items _ _ _ _ c.in_ok-byte_number.ensures c.extend.ensures.added)
