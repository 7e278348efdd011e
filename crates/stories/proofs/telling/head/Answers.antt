use Rattle.svg_text.proofs.Joining.{behind}
use Rattle.stories.proofs.telling.head.Goals as goal

pub returns : goal.returns
returns c =
    behind c.extend-2.result c.args.told.now.items _ _ _ _ c.in_ok-extend.ensures.added (
    behind c.extend-2.result c.extend.new.out.items _ _ _ _ c.in_ok-escape.ensures c.extend-2.ensures.added)
