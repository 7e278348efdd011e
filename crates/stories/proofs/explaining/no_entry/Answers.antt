use Rattle.svg_text.proofs.Joining.{behind}
use Rattle.stories.proofs.explaining.no_entry.Goals as goal

pub returns : goal.returns
returns c = behind c.extend.result c.args.out.now.items _ _ _ _ c.in_ok-number.ensures c.extend.ensures.added
