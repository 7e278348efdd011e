use Rattle.svg_text.proofs.Joining.{behind}
use Rattle.svg_text.proofs.picture.head.Goals as goal

pub returns : goal.returns
returns c =
    behind c.extend.result c.args.out.now.items _ _ _ _ c.in_ok-short_number.ensures (
    behind c.extend.result c.short_number.new.out.items _ _ _ _ c.in_ok-short_number-2.ensures (
    behind c.extend.result c.short_number-2.new.out.items _ _ _ _ c.in_ok-short_number-3.ensures (
    behind c.extend.result c.short_number-3.new.out.items _ _ _ _ c.in_ok-short_number-4.ensures c.extend.ensures.added)))
