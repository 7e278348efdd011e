use Rattle.svg_text.proofs.Joining.{behind}
use Rattle.svg_text.proofs.ids.horizon.Goals as goal

pub returns : goal.returns
returns c =
    behind c.extend-2.result c.args.out.now.items _ _ _ _ c.in_ok-short_number.ensures (
    behind c.extend-2.result c.short_number.new.out.items _ _ _ _ c.in_ok-short_number-2.ensures (
    behind c.extend-2.result c.short_number-2.new.out.items _ _ _ _ c.in_ok-extend.ensures.added (
    behind c.extend-2.result c.extend.new.out.items _ _ _ _ c.in_ok-text_at.ensures (
    behind c.extend-2.result c.text_at.new.out.items _ _ _ _ c.in_ok-id_number.ensures (
    behind c.extend-2.result c.id_number.new.out.items _ _ _ _ c.in_ok-holder.ensures c.extend-2.ensures.added)))))
