use Rattle.svg_text.proofs.Joining.{behind}
use Rattle.svg_text.proofs.open_sessions.page.Goals as goal

pub returns : goal.returns
returns c =
    behind c.extend-2.result c.args.out.now.items _ _ _ _ c.in_ok-text_at.ensures (
    behind c.extend-2.result c.text_at.new.out.items _ _ _ _ c.in_ok-short_number.ensures (
    behind c.extend-2.result c.short_number.new.out.items _ _ _ _ c.in_ok-number.ensures (
    behind c.extend-2.result c.number.new.out.items _ _ _ _ c.in_ok-number-2.ensures (
    behind c.extend-2.result c.number-2.new.out.items _ _ _ _ c.in_ok-extend.ensures.added (
    behind c.extend-2.result c.extend.new.out.items _ _ _ _ c.in_ok-note.ensures c.extend-2.ensures.added)))))
