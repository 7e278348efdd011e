use Rattle.svg_text.proofs.Joining.{behind}
use Rattle.svg_text.proofs.dots.dot.Goals as goal

pub returns : goal.returns
returns c =
    behind c.extend-6.result c.args.out.now.items _ _ _ _ c.in_ok-extend.ensures.added (
    behind c.extend-6.result c.extend.new.out.items _ _ _ _ c.in_ok-tell_verdict.ensures (
    behind c.extend-6.result c.tell_verdict.new.out.items _ _ _ _ c.in_ok-short_number.ensures (
    behind c.extend-6.result c.short_number.new.out.items _ _ _ _ c.in_ok-short_number-2.ensures (
    behind c.extend-6.result c.short_number-2.new.out.items _ _ _ _ c.in_ok-extend-2.ensures.added (
    behind c.extend-6.result c.extend-2.new.out.items _ _ _ _ c.in_ok-colour.ensures (
    behind c.extend-6.result c.colour.new.out.items _ _ _ _ c.in_ok-extend-3.ensures.added (
    behind c.extend-6.result c.extend-3.new.out.items _ _ _ _ c.in_ok-fill.ensures (
    behind c.extend-6.result c.fill.new.out.items _ _ _ _ c.in_ok-extend-4.ensures.added (
    behind c.extend-6.result c.extend-4.new.out.items _ _ _ _ c.in_ok-text_at.ensures (
    behind c.extend-6.result c.text_at.new.out.items _ _ _ _ c.in_ok-extend-5.ensures.added (
    behind c.extend-6.result c.extend-5.new.out.items _ _ _ _ c.in_ok-ink.ensures (
    behind c.extend-6.result c.ink.new.out.items _ _ _ _ c.in_ok-byte_number.ensures c.extend-6.ensures.added))))))))))))
