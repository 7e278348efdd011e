use Rattle.svg_text.proofs.Joining.{behind}
use Rattle.svg_text.proofs.open_sessions.session.Goals as goal

pub returns : goal.returns
returns c =
    behind c.extend-4.result c.args.out.now.items _ _ _ _ c.in_ok-short_number.ensures (
    behind c.extend-4.result c.short_number.new.out.items _ _ _ _ c.in_ok-short_number-2.ensures (
    behind c.extend-4.result c.short_number-2.new.out.items _ _ _ _ c.in_ok-extend.ensures.added (
    behind c.extend-4.result c.extend.new.out.items _ _ _ _ c.in_ok-colour.ensures (
    behind c.extend-4.result c.colour.new.out.items _ _ _ _ c.in_ok-extend-2.ensures.added (
    behind c.extend-4.result c.extend-2.new.out.items _ _ _ _ c.in_ok-text_at.ensures (
    behind c.extend-4.result c.text_at.new.out.items _ _ _ _ c.in_ok-byte_number.ensures (
    behind c.extend-4.result c.byte_number.new.out.items _ _ _ _ c.in_ok-extend-3.ensures.added (
    behind c.extend-4.result c.extend-3.new.out.items _ _ _ _ c.in_ok-reads.ensures (
    behind c.extend-4.result c.reads.new.out.items _ _ _ _ c.in_ok-failure.ensures (
    behind c.extend-4.result c.failure.new.out.items _ _ _ _ c.in_ok-waits.ensures c.extend-4.ensures.added))))))))))
