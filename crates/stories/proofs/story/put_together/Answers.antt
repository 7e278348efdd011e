use Rattle.svg_text.proofs.Joining.{behind}
use Rattle.stories.specs.Outcomes.{page_html}
use Rattle.stories.proofs.story.put_together.Goals as goal

pub returns : goal.returns
unfolding page_html
returns c =
    behind c.extend-5.result c.args.page.now.items _ _ _ _ c.in_ok-extend.ensures.added (
    behind c.extend-5.result c.extend.new.out.items _ _ _ _ c.in_ok-extend-2.ensures.added (
    behind c.extend-5.result c.extend-2.new.out.items _ _ _ _ c.in_ok-extend-3.ensures.added (
    behind c.extend-5.result c.extend-3.new.out.items _ _ _ _ c.in_ok-extend-4.ensures.added c.extend-5.ensures.added)))
