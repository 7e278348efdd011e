use Rattle.std.proofs.Common.{◌≡◌, ◌∙◌, ◌+◌, ◌-◌, ◌≤◌, ℕ, suc, drop, take, Some, slice_get, sym, ap, arith}
use Rattle.session_steps.specs.State.{State}
use Rattle.page_views.specs.View.{pages_behind, numbered}
use Rattle.page_views.proofs.Numbering.{numbered-more}
use Rattle.session_core.proofs.views.share_pages.Goals as goal

pub loop-number-preserved : goal.loop-number-preserved
loop-number-preserved c =
    let pages = c.args.core.now.heap.pages.pages in
    let from = c.args.from in
    let number = c.loop-number.number in
    let kept = c.loop-number.invariant in
    let page = c.in_ok-page.page in
    let at : slice_get pages number ≡ Some page.value.value = ap (λ (st : State). slice_get st.heap.pages.pages number) (sym kept.0) ∙ c.in_ok-page.ensures.shared in
    let there : number ≡ from + (number - from) = omega (arith, kept.1) in
    let more : suc (number - from) ≡ number + 1 - from = omega (arith, kept.1) in
    let after : from ≤ number + 1 = omega (arith, kept.1) in
    let within : number + 1 ≤ c.args.to = omega (arith, c.loop-number-test.true) in (
      c.share.ensures.same ∙ kept.0,
      after,
      within,
      ap pages_behind c.in_ok-push.ensures.items
          ∙ numbered-more from (number - from) number pages c.loop-number.pages.items page there at kept.3
          ∙ ap (λ (k : ℕ). numbered from (take k (drop from pages))) more,
    )
