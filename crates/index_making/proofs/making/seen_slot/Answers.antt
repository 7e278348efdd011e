use Rattle.std.proofs.Common.{sym, ◌∙◌}
use Rattle.std.proofs.lemmas.Bool.{true≢false}
use Rattle.visibility.specs.Reading.{IsSeenBy}
use Rattle.hot_chain.specs.Chain.{has_aborted}
use Rattle.index_making.proofs.CurrentLemmas.{alone-seen, alone-unseen}
use Rattle.index_making.proofs.making.seen_slot.Goals as goal

pub returns-then-sees : goal.returns-then-sees
returns-then-sees c =
    alone-seen (has_aborted c.args.reader.now.statuses.now) (IsSeenBy c.args.reader.now) c.args.page.now.slots c.args.root c.in-Some.header
    (sym c.header.ensures.value ∙ c.in-Some.is) (sym c.is_hot_updated.ensures ∙ c.if-not-is_hot_updated.true) (c.sees.ensures.0 c.if-sees.true)

pub returns-else-sees : goal.returns-else-sees
returns-else-sees c =
    alone-unseen (has_aborted c.args.reader.now.statuses.now) (IsSeenBy c.args.reader.now) c.args.page.now.slots c.args.root c.in-Some.header
    (sym c.header.ensures.value ∙ c.in-Some.is) (sym c.is_hot_updated.ensures ∙ c.if-not-is_hot_updated.true)
    (λ seen. true≢false (sym (c.sees.ensures.1 seen) ∙ c.if-sees.false))
