use Rattle.std.proofs.Common.{◌≡◌, ◌+◌, ◌<◌, ◌≤◌, ℕ, length, Option, None, Some, arith, sym, ◌∙◌, subst}
use Rattle.std.proofs.lemmas.Bool.{iff_false}
use Rattle.visibility.specs.Reading.{IsSeenBy}
use Rattle.hot_chain.specs.Chain.{has_aborted}
use Rattle.hot_chain.proofs.SeenWalks.{Unseen, has-chain, unseen-first, unseen-more, unseen-end, seen-now, headless-end, all-unseen}
use Rattle.hot_chain.proofs.fetching.first_seen.Goals as goal

pub loop-init : goal.loop-init
loop-init c = λ chain is.
    subst (Unseen (IsSeenBy c.args.reader.now) c.args.page.now.slots chain 0) (sym c.first-at.ensures.value)
    (unseen-first (IsSeenBy c.args.reader.now) (has_aborted c.args.reader.now.statuses.now) c.args.page.now.slots c.args.number chain is)

pub returns-in_default : goal.returns-in_default
returns-in_default c =
    let seen = IsSeenBy c.args.reader.now in
    let slots = c.args.page.now.slots in
    let few : length slots ≤ 291 = omega (arith, c.slots-count.ensures.count, c.slots-count.ensures.limit) in
    let chain = has-chain (has_aborted c.args.reader.now.statuses.now) slots c.args.number few in
    let w = subst (Unseen seen slots chain.0 c.loop.counter) c.in_default.is (c.loop.invariant chain.0 chain.1) in
    (chain.0, chain.1, unseen-end seen slots chain.0 c.loop.counter w)

pub returns-in_default-header : goal.returns-in_default-header
returns-in_default-header c =
    let seen = IsSeenBy c.args.reader.now in
    let slots = c.args.page.now.slots in
    let aborted = has_aborted c.args.reader.now.statuses.now in
    let few : length slots ≤ 291 = omega (arith, c.slots-count.ensures.count, c.slots-count.ensures.limit) in
    let chain = has-chain aborted slots c.args.number few in
    let w = subst (Unseen seen slots chain.0 c.loop.counter) c.in-Some.is (c.loop.invariant chain.0 chain.1) in
    (chain.0, chain.1, headless-end seen slots chain.0 c.loop.counter c.in-Some.slot w aborted c.args.number chain.1 (sym c.header.ensures.value ∙ c.in_default-header.is))

pub returns-then-sees : goal.returns-then-sees
returns-then-sees c =
    let seen = IsSeenBy c.args.reader.now in
    let slots = c.args.page.now.slots in
    let few : length slots ≤ 291 = omega (arith, c.slots-count.ensures.count, c.slots-count.ensures.limit) in
    let chain = has-chain (has_aborted c.args.reader.now.statuses.now) slots c.args.number few in
    let w = subst (Unseen seen slots chain.0 c.loop.counter) c.in-Some.is (c.loop.invariant chain.0 chain.1) in
    (chain.0, chain.1, seen-now seen slots chain.0 c.loop.counter c.in-Some.slot w c.in-Some-header.header (sym c.header.ensures.value ∙ c.in-Some-header.is) (c.sees.ensures.0 c.if-sees.true))

pub loop-preserved : goal.loop-preserved
loop-preserved c = λ chain is.
    let seen = IsSeenBy c.args.reader.now in
    let slots = c.args.page.now.slots in
    let aborted = has_aborted c.args.reader.now.statuses.now in
    let w = subst (Unseen seen slots chain c.loop.counter) c.in-Some.is (c.loop.invariant chain is) in
    subst (Unseen seen slots chain (c.loop.counter + 1)) (sym c.successor-at.ensures.value)
    (unseen-more seen slots chain c.loop.counter c.in-Some.slot w aborted c.args.number c.in-Some-header.header is (sym c.header.ensures.value ∙ c.in-Some-header.is)
    (iff_false c.sees.ensures c.if-sees.false))

pub returns : goal.returns
returns c =
    let seen = IsSeenBy c.args.reader.now in
    let slots = c.args.page.now.slots in
    let few : length slots ≤ 291 = omega (arith, c.slots-count.ensures.count, c.slots-count.ensures.limit) in
    let chain = has-chain (has_aborted c.args.reader.now.statuses.now) slots c.args.number few in
    let short = chain.2 in
    (chain.0, chain.1, all-unseen seen slots chain.0 c.loop.counter c.loop.at (omega (arith, short, c.loop-test.false)) (c.loop.invariant chain.0 chain.1))
