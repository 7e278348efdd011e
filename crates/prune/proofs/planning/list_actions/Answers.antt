use Rattle.std.proofs.Common.{◌≡◌, ℕ, ◌+◌, ◌≤◌, List, [], ◌∷◌, ◌++◌, length, get_or, arith, sym, ap, ◌∙◌, subst}
use Rattle.std.proofs.lemmas.List.{drop_all}
use Rattle.arrayvec.specs.ArrayVec.{ArrayVec}
use Rattle.prune_actions.specs.declared.Action.{Action}
use Rattle.prune.proofs.Listing.{listed-length}
use Rattle.prune.proofs.Planned.{IsListing, listing-skip, listing-push, listing-plan}
use Rattle.prune.proofs.planning.list_actions.Goals.{in-Some, in_default}
use Rattle.prune.proofs.Roots.{loose-everywhere}
use Rattle.prune.proofs.planning.list_actions.Goals as goal

pub mark_page-requires : goal.mark_page-requires
mark_page-requires c = record { blank = λ n. loose-everywhere 292 n; doubtful = c.requires.doubtful }

pub push-requires : goal.push-requires
push-requires c =
    let count : ℕ = length c.args.page.now.slots in
    let few : count ≤ 291 = omega (arith, c.slots-limit.ensures.count, c.slots-limit.ensures.limit) in
    let listed : length c.loop-number.actions.items ≤ count = listed-length count _ c.loop-number.actions.items _ c.loop-number.invariant.listed in
    (omega arith, omega arith)

pub loop-number-preserved : goal.loop-number-preserved
loop-number-preserved c =
    let slots = c.args.page.now.slots in
    let w = c.args.statuses.now in
    let few : length slots ≤ 291 = omega (arith, c.slots-limit.ensures.count, c.slots-limit.ensures.limit) in
    let marks = c.mark_page.new.marks in
    let i : ℕ = c.loop-number.number-index in
    let acts = c.loop-number.actions.items in
    elim c.match-action_at.branch [
      | in-Some b ↦
          let a : Action = b.in-Some.action in
          let items : c.match-action_at.actions.items ≡ acts ++ (get_or c.args.doubtful.now i 0, a) ∷ [] =
          ap (λ (v : ArrayVec (ℕ × Action)). v.items) b.actions-is ∙ b.push.ensures.items in
          subst (λ (l : List (ℕ × Action)). IsListing w c.args.horizon.0 slots c.args.doubtful.now marks l (i + 1)) (sym items)
          (listing-push w c.args.horizon.0 slots c.args.doubtful.now marks acts i a few c.mark_page.ensures c.loop-number.invariant c.loop-number-test.true
          (sym b.in-Some.is ∙ c.action_at.ensures))
      | in_default b ↦
          let items : c.match-action_at.actions.items ≡ acts = ap (λ (v : ArrayVec (ℕ × Action)). v.items) b.actions-is in
          subst (λ (l : List (ℕ × Action)). IsListing w c.args.horizon.0 slots c.args.doubtful.now marks l (i + 1)) (sym items)
          (listing-skip w c.args.horizon.0 slots c.args.doubtful.now marks acts i c.mark_page.ensures c.loop-number.invariant c.loop-number-test.true
          (sym b.in_default.is ∙ c.action_at.ensures))
    ]

pub returns-clause-exact : goal.returns-clause-exact
returns-clause-exact c =
    let few : length c.args.page.now.slots ≤ 291 = omega (arith, c.slots-limit.ensures.count, c.slots-limit.ensures.limit) in
    let past : length c.args.doubtful.now ≤ c.loop-number.number-index = omega (arith, c.loop-number-test.false) in
    listing-plan c.args.statuses.now c.args.horizon.0 c.args.page.now.slots c.args.doubtful.now c.mark_page.new.marks c.loop-number.actions.items c.loop-number.number-index
    few c.mark_page.ensures c.loop-number.invariant (drop_all c.loop-number.number-index c.args.doubtful.now past)
