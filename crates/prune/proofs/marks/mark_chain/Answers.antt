use Rattle.std.proofs.Common.{length, ◌≤◌, refl, arith}
use Rattle.hot_chain.specs.Chain.{has_aborted}
use Rattle.prune.proofs.Numbers.{numbers-from_chain, numbers-take}
use Rattle.prune.proofs.Marking.{chain-marked}
use Rattle.prune.proofs.marks.mark_chain.Goals as goal

pub mark_all-requires : goal.mark_all-requires
mark_all-requires c =
    let few : length c.args.page.now.slots ≤ 291 = omega (arith, c.slots-limit.ensures.count, c.slots-limit.ensures.limit) in
    numbers-from_chain (has_aborted c.args.statuses.now) c.args.page.now.slots c.args.root c.args.chain.now c.requires.chain few

pub mark_all-requires-2 : goal.mark_all-requires-2
mark_all-requires-2 c =
    let few : length c.args.page.now.slots ≤ 291 = omega (arith, c.slots-limit.ensures.count, c.slots-limit.ensures.limit) in
    numbers-take c.args.chain.now c.cut_count-cut.result c.cut_count-cut.ensures.within
    (numbers-from_chain (has_aborted c.args.statuses.now) c.args.page.now.slots c.args.root c.args.chain.now c.requires.chain few)

pub returns : goal.returns
returns c = record {
  chain = c.args.chain.now;
  cut = c.cut_count-cut.result;
  is_chain = c.requires.chain;
  is_cut = c.cut_count-cut.ensures;
  each = rw (c.from.ensures, c.verdict_of.ensures, c.root_action.ensures) (chain-marked c.args.root c.args.chain.now c.cut_count-cut.result
      c.args.marks.now c.mark_all.new.marks c.mark_all-2.new.marks _ c.mark_all.ensures c.mark_all-2.ensures refl (omega (arith, c.mark_all-2.array_long, c.requires.number)));
}
