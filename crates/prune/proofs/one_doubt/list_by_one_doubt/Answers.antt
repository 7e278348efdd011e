use Rattle.std.proofs.Common.{ℕ, replicate}
use Rattle.prune.proofs.OnlyDoubt.{one-doubt}
use Rattle.prune.proofs.one_doubt.list_by_one_doubt.Goals as goal

pub returns-in-Some-clause-known : goal.returns-in-Some-clause-known
returns-in-Some-clause-known c =
    one-doubt c.args.statuses.now c.args.page.now.slots c.in-Some.only (replicate {A = ℕ} 7 0) c.with_doubt.result c.in-Some.ensures c.with_doubt.ensures
