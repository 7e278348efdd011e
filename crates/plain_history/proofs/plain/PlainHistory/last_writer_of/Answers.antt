use Rattle.std.proofs.Common.{List, ◌+◌, ap, subst}
use Rattle.std.specs.Prelude.{MatchOption}
use Rattle.history.specs.History.{Transaction, IsLate}
use Rattle.plain_history.specs.Plain.{Plain}
use Rattle.plain_history.proofs.plain.PlainHistory.last_writer_of.Goals as goal

pub returns : goal.returns
returns c = subst (λ (h : List Transaction). MatchOption c.last_writer.result (¬ IsLate h 0 c.args.key) (λ n. IsLate h n c.args.key × (¬ IsLate h (n + 1) c.args.key)))
    (ap (λ (p : Plain). p.history) c.self.view_is) c.last_writer.ensures
