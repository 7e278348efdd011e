use Rattle.std.proofs.Common.{◌+◌, ◌∙◌, List, subst}
use Rattle.history.specs.History.{Transaction, IsLate}
use Rattle.keyed_history.proofs.LatestLemmas.{last_late, never_late}
use Rattle.keyed_history.proofs.keyed.KeyedHistory.last_writer.Goals as goal

pub returns-in-Some : goal.returns-in-Some
returns-in-Some c = subst (λ (h : List Transaction). IsLate h c.in-Some.n c.args.key × (¬ IsLate h (c.in-Some.n + 1) c.args.key)) c.self.view_is
    (last_late c.self.inside.spots.places c.self.inside.transactions.items c.args.key c.len.result c.in-Some.n c.in-Some.field-0-1 (c.len.ensures ∙ c.self.inside.transactions.ok.0) c.self.invariant c.in-Some.ensures)

pub returns-in-None : goal.returns-in-None
returns-in-None c = subst (λ (h : List Transaction). ¬ IsLate h 0 c.args.key) c.self.view_is
    (never_late c.self.inside.spots.places c.self.inside.transactions.items c.args.key c.len.result (c.len.ensures ∙ c.self.inside.transactions.ok.0) c.self.invariant c.in-None.ensures)
