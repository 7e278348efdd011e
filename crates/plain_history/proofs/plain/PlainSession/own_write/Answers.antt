use Rattle.std.proofs.Common.{◌∙◌, sym, ap}
use Rattle.history.specs.History.{written}
use Rattle.history.specs.World.{joined}
use Rattle.history.proofs.HistoryLemmas.{written-append}
use Rattle.plain_history.proofs.Lists.{said_first, said_after}
use Rattle.plain_history.proofs.plain.PlainSession.own_write.Goals as goal

pub returns-in-Some-clause-value : goal.returns-in-Some-clause-value
returns-in-Some-clause-value c =
    said_first c.last_write.result (written c.args.self.now.newest c.args.key) (written (joined c.args.self.now.older.items) c.args.key) c.in-Some.said c.in-Some.is c.last_write.ensures.value
    ∙ sym (written-append (joined c.args.self.now.older.items) c.args.self.now.newest c.args.key)

pub returns-in-None-clause-value : goal.returns-in-None-clause-value
returns-in-None-clause-value c =
    sym (written-append (joined c.args.self.now.older.items) c.args.self.now.newest c.args.key
    ∙ (said_after c.last_write.result (written c.args.self.now.newest c.args.key) (written (joined c.args.self.now.older.items) c.args.key) c.in-None.is c.last_write.ensures.value
    ∙ sym (c.written_in.ensures.value ∙ ap (λ levels. written (joined levels) c.args.key) c.deref.ensures.value)))
