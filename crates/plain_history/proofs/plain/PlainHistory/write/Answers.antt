use Rattle.std.proofs.Common.{ap, subst, List, ◌<◌, length, arith}
use Rattle.std.specs.Prelude.{OnOk}
use Rattle.history.specs.History.{Transaction}
use Rattle.plain_history.specs.Answers.{PlainBecomes}
use Rattle.std.proofs.lemmas.Result.{on_ok_weaker, on_err_weaker}
use Rattle.history.specs.Moves.{with_write}
use Rattle.plain_history.specs.Plain.{Plain}
use Rattle.plain_history.proofs.Worlds.{changes, stays_so}
use Rattle.plain_history.proofs.plain.PlainHistory.write.Goals as goal

pub returns-clause-ok : goal.returns-clause-ok
returns-clause-ok c =
    let p : Plain = record { history = c.self.inside.history; sessions = c.self.inside.sessions.items; waits = c.self.inside.waits.items; indexed = c.self.inside.indexed; too_new = c.self.inside.too_new.items; has_vacuum = c.self.inside.vacuuming } in
    let within : c.args.s < length c.self.inside.waits.items = omega arith in
    let within' : c.args.s < length c.self.inside.sessions.items = omega arith in
    on_ok_weaker c.write.result (changes p c.args.self.now c.args.s c.index_mut-2.result.now c.write.new.session (with_write c.args.self.now.history c.args.key c.args.row) c.self.view_is within' within c.index_mut-2.ensures.value)
    (subst (λ (h : List Transaction). OnOk c.write.result (PlainBecomes c.index_mut-2.result.now c.write.new.session (with_write h c.args.key c.args.row)))
    (ap (λ (q : Plain). q.history) c.self.view_is) c.write.ensures.ok)

pub returns-clause-err : goal.returns-clause-err
returns-clause-err c =
    let p : Plain = record { history = c.self.inside.history; sessions = c.self.inside.sessions.items; waits = c.self.inside.waits.items; indexed = c.self.inside.indexed; too_new = c.self.inside.too_new.items; has_vacuum = c.self.inside.vacuuming } in
    let within : c.args.s < length c.self.inside.waits.items = omega arith in
    let within' : c.args.s < length c.self.inside.sessions.items = omega arith in
    on_err_weaker c.write.result (stays_so p c.args.self.now c.args.s c.index_mut-2.result.now c.write.new.session c.self.view_is within' within c.index_mut-2.ensures.value) c.write.ensures.err
