use Rattle.std.proofs.Common.{◌≡◌, ◌∙◌, ◌<◌, false, true, sym, ap, arith}
use Rattle.plain_history.specs.Plain.{Plain, session_in, world_of}
use Rattle.plain_history.proofs.Sessions.{nobody_wrote, someone_says}
use Rattle.plain_history.proofs.MakingLemmas.{is_there}
use Rattle.plain_history.proofs.plain.PlainHistory.check_make.Goals as goal
use Rattle.plain_history.proofs.plain.PlainHistory.check_make.Goals.{else-not-has_index-via-then-not-has_index+else-has_any_written, else-not-has_index-via-else-not-has_index}

pub returns-then-has_any_written-clause-err : goal.returns-then-has_any_written-clause-err
returns-then-has_any_written-clause-err c =
    let small : c.args.column < 4 = omega (arith, c.if-column-gt3.false) in
    let there = is_there c.args.self.now.indexed c.args.column c.has_index.result c.has_index.ensures in
    let says = someone_says (world_of c.args.self.now) c.deref.result.now c.has_any_written.result (ap session_in c.deref.ensures.value ∙ ap (λ (p : Plain). session_in p.sessions) c.self.view_is) c.has_any_written.ensures in
    ((small, sym there ∙ c.if-not-has_index.true), says.0 c.if-has_any_written.true)

pub returns-else-not-has_index-clause-ok : goal.returns-else-not-has_index-clause-ok
returns-else-not-has_index-clause-ok c =
    let small : c.args.column < 4 = omega (arith, c.if-column-gt3.false) in
    let there = is_there c.args.self.now.indexed c.args.column c.has_index.result c.has_index.ensures in (
      small,
      λ lacks. elim c.else-not-has_index.branch [
        | else-not-has_index-via-then-not-has_index+else-has_any_written w ↦ nobody_wrote (world_of c.args.self.now) w.has_any_written.result
            (someone_says (world_of c.args.self.now) w.deref.result.now w.has_any_written.result (ap session_in w.deref.ensures.value ∙ ap (λ (p : Plain). session_in p.sessions) c.self.view_is) w.has_any_written.ensures).1
            w.if-has_any_written.false
        | else-not-has_index-via-else-not-has_index w ↦ (let had : c.has_index.result ≡ true = w.if-not-has_index.false in let never : false ≡ true = sym lacks ∙ (sym there ∙ had) in absurd (cc))
      ],
    )
