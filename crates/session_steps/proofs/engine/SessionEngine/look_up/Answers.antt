use Rattle.std.proofs.Common.{rules}
use Rattle.session_steps.proofs.Reading.{Follows-get}
use Rattle.session_steps.proofs.SessionReader.{row-read}
use Rattle.session_steps.proofs.Follows.{Follows-unready_get}
use Rattle.session_steps.proofs.engine.SessionEngine.look_up.Goals as goal

pub returns-in-Ok : goal.returns-in-Ok
returns-in-Ok c = record {
  answers = record {
    follows = (
        let e = c.in-Ok.session.now in
        Follows-get c.args.self.now c.args.s e c.args.key c.find_row.result c.in-Ok.ensures.1 c.in-Ok.ensures.2
        (row-read _ c.args.self.now e c.reader.result c.self.view_is c.reader.ensures c.args.key c.find_row.result c.find_row.ensures));
    exact = search rules;
  };
  refused = search rules;
}

pub returns-in-Err : goal.returns-in-Err
returns-in-Err c = record {
  answers = record {
    follows = Follows-unready_get c.args.self.now c.args.s c.args.key c.in-Err.refusal c.in-Err.ensures;
    exact = search rules;
  };
  refused = c.in-Err.ensures;
}
