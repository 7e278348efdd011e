use Rattle.session_core.proofs.DirectLemmas.{get-follows}
use Rattle.session_core.proofs.engine.Engine.get.Goals as goal

pub returns : goal.returns
returns c =
    let e = c.disturb.ensures in
    let l = c.look_up_into.ensures in
    let f = get-follows c.args.self.now (record { engine = record { core = c.self.inside.core; vacuum = c.self.inside.vacuum }; waits = c.self.inside.waits }) c.disturb.new.self c.self.view_is e.core e.vacuum e.waits
    c.args.s c.args.key l.found c.end.new.self l.does l.refused c.end.ensures in
    record { found = l.found; follows = f.0; exact = f.1; answers = l.answers; placed = l.placed }
