use Rattle.std.proofs.Common.{List, take, subst}
use Rattle.history.specs.History.{Write}
use Rattle.keyed_history.specs.Places.{HaveNoted, HaveForgotten}
use Rattle.keyed_history.proofs.NotingLemmas.{undone}
use Rattle.keyed_history.proofs.noting.note_transaction.Goals as goal

pub returns-in-Err-clause-err : goal.returns-in-Err-clause-err
returns-in-Err-clause-err c =
    let noted = c.in-Err.ensures.err in
    undone c.args.spots.now.places c.note_all.new.spots.places c.forget_all.new.spots.places c.args.n c.args.transaction.now noted.0 c.requires
    (subst (λ (ws : List Write). HaveNoted c.args.spots.now.places c.note_all.new.spots.places c.args.n (take noted.0 ws)) c.writes.ensures noted.1)
    (subst (λ (ws : List Write). HaveForgotten c.note_all.new.spots.places c.forget_all.new.spots.places c.args.n ws) c.writes-in-Err.ensures c.forget_all.ensures)
