use Rattle.std.proofs.Common.{suc}
use Rattle.sessions.proofs.Marked.{still-places}
use Rattle.sessions.proofs.sessions.Sessions.mark.Goals as goal

pub invariant_of-self : goal.invariant_of-self
invariant_of-self c = still-places (suc c.args.column) c.self.inside.used c.self.inside.places.items c.mark_all.new.places.items c.mark_all.ensures c.self.invariant
