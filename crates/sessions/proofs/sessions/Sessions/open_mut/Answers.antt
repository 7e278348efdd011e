use Rattle.sessions.proofs.PlaceLemmas.{place-within}
use Rattle.sessions.proofs.sessions.Sessions.open_mut.Goals as goal

pub place_mut-requires : goal.place_mut-requires
place_mut-requires c = place-within c.args.self.now c.args.s c.requires
