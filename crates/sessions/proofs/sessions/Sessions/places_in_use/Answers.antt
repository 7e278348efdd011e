use Rattle.std.proofs.Common.{List, Option, take, subst}
use Rattle.sessions.specs.declared.session.Session.{Session}
use Rattle.sessions.specs.Places.{HoldsOpen}
use Rattle.sessions.proofs.Idle.{Holds-used}
use Rattle.sessions.proofs.sessions.Sessions.places_in_use.Goals as goal

pub returns : goal.returns
returns c =
    let places = c.self.inside.places.items in
    let first = take c.self.inside.used places in
    rw c.deref.ensures.value (subst (λ (xs : List (Option Session)). HoldsOpen first xs) c.self.view_is (Holds-used c.self.inside.used places c.self.invariant.idle))
