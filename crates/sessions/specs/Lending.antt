-- The places of the sessions, as they are lent.
use Rattle.std.specs.Prelude.{ℕ, List, Option, Some, slice_set}
use Rattle.std.specs.Borrow.{Lends, MutBor, Fml}
use Rattle.std.specs.contracts.option.Option as option
use Rattle.sessions.specs.declared.session.Session.{Session}
use Rattle.sessions.specs.contracts.session.Session as session
use Rattle.sessions.specs.contracts.sessions.Sessions.{the_row}

-- one place alone is changed
abbrev pub LendsPlace : MutBor (List (Option Session)) → ℕ → MutBor (Option Session) → Fml
LendsPlace p s r = Lends the_row (option.the_row session.the_row) p r (slice_set p.now s)

-- one open session alone is changed
abbrev pub LendsOpen : MutBor (List (Option Session)) → ℕ → MutBor Session → Fml
LendsOpen p s r = Lends the_row session.the_row p r (λ e. slice_set p.now s (Some e))
