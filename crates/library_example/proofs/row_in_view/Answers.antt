use Rattle.std.proofs.Common.{◌≡◌, ℕ, Option, Some, None, IfSome}
use Rattle.tuple_header.specs.declared.version.Row.{Row}
use Rattle.history.specs.World.{World, OpenSession, view}
use Rattle.library_example.proofs.row_in_view.Goals as goal

-- a row that is the view's is one that the view has
of-view : (o : Option Row) (w : World) (s key : ℕ) (m : OpenSession) → w.session s ≡ Some m → o ≡ view w.history m key
    → IfSome o (λ row. (m : OpenSession) × (w.session s ≡ Some m) × (Some row ≡ view w.history m key))
of-view None w s key m at is = tt
of-view (Some row) w s key m at is = (m, at, is)

pub returns-in-Ok : goal.returns-in-Ok
returns-in-Ok c = λ w agrees.
    let seen = c.in-Ok.ensures w agrees in
    of-view c.in-Ok.row w c.args.session c.args.key seen.0 seen.1 seen.2
