-- Who holds the horizon back.
use Rattle.std.specs.Prelude.{◌≡◌, ◌<◌, ℕ, take, Option, Some, None, Contains}
use Rattle.xid_circle.specs.Numbers.{Id, SessionNo}
use Rattle.commit_status.specs.Window.{next_id}
use Rattle.sessions.specs.declared.session.Session.{Session}
use Rattle.session_looks.specs.declared.holder.Hold.{Hold}
use Rattle.session_looks.specs.declared.holder.Hold.TheVariants.{BySnapshot, ById}
use Rattle.session_looks.specs.declared.holder.HorizonHolder.{HorizonHolder}
use Rattle.session_steps.specs.State.{State, session_at, horizon_of}
use Rattle.sessions.specs.Session.{kept_by, kept_xmin, holds_back}

-- by what an open session holds an id back: by the snapshot that it keeps, or else by its first id
abbrev pub HoldsBy : Hold → Session → (x : Id) → Type 0
HoldsBy BySnapshot e x = Contains (kept_xmin (kept_by e.isolation)) x
HoldsBy ById e x = (¬ Contains (kept_xmin (kept_by e.isolation)) x) × Contains (take 1 e.own.ids) x

-- the session is open, and holds the horizon back
pub record HoldsHorizon (st : State) (s : SessionNo) (by : Hold) : Type 0 where
  pub session : Session
  pub there : session_at st s ≡ Some session
  pub holds : HoldsBy by session (horizon_of st)

-- if it is open, it does not
abbrev pub IsNoHolder : State → SessionNo → Type 0
IsNoHolder st s = (e : Session) → session_at st s ≡ Some e → ¬ Contains (holds_back e) (horizon_of st)

-- the lowest session that holds the horizon back; where none does, the horizon is the next id
abbrev pub IsHolder : State → Option HorizonHolder → Type 0
IsHolder st None = ((s : ℕ) → IsNoHolder st s) × (horizon_of st ≡ next_id st.heap.statuses)
IsHolder st (Some holder) = HoldsHorizon st holder.session holder.by × ((s : ℕ) → s < holder.session → IsNoHolder st s)

-- the session is open, and has the id
abbrev pub HasId : State → (x : Id) → SessionNo → Type 0
HasId st x s = (e : Session) × (session_at st s ≡ Some e) × Contains e.own.ids x
