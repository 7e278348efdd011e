-- A new engine.
use Rattle.std.specs.Prelude.{◌≡◌, None}
use Rattle.history.specs.World.{beginning}
use Rattle.calls.specs.declared.settings.Settings.{Settings}
use Rattle.session_steps.specs.New.{IsNew}
use Rattle.vacuum_engine.specs.State.{EngineView}
use Rattle.vacuum_engine.specs.Agrees.{EngineAgrees}

-- an engine of these settings on which nothing was done, and no vacuum is running
pub record IsNewEngine (asked : Settings) (e : EngineView) : Type 0 where
  pub core : IsNew asked e.core
  pub vacuum : e.vacuum ≡ None
  pub agrees : EngineAgrees e (beginning asked.indexed)
