-- What the shell speaks of in the engine: which replies the history allows to which steps, and what the engine holds.
pub use Rattle.history.specs.World.{World, beginning}
pub use Rattle.calls.specs.Words.{FirstFault}
pub use Rattle.refinement.specs.Allowed.{after_reply, IsRun, after}
pub use Rattle.session_steps.specs.State.{engine_index, bits_of}
pub use Rattle.space_maps.specs.View.{mark_on}
pub use Rattle.session_core.specs.State.{WaitingView, WaitingAgrees}
pub use Rattle.session_core.specs.Clauses.{WaitingFollows, WaitingExact, IsNewWaiting}
pub use Rattle.session_core.specs.Runs.{RepliesLead}
pub use Rattle.commit_status.specs.Window.{next_id}
pub use Rattle.calls.specs.declared.settings.SettingsFault.{SettingsFault}
pub use Rattle.calls.specs.declared.settings.SettingsFault.TheVariants.{MaxPages, StopAge, FreezeMinAge, FirstXid, DeadLimit, NoMemory as NoMemoryForSettings}
