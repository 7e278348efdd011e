-- Runs of the engine.
use Rattle.std.specs.Prelude.{List, [], ◌∷◌, ◌++◌, ◌≡◌, ◌<◌, length}
use Rattle.history.specs.World.{beginning}
use Rattle.calls.specs.declared.settings.Settings.{Settings}
use Rattle.calls.specs.declared.settings.SettingsFault.TheVariants as setting
use Rattle.calls.specs.declared.step.Step.{Step}
use Rattle.calls.specs.declared.reply.Reply.{Reply}
use Rattle.calls.specs.Words.{AreSettings, FirstFault}
use Rattle.calls.specs.Writes.{HasBody}
use Rattle.refinement.specs.Allowed.{after}
use Rattle.session_core.specs.declared.runs.RunFault.{RunFault}
use Rattle.session_core.specs.declared.runs.RunFault.TheVariants as fault
use Rattle.session_core.specs.State.{WaitingView, WaitingAgrees}
use Rattle.session_core.specs.Clauses.{WaitingFollows, WaitingExact, IsNewWaiting}

-- the engine's states one after another: by each step and its reply it follows the history, and does what the history leaves
-- to it exactly
abbrev pub RepliesLead : WaitingView → List Step → List Reply → WaitingView → Type 0
RepliesLead old [] [] new = old ≡ new
RepliesLead old (step ∷ steps) (reply ∷ replies) new = (e : WaitingView)
    × WaitingFollows old step reply e × WaitingExact old step reply e × RepliesLead e steps replies new
RepliesLead old steps replies new = ⊥

-- a new engine of these settings did the steps, and gave these replies
pub record Ran (settings : Settings) (steps : List Step) (replies : List Reply) : Type 0 where
  pub first : WaitingView
  pub new : IsNewWaiting settings first
  pub last : WaitingView
  pub leads : RepliesLead first steps replies last
  pub agrees : WaitingAgrees last (after (beginning settings.indexed) steps replies)

-- What had to grow, where memory was refused when there was an engine. Either it is the list of the replies, before the first
-- step. Or it is the copy of a step with a body, when those before it were done.
pub data WantsMemory (old : WaitingView) (steps : List Step) (new : WaitingView) : Type 0 where
  for_replies : 0 < length steps → old ≡ new → WantsMemory old steps new
  for_copy : (done more : List Step) (step : Step) (replies : List Reply) → steps ≡ done ++ step ∷ more → RepliesLead old done replies new → HasBody step → WantsMemory old steps new

-- a setting is the first out of its range, or all are in theirs; then memory was refused, as no definition can say
abbrev pub FirstRunFault : Settings → RunFault → Type 0
FirstRunFault settings (fault.Settings f) = FirstFault settings f × (f ≡ setting.NoMemory → ⊥)
FirstRunFault settings fault.NoMemory = AreSettings settings
