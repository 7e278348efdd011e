-- An engine with the journal of its calls.
use Rattle.std.specs.Prelude.{◌≡◌, ◌⊎◌, List, [], ◌∷◌, ◌++◌, map}
use Rattle.history.specs.World.{beginning}
use Rattle.calls.specs.declared.settings.Settings.{Settings}
use Rattle.calls.specs.declared.settings.SettingsFault.TheVariants as setting
use Rattle.calls.specs.declared.step.Step.{Step}
use Rattle.calls.specs.declared.reply.Reply.{Reply}
use Rattle.calls.specs.declared.reply.Reply.TheVariants as reply
use Rattle.calls.specs.declared.reply.Refusal.TheVariants as refusal
use Rattle.calls.specs.Words.{AreSettings, FirstFault}
use Rattle.refinement.specs.Allowed.{IsRun, after}
use Rattle.session_core.specs.declared.runs.RunFault.{RunFault}
use Rattle.session_core.specs.declared.runs.RunFault.TheVariants as fault
use Rattle.session_core.specs.Runs.{RepliesLead}
use Rattle.session_core.specs.State.{WaitingView, WaitingAgrees}
use Rattle.session_core.specs.Clauses.{WaitingExact, WaitingFollows, IsNewWaiting}
use Rattle.shared_heap.specs.Replies.{IsSame}

pub record BookView : Type 0 where
  pub engine : WaitingView
  -- each step with its reply, the oldest first
  pub journal : List (Step × Reply)

abbrev pub noted_steps : List (Step × Reply) → List Step
noted_steps entries = map (λ (e : Step × Reply). e.0) entries

abbrev pub noted_replies : List (Step × Reply) → List Reply
noted_replies entries = map (λ (e : Step × Reply). e.1) entries

-- a new engine of these settings did the steps of the journal, gave its replies, and is at their end
pub record IsBookOf (settings : Settings) (book : BookView) : Type 0 where
  pub first : WaitingView
  pub new : IsNewWaiting settings first
  pub leads : RepliesLead first (noted_steps book.journal) (noted_replies book.journal) book.engine

-- the journal is a run of the history from its beginning, and the engine agrees with the world at its end
pub record IsRunOf (settings : Settings) (book : BookView) : Type 0 where
  pub run : IsRun (beginning settings.indexed) (noted_steps book.journal) (noted_replies book.journal)
  pub agrees : WaitingAgrees book.engine
      (after (beginning settings.indexed) (noted_steps book.journal) (noted_replies book.journal))

-- what every book keeps: so it is for some settings
pub record IsBook (book : BookView) : Type 0 where
  pub settings : Settings
  pub made : IsBookOf settings book

abbrev pub HasRun : BookView → Type 0
HasRun book = (settings : Settings) × IsRunOf settings book

-- the engine was stepped once, and the step was noted with the reply that was answered
pub record Appends (old : BookView) (step : Step) (reply : Reply) (new : BookView) : Type 0 where
  pub noted : Reply
  pub same : IsSame noted reply
  pub journal : new.journal ≡ old.journal ++ (step, noted) ∷ []
  pub follows : WaitingFollows old.engine step noted new.engine
  pub exact : WaitingExact old.engine step noted new.engine

-- or it was not stepped, and memory was refused
abbrev pub Calls : BookView → Step → Reply → BookView → Type 0
Calls old step answer new = Appends old step answer new ⊎ ((answer ≡ reply.Refused refusal.NoMemory) × (new ≡ old))

-- a setting is the first out of its range, or all are in theirs and memory was refused
abbrev pub FirstThreadsFault : Settings → RunFault → Type 0
FirstThreadsFault settings (fault.Settings f) = FirstFault settings f × (f ≡ setting.NoMemory → ⊥)
FirstThreadsFault settings fault.NoMemory = AreSettings settings
