-- What a call does to what the handle has.
use Rattle.std.specs.Prelude.{◌≡◌, ◌⊎◌, ℕ, ◌<◌, Option, Some, None}
use Rattle.tuple_header.specs.declared.row_place.RowPlace.{RowPlace}
use Rattle.tuple_header.specs.declared.version.Row.{Row}
use Rattle.tuple_header.specs.declared.version.TheConstants.{MOST_BODY}
use Rattle.tuple_header.specs.Places.{place_with}
use Rattle.calls.specs.declared.settings.Settings.{Settings}
use Rattle.calls.specs.declared.settings.SettingsFault.{SettingsFault}
use Rattle.calls.specs.declared.step.Step.{Step}
use Rattle.calls.specs.declared.step.Step.TheVariants as step
use Rattle.calls.specs.declared.reply.Reply.{Reply}
use Rattle.calls.specs.declared.reply.Reply.TheVariants as reply
use Rattle.calls.specs.declared.reply.Refusal.TheVariants as refusal
use Rattle.calls.specs.Words.{RowToWrite, FirstFault}
use Rattle.session_core.specs.Clauses.{WaitingFollows, WaitingExact, IsNewWaiting}
use Rattle.c_handles.specs.declared.database.Sandpiper.{Sandpiper}
use Rattle.c_handles.specs.declared.held.Held.{Held}
use Rattle.c_views.specs.declared.settings.SandpiperSettings.{SandpiperSettings}
use Rattle.c_views.specs.Settings.{settings_of}
use Rattle.sandpiper_c.specs.declared.writes.WriteKind.{WriteKind}
use Rattle.sandpiper_c.specs.declared.writes.WriteKind.TheVariants.{Insert, Update}
use Rattle.c_handles.specs.declared.status.CallStatus.TheVariants as status
use Rattle.c_handles.specs.CallStatus.{number_of_status, status_of_reply, status_of_fault}
use Rattle.sandpiper_c.specs.Rows.{IsText}

-- the engine that C's handle has, if it has one
abbrev pub held_by : Sandpiper → Option Held
held_by table = table.handle.held

-- a new engine of these settings, which has answered nothing yet, or the first fault
abbrev pub OpensHeld : Settings → Option Held → ℕ → Option Held → Type 0
OpensHeld asked (Some held) code new = (code ≡ number_of_status status.HasEngine) × (new ≡ Some held)
OpensHeld asked None code (Some held) = (code ≡ number_of_status status.Done) × IsNewWaiting asked held.engine × (held.reply ≡ reply.Done)
OpensHeld asked None code None = (fault : SettingsFault) × FirstFault asked fault × (code ≡ number_of_status (status_of_fault fault))

abbrev pub OpensTable : SandpiperSettings → Sandpiper → ℕ → Sandpiper → Type 0
OpensTable asked old code new = OpensHeld (settings_of asked) (held_by old) code (held_by new)

-- the engine is gone
abbrev pub ClosesHeld : Option Held → ℕ → Option Held → Type 0
ClosesHeld None code new = (code ≡ number_of_status status.NoEngine) × (new ≡ None)
ClosesHeld (Some old) code new = (code ≡ number_of_status status.Done) × (new ≡ None)

abbrev pub ClosesTable : Sandpiper → ℕ → Sandpiper → Type 0
ClosesTable old code new = ClosesHeld (held_by old) code (held_by new)

-- the engine did the step with this reply, as its own contract says, and the status is the reply's number
pub record TakesStep (old : Held) (step : Step) (reply : Reply) (code : ℕ) (new : Held) : Type 0 where
  pub follows : WaitingFollows old.engine step reply new.engine
  pub exact : WaitingExact old.engine step reply new.engine
  pub status : code ≡ number_of_status (status_of_reply reply)

abbrev pub DoesWithReply : Held → Step → ℕ → Held → Type 0
DoesWithReply old step code new = (reply : Reply) × TakesStep old step reply code new

-- and C's place shows what the reply says
abbrev pub TakesShowing : Held → Step → ℕ → Held → (Option Reply → Type 0) → Type 0
TakesShowing old step code new shows = (reply : Reply) × TakesStep old step reply code new × shows (Some reply)

abbrev pub DoesHeld : Option Held → Step → ℕ → Option Held → Type 0
DoesHeld None step code new = (code ≡ number_of_status status.NoEngine) × (new ≡ None)
DoesHeld (Some old) step code new = (held : Held) × (new ≡ Some held) × DoesWithReply old step code held

-- the engine did the step, or there is none and the status says so
abbrev pub Does : Sandpiper → Step → ℕ → Sandpiper → Type 0
Does old step code new = DoesHeld (held_by old) step code (held_by new)

-- the same, and C's place shows what the reply says, or nothing where there is none
abbrev pub ShowsHeld : Option Held → Step → ℕ → Option Held → (Option Reply → Type 0) → Type 0
ShowsHeld None step code new shows = (code ≡ number_of_status status.NoEngine) × (new ≡ None) × shows None
ShowsHeld (Some old) step code new shows = (held : Held) × (new ≡ Some held) × TakesShowing old step code held shows

-- the step of a session that writes a row
abbrev pub write_of : WriteKind → ℕ → RowToWrite → Step
write_of Insert session text = step.Insert session text
write_of Update session text = step.Update session text

-- the same of a step with a row, unless memory for a body of over 1024 bytes was refused, and nothing done
abbrev pub Writes : Sandpiper → (RowToWrite → Step) → RowPlace → ℕ → Sandpiper → Type 0
Writes old step row code new = ((text : RowToWrite) × IsText row text × Does old (step text) code new)
    ⊎ ((MOST_BODY < row.length) × (code ≡ number_of_status (status.Refused refusal.NoMemory)) × (held_by new ≡ held_by old))

-- what the handle has is as it was
abbrev pub StaysAsIs : Sandpiper → Sandpiper → Type 0
StaysAsIs old new = held_by new ≡ held_by old

-- the status says whether it has an engine
abbrev pub TellsWhetherHeld : Option Held → ℕ → Type 0
TellsWhetherHeld None code = code ≡ number_of_status status.NoEngine
TellsWhetherHeld (Some held) code = code ≡ number_of_status status.Done

abbrev pub TellsWhetherOpen : Sandpiper → ℕ → Type 0
TellsWhetherOpen table code = TellsWhetherHeld (held_by table) code

-- the row of a reply, if there is one and it has one
abbrev pub row_found_in : Option Reply → Option Row
row_found_in (Some (reply.Found row)) = row
row_found_in answer = None

-- the row is written to C's place, if there is one
abbrev pub ShowsRow : Option Row → RowPlace → RowPlace → Type 0
ShowsRow None old new = new ≡ old
ShowsRow (Some row) old new = new ≡ place_with row old

-- the row of the key is looked for, and written to C's place
abbrev pub Gets : Sandpiper → (session key : ℕ) → RowPlace → (code : ℕ) → RowPlace → Sandpiper → Type 0
Gets old session key place code after new = ShowsHeld (held_by old) (step.Get session key) code (held_by new) (λ reply. ShowsRow (row_found_in reply) place after)
