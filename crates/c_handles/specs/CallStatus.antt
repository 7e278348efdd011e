-- What a call answers, and the number that C has for it.
use Rattle.std.specs.Prelude.{◌≡◌, ℕ, ◌+◌, Bool, true, false, nat_le, Some, None, Result, Ok, Err}
use Rattle.calls.specs.declared.reply.Reply.{Reply}
use Rattle.calls.specs.declared.reply.Reply.TheVariants as reply
use Rattle.calls.specs.declared.reply.Refusal.{Refusal}
use Rattle.calls.specs.declared.reply.Refusal.TheVariants as refusal
use Rattle.calls.specs.declared.settings.SettingsFault.{SettingsFault}
use Rattle.calls.specs.declared.settings.SettingsFault.TheVariants as fault
use Rattle.c_handles.specs.declared.status.CallStatus.{CallStatus}
use Rattle.c_handles.specs.declared.status.CallStatus.TheVariants as status

-- The status of a reply: all that it says but its rows or keys, and what a vacuum did. Keys have the status of rows, since one call
-- hands out both.
abbrev pub status_of_reply : Reply → CallStatus
status_of_reply reply.Done = status.Done
status_of_reply (reply.Found (Some row)) = status.Found
status_of_reply (reply.Found None) = status.NoRow
status_of_reply reply.Committed = status.Committed
status_of_reply reply.RolledBack = status.RolledBack
status_of_reply (reply.Rows rows) = status.Rows
status_of_reply (reply.Keys keys) = status.Rows
status_of_reply reply.End = status.End
status_of_reply (reply.Worked piece) = status.Worked
status_of_reply (reply.Ended oldest) = status.Ended
status_of_reply (reply.Refused r) = status.Refused r

-- of an answer that says whether there is a row
abbrev pub status_of_found : Result Bool Refusal → CallStatus
status_of_found (Ok true) = status.Found
status_of_found (Ok false) = status.NoRow
status_of_found (Err r) = status.Refused r

-- the status of a fault of the settings; that memory was refused is one status, whatever it was for
abbrev pub status_of_fault : SettingsFault → CallStatus
status_of_fault fault.MaxPages = status.BadMaxPages
status_of_fault fault.StopAge = status.BadStopAge
status_of_fault fault.FreezeMinAge = status.BadFreezeMinAge
status_of_fault fault.FirstXid = status.BadFirstXid
status_of_fault fault.DeadLimit = status.BadDeadLimit
status_of_fault fault.NoMemory = status.Refused refusal.NoMemory

abbrev pub number_of_refusal : Refusal → ℕ
number_of_refusal refusal.NotOpen = 16
number_of_refusal refusal.AlreadyOpen = 17
number_of_refusal refusal.Failed = 18
number_of_refusal refusal.AlreadyThere = 19
number_of_refusal refusal.NotThere = 20
number_of_refusal refusal.Conflict = 21
number_of_refusal refusal.CursorOpen = 22
number_of_refusal refusal.NoCursor = 23
number_of_refusal refusal.TooDeep = 24
number_of_refusal refusal.NoSavepoint = 25
number_of_refusal refusal.TooLarge = 26
number_of_refusal refusal.NoRoom = 27
number_of_refusal refusal.NeedsFreeze = 28
number_of_refusal refusal.BadBounds = 29
number_of_refusal refusal.NoMemory = 30
number_of_refusal refusal.NoSuchPage = 31
number_of_refusal refusal.NoSuchIndex = 32
number_of_refusal refusal.NoSuchSession = 33
number_of_refusal refusal.VacuumRunning = 34
number_of_refusal refusal.NoVacuum = 35
number_of_refusal refusal.IndexTooNew = 36
number_of_refusal refusal.IndexBusy = 37
number_of_refusal refusal.Deadlock = 38
number_of_refusal refusal.Stale = 39
-- the other session is in the lower byte
number_of_refusal (refusal.Busy session) = 256 + session

abbrev pub number_of_status : CallStatus → ℕ
number_of_status status.Done = 0
number_of_status status.Found = 1
number_of_status status.NoRow = 2
number_of_status status.Committed = 3
number_of_status status.RolledBack = 4
number_of_status status.Rows = 5
number_of_status status.End = 6
number_of_status status.Worked = 7
number_of_status status.Ended = 8
number_of_status (status.Refused r) = number_of_refusal r
number_of_status status.NoEngine = 48
number_of_status status.HasEngine = 49
number_of_status status.NoPlace = 50
number_of_status status.NoTicket = 51
number_of_status status.HasTicket = 52
number_of_status status.TooManyPages = 53
number_of_status status.BadMaxPages = 64
number_of_status status.BadStopAge = 65
number_of_status status.BadFreezeMinAge = 66
number_of_status status.BadFirstXid = 67
number_of_status status.BadDeadLimit = 68

-- no two statuses have one number
abbrev pub NumbersDiffer : Type 0
NumbersDiffer = (a b : CallStatus) → number_of_status a ≡ number_of_status b → a ≡ b

-- something was asked for and not done
abbrev pub is_refusal : CallStatus → Bool
is_refusal status.Done = false
is_refusal status.Found = false
is_refusal status.NoRow = false
is_refusal status.Committed = false
is_refusal status.RolledBack = false
is_refusal status.Rows = false
is_refusal status.End = false
is_refusal status.Worked = false
is_refusal status.Ended = false
is_refusal s = true

-- that is so exactly where the number is 16 or more
abbrev pub RefusalsAreHigh : Type 0
RefusalsAreHigh = (s : CallStatus) → is_refusal s ≡ nat_le 16 (number_of_status s)
