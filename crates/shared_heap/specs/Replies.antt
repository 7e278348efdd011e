-- When a reply is the copy of another, and when there is room for one.
use Rattle.std.specs.Prelude.{ℕ, ◌≡◌, ◌≤◌, Bool, true, false, length}
use Rattle.history.specs.World.{World}
use Rattle.calls.specs.declared.step.Step.{Step}
use Rattle.calls.specs.declared.reply.Reply.{Reply}
use Rattle.calls.specs.declared.reply.Reply.TheVariants as reply
use Rattle.calls.specs.declared.reply.Refusal.TheVariants as refusal
use Rattle.session_core.specs.State.{WaitingView, WaitingAgrees}
use Rattle.session_core.specs.Clauses.{WaitingExact, WaitingFollows}

-- the same reply: a list of rows or keys by what it holds, wherever that is
abbrev pub IsSame : Reply → Reply → Type 0
IsSame (reply.Rows rows) (reply.Rows others) = others.items ≡ rows.items
IsSame (reply.Keys keys) (reply.Keys others) = others.items ≡ keys.items
IsSame reply other = other ≡ reply

-- there is room for the reply's rows, or its keys
abbrev pub ListFits : Reply → ℕ → Type 0
ListFits (reply.Rows rows) room = length rows.items ≤ room
ListFits (reply.Keys keys) room = length keys.items ≤ room
ListFits reply room = Unit {0}

-- there is room for any reply that this engine may give to the step
abbrev pub HasRoomFor : WaitingView → Step → ℕ → Type 0
HasRoomFor old step room = (w : World) (new : WaitingView) (reply : Reply) → WaitingAgrees old w
    → WaitingFollows old step reply new → WaitingExact old step reply new → ListFits reply room

abbrev pub is_busy_reply : Reply → Bool
is_busy_reply (reply.Refused (refusal.Busy o)) = true
is_busy_reply reply = false
