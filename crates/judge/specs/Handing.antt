-- What may be answered to one who asks for rows.
use Rattle.std.specs.Prelude.{◌≡◌, ℕ, ◌<◌, List, Option, Some, slice_get}
use Rattle.tuple_header.specs.declared.version.Row.{Row}
use Rattle.history.specs.World.{Cursor}
use Rattle.history.specs.Cursors.{AreOf, IsOver, HandsOutPart, HandsOutKeys}
use Rattle.calls.specs.declared.reply.Reply.{Reply}
use Rattle.calls.specs.declared.reply.Reply.TheVariants as reply
use Rattle.calls.specs.declared.reply.Refusal.TheVariants as refusal

-- by the cursor, when the next n are asked for
abbrev pub MayHand : Cursor → ℕ → Reply → Type 0
MayHand c n (reply.Rows rows) = HandsOutPart c.order n c.rest rows.items
MayHand c n (reply.Keys keys) = HandsOutKeys c.order n c.rest keys.items
MayHand c n reply.End = IsOver c.rest
MayHand c n (reply.Refused refusal.NoMemory) = ¬ IsOver c.rest
MayHand c n reply = ⊥

-- of a page, to a session that reads these rows
abbrev pub MayShow : (ℕ → Option Row) → Reply → Type 0
MayShow row (reply.Rows rows) = AreOf row rows.items
MayShow row (reply.Refused refusal.NoSuchPage) = Unit {0}
MayShow row (reply.Refused refusal.NoMemory) = Unit {0}
MayShow row reply = ⊥

-- each is the row of its key
abbrev pub AreTheirs : (ℕ → Option Row) → List Row → Type 0
AreTheirs row rows = (i : ℕ) (r : Row) → slice_get rows i ≡ Some r → row r.key ≡ Some r

-- no two of them have one key
abbrev pub HaveTheirOwnKeys : List Row → Type 0
HaveTheirOwnKeys rows = (i j : ℕ) (a b : Row) → slice_get rows i ≡ Some a → slice_get rows j ≡ Some b → a.key ≡ b.key → i ≡ j

-- a row before the one at this place has its key
abbrev pub StandsBefore : List Row → ℕ → Type 0
StandsBefore rows i = (j : ℕ) × (a b : Row) × (j < i) × (slice_get rows j ≡ Some a) × (slice_get rows i ≡ Some b) × (a.key ≡ b.key)
