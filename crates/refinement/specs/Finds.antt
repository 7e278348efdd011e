-- What the tests of a step look for among the versions, and how a step follows the history.
use Rattle.std.specs.Prelude.{◌≡◌, ◌≢◌, ℕ, false, Option, Some, None}
use Rattle.xid_circle.specs.declared.Tid.{Tid}
use Rattle.tuple_header.specs.declared.version.Row.{Row}
use Rattle.tuple_header.specs.Version.{Version}
use Rattle.history.specs.World.{World}
use Rattle.calls.specs.declared.step.Step.{Step}
use Rattle.calls.specs.declared.reply.Reply.{Reply}
use Rattle.refinement.specs.Allowed.{Allows, next}
use Rattle.refinement.specs.Heap.{SeenSession, Heap, StatementSees}
use Rattle.visibility.specs.Seeing.{IsOtherWriter}
use Rattle.refinement.specs.Visible.{ReaderSees, HasMissed, At, SomeVersion}
use Rattle.refinement.specs.Agrees.{HeapAgrees}

-- the reader finds this row of the key, or none
abbrev pub FindsOfKey : (Tid → Option Version) → (Version → Type 0) → ℕ → Option Row → Type 0
FindsOfKey store seen k None = (p : Tid) (v : Version) → At store p v → seen v → v.row.key ≢ k
FindsOfKey store seen k (Some row) = SomeVersion store k (λ v. seen v × (row ≡ v.row))

-- what keeps the session from writing the key: a commit that it does not see, or an id of another session
abbrev pub IsLateFor : Heap → SeenSession → ℕ → Type 0
IsLateFor h e k = SomeVersion h.version k (HasMissed h.status (StatementSees h e.isolation))

abbrev pub IsHeldBy : Heap → SeenSession → ℕ → ℕ → Type 0
IsHeldBy h e k x = SomeVersion h.version k (λ v. IsOtherWriter h.status e.own x v.header)

-- the session is open, has not failed and has no cursor, and it finds this row of the key, or none
pub record BeginsWrite (h : Heap) (s : ℕ) (e : SeenSession) (k : ℕ) (found : Option Row) : Type 0 where
  pub at : h.session s ≡ Some e
  pub sound : e.failed ≡ false
  pub bare : e.cursor ≡ None
  pub finds : FindsOfKey h.version (ReaderSees h.status (StatementSees h e.isolation) e.own) k found

-- nor does anything keep it from writing the key
pub record Free (h : Heap) (s : ℕ) (e : SeenSession) (k : ℕ) (found : Option Row) : Type 0 where
  pub begins : BeginsWrite h s e k found
  pub timely : ¬ IsLateFor h e k
  pub unheld : (x : ℕ) → ¬ IsHeldBy h e k x

-- whatever world the engine agreed with, the history allows the reply, and the engine agrees with the next world
abbrev pub HeapFollows : Heap → Step → Reply → Heap → Type 0
HeapFollows old step reply new = (w : World) → HeapAgrees old w → Allows w step reply × HeapAgrees new (next w step reply)
