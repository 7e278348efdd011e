-- What is told is the answer to a look.
use Rattle.std.proofs.Common.{◌≡◌, ℕ, List, ◌++◌, Option, Some, None, Result, Ok, Err, OnOk, refl, sym, subst, inl, inr}
use Rattle.std.specs.Option.{option_map}
use Rattle.std.specs.List.Sorted.{IsPermutation, IsNonDecreasingBy}
use Rattle.xid_circle.specs.Circle.{distance_of}
use Rattle.snapshot.specs.Snap.{Snap}
use Rattle.script_text.specs.Grammar.{with_feed}
use Rattle.script_text.specs.Answers.{reply_text}
use Rattle.calls.specs.declared.reply.Refusal.{Refusal}
use Rattle.calls.specs.declared.reply.Reply.TheVariants as reply
use Rattle.session_steps.specs.State.{session_at}
use Rattle.sessions.specs.Session.{kept_by}
use Rattle.sessions.specs.declared.session.Session.{Session}
use Rattle.session_core.specs.State.{WaitingView, wait_at}
use Rattle.view_text.specs.declared.look.Look.{Look}
use Rattle.view_text.specs.declared.look.Look.TheVariants as look
use Rattle.view_text.specs.Answers.{session_text}
use Rattle.viewing.specs.Showing.{Answers, AreListed}
use Rattle.viewing.specs.Steps.{ShowsLook}

pub on_told : {E : Type 0} (r : Result (Unit {0}) E) (st : WaitingView) (asked : Look) (answer old new : List ℕ) → Answers st asked answer
    → OnOk r (new ≡ old ++ with_feed answer) → OnOk r (ShowsLook st asked old new)
on_told (Ok u) st asked answer old new is added = (answer, is, added)
on_told (Err e) st asked answer old new is added = tt

-- the session's lines, with for whom it waits
pub session_told : (st : WaitingView) (s : ℕ) (e : Session) (listed : List ℕ) (waits : Option ℕ) → session_at st.engine.core s ≡ Some e → AreListed (kept_by e.isolation) listed
    → waits ≡ wait_at st s → Answers st (look.Session s) (session_text s e listed waits)
session_told st s e listed waits here order is =
    inr (e, listed, here, order, subst (λ (w : Option ℕ). session_text s e listed waits ≡ session_text s e listed w) is refl)

-- the ids of the snapshot that is kept
pub listed_some : (kept : Option Snap) (snap : Snap) (listed : List ℕ) (x : ℕ) → kept ≡ Some snap → x ≡ snap.xmin → IsPermutation snap.listed listed → IsNonDecreasingBy (distance_of x) listed
    → AreListed kept listed
listed_some kept snap listed x is at moved order =
    subst (λ (k : Option Snap). AreListed k listed) (sym is) (moved, subst (λ (n : ℕ). IsNonDecreasingBy (distance_of n) listed) at order)
