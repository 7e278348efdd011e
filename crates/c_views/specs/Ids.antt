-- What became of an id, and whose it is, as C reads it.
use Rattle.std.specs.Prelude.{◌≡◌, ℕ, true, false, Option, Some, None, MatchOption}
use Rattle.xid_circle.specs.Numbers.{Id, SessionNo}
use Rattle.commit_status.specs.declared.status.Status.{Status}
use Rattle.commit_status.specs.declared.status.Status.TheVariants.{InProgress, Committed, Aborted}
use Rattle.visibility.specs.Visible.{state_of}
use Rattle.session_steps.specs.State.{State}
use Rattle.session_looks.specs.Holders.{HasId}
use Rattle.c_views.specs.declared.id.SandpiperId.{SandpiperId}

abbrev pub number_of_id_status : Status → ℕ
number_of_id_status InProgress = 1
number_of_id_status Committed = 2
number_of_id_status Aborted = 3

abbrev pub number_of_state : Option Status → ℕ
number_of_state None = 0
number_of_state (Some status) = number_of_id_status status

abbrev pub shown_id : Option Status → Option ℕ → SandpiperId
shown_id state None = record { status = number_of_state state; is_owned = false; session = 0 }
shown_id state (Some owner) = record { status = number_of_state state; is_owned = true; session = owner }

-- no open session has the id, or this one does
abbrev pub IsOwner : State → Id → Option SessionNo → Type 0
IsOwner st x owner = MatchOption owner ((s : ℕ) → ¬ HasId st x s) (HasId st x)

pub record IsIdShown (st : State) (x : Id) (shown : SandpiperId) : Type 0 where
  pub owner : Option ℕ
  pub owns : IsOwner st x owner
  pub is_shown : shown ≡ shown_id (state_of st.heap.statuses x) owner
