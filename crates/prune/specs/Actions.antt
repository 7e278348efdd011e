-- What a plan does to a page.
use Rattle.std.specs.Prelude.{ℕ, zero, suc, ◌<◌, ◌≤◌, ◌==◌, Bool, List, [], ◌∷◌, Option, Some, None, if◌then◌else◌}
use Rattle.page_sheet.specs.declared.slot.Slot.{Slot}
use Rattle.page_sheet.specs.declared.slot.Slot.TheVariants.{Unused, Redirect, Dead}
use Rattle.page_sheet.specs.Slots.{is_unused, is_dead, redirects_to, the_slot, next_change}
use Rattle.page_slots.specs.View.{PageView, with_bare_slot}
use Rattle.prune_actions.specs.declared.Action.{Action}
use Rattle.prune_actions.specs.declared.Action.TheVariants as action

-- what a slot becomes
abbrev pub made_by : Action → Slot
made_by action.Unuse = Unused
made_by action.Kill = Dead
made_by (action.Redirect k) = Redirect k

-- whether it is that already
abbrev pub is_done : Action → Slot → Bool
is_done action.Unuse slot = is_unused slot
is_done action.Kill slot = is_dead slot
is_done (action.Redirect k) slot = redirects_to k slot

-- what a slot is after an action, if there is one
abbrev pub acted : Option Slot → Option Action → Option Slot
acted old None = old
acted old (Some a) = Some (made_by a)

-- a page after one action: the slot named is what it makes of it, and the change number is raised where that is new
abbrev pub after_action : PageView → ℕ → Action → PageView
after_action page n a = with_bare_slot page n (made_by a) (is_done a (the_slot page.slots n))

-- and after these, one after another
abbrev pub applied : List (ℕ × Action) → PageView → PageView
applied [] page = page
applied (a ∷ rest) page = applied rest (after_action page a.0 a.1)

-- What can be done on a page of so many slots: the slot is there, and so is a redirect's target.

abbrev pub HasTarget : ℕ → Action → Type 0
HasTarget count action.Unuse = Unit {0}
HasTarget count action.Kill = Unit {0}
HasTarget count (action.Redirect k) = (1 ≤ k) × (k ≤ count)

pub record CanDo (count number : ℕ) (a : Action) : Type 0 where
  pub there : 1 ≤ number
  pub within : number ≤ count
  pub target : HasTarget count a

abbrev pub CanApply : ℕ → List (ℕ × Action) → Type 0
CanApply count [] = Unit {0}
CanApply count (a ∷ rest) = CanDo count a.0 a.1 × CanApply count rest

-- the slots named are strictly ascending, from over `low` up to `count`
abbrev pub AreInOrder : ℕ → ℕ → List (ℕ × Action) → Type 0
AreInOrder count low [] = Unit {0}
AreInOrder count low (a ∷ rest) = (low < a.0) × (a.0 ≤ count) × AreInOrder count a.0 rest

-- what a plan does to a slot, if it names it
abbrev pub action_of : List (ℕ × Action) → ℕ → Option Action
action_of [] n = None
action_of (a ∷ rest) n = if a.0 == n then Some a.1 else action_of rest n

-- a change number raised so many times
abbrev pub raised : ℕ → ℕ → ℕ
raised zero change = change
raised (suc count) change = raised count (next_change change)
