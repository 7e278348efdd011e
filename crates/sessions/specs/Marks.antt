-- Each open session notes that an index by a column is made now.
use Rattle.std.specs.Prelude.{◌≡◌, ℕ, ◌==◌, if◌then◌else◌, List, length, Option, Some, None}
use Rattle.sessions.specs.declared.session.Session.{Session}
use Rattle.sessions.specs.Session.{reads_by_snapshot, is_too_new}
use Rattle.sessions.specs.Places.{open_at}

-- by snapshot a session may not scan the index of this number, and by statement it may; nothing else of it changes
pub record MarksSession (number : ℕ) (e e' : Session) : Type 0 where
  pub is : e' ≡ record e { too_new = e'.too_new }
  pub marks : (n : ℕ) → is_too_new e' n ≡ (if n == number then reads_by_snapshot e.isolation else is_too_new e n)

-- so it is of a place where a session is open
abbrev pub MarksPlace : (number : ℕ) → Option Session → Option Session → Type 0
MarksPlace number None after = after ≡ None
MarksPlace number (Some e) None = ⊥
MarksPlace number (Some e) (Some e') = MarksSession number e e'

-- and of all
pub record MarksAll (number : ℕ) (before after : List (Option Session)) : Type 0 where
  pub count : length after ≡ length before
  pub each : (s : ℕ) → MarksPlace number (open_at before s) (open_at after s)
