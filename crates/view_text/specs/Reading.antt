-- What the reader of a look gives, step by step.
use Rattle.std.specs.Prelude.{ℕ, ◌-◌, ◌^◌, List, codes, Option, Some, None, if◌then◌else◌}
use Rattle.std.specs.Str.{bytes_eq}
use Rattle.script_text.specs.Reading.{◌>>=◌, cut, number_of, number_then}
use Rattle.view_text.specs.declared.look.Look.{Look}
use Rattle.view_text.specs.declared.look.Look.TheVariants.{Explain, Session, Horizon, Fate, Plan, Vacuum}

-- a session and a key
unfoldable pub explain_of : List ℕ → Option Look
explain_of xs = do
  s ← number_then 255 xs
  key ← number_of (2 ^ 64 - 1) s.1
  Some (Explain s.0 key)

-- a page and a slot
unfoldable pub fate_of : List ℕ → Option Look
fate_of xs = do
  p ← number_then 4294967295 xs
  n ← number_of 65535 p.1
  Some (Fate p.0 n)

unfoldable pub session_of : List ℕ → Option Look
session_of xs = number_of 255 xs >>= λ s. Some (Session s)

unfoldable pub plan_of : List ℕ → Option Look
plan_of xs = number_of 4294967295 xs >>= λ p. Some (Plan p)

-- what a word asks, with the words behind it
abbrev pub look_of : List ℕ → List ℕ → Option Look
look_of word rest = if bytes_eq word (codes "explain") then explain_of rest
    else if bytes_eq word (codes "session") then session_of rest
    else if bytes_eq word (codes "fate") then fate_of rest
    else if bytes_eq word (codes "plan") then plan_of rest
    else None

-- what a line asks
unfoldable pub look_at : List ℕ → Option Look
look_at line = if bytes_eq line (codes "horizon") then Some Horizon
    else if bytes_eq line (codes "vacuum") then Some Vacuum
    else (cut line >>= λ parts. look_of parts.0 parts.1)
