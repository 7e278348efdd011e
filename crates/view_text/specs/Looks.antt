-- The lines of looks. Each value has one spelling, as in scripts.
use Rattle.std.specs.Prelude.{◌≡◌, ℕ, ◌^◌, ◌<◌, ◌≤◌, List, ◌++◌, codes, length, Option, Some, None}
use Rattle.std.specs.Fmt.{decimal}
use Rattle.script_text.specs.Grammar.{spaced, key_words}
use Rattle.script_text.specs.declared.line.TheConstants.{MOST_LINE_BYTES}
use Rattle.view_text.specs.declared.look.Look.{Look}
use Rattle.view_text.specs.declared.look.Look.TheVariants.{Explain, Session, Horizon, Fate, Plan, Vacuum}

abbrev pub look_text : Look → List ℕ
look_text (Explain s key) = codes "explain" ++ spaced (key_words s key)
look_text (Session s) = codes "session" ++ spaced (decimal s)
look_text Horizon = codes "horizon"
look_text (Fate p n) = codes "fate" ++ spaced (key_words p n)
look_text (Plan p) = codes "plan" ++ spaced (decimal p)
look_text Vacuum = codes "vacuum"

-- a session's number has 8 bits, a key 64, a page's number 32 and a slot's 16
abbrev pub LookFits : Look → Type 0
LookFits (Explain s key) = (s < 2 ^ 8) × (key < 2 ^ 64)
LookFits (Session s) = s < 2 ^ 8
LookFits Horizon = Unit {0}
LookFits (Fate p n) = (p < 2 ^ 32) × (n < 2 ^ 16)
LookFits (Plan p) = p < 2 ^ 32
LookFits Vacuum = Unit {0}

-- what a text spells: this look, whose numbers are in range, or none
abbrev pub SpellsLook : List ℕ → Option Look → Type 0
SpellsLook text (Some look) = LookFits look × (text ≡ look_text look)
SpellsLook text None = (look : Look) → LookFits look → text ≡ look_text look → ⊥

-- what a line may ask: numbers in range, in at most 4096 bytes
pub record IsLookAllowed (look : Look) : Type 0 where
  pub fits : LookFits look
  pub short : length (look_text look) ≤ MOST_LINE_BYTES
