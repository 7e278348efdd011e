use Rattle.std.proofs.Common.{◌≡◌, ◌∙◌, ℕ, Bool, false, List, [], Option, None, replicate, refl, ap}
use Rattle.std.specs.Prelude.{zero, suc, slice_get}
use mathlib.Core.Path.{fun_ext}
use Rattle.std.specs.Option.{option_map, option_flatten}
use Rattle.history.specs.History.{Transaction}
use Rattle.history.specs.World.{OpenSession, World, beginning, is_indexed}
use Rattle.plain_history.specs.declared.plain.PlainSession.{PlainSession}
use Rattle.plain_history.specs.Plain.{Plain, open_of, session_in, too_new_in, world_of}
use Rattle.waits.specs.View.{wait_in}
use Rattle.waits.proofs.WaitLemmas.{nobody_waits}
use Rattle.plain_history.proofs.Worlds.{none_marked}
use Rattle.plain_history.proofs.plain.PlainHistory.new.Goals as goal

-- nobody is at any of the places
nobody_sits : (count s : ℕ) → option_flatten {T = PlainSession} (slice_get (replicate count None) s) ≡ None
nobody_sits zero zero = refl
nobody_sits zero (suc s) = refl
nobody_sits (suc count) zero = refl
nobody_sits (suc count) (suc s) = nobody_sits count s

nothing_is_marked : (count n s index : ℕ) → too_new_in (replicate count (replicate n false)) s index ≡ false
nothing_is_marked zero n s index = refl
nothing_is_marked (suc count) n zero index = none_marked n index
nothing_is_marked (suc count) n (suc s) index = nothing_is_marked count n s index

abbrev world : List Bool → List Transaction → (ℕ → Option OpenSession) → (ℕ → Option ℕ) → (ℕ → ℕ → Bool) → World
world columns history session waits marks = record { history = history; session = session; waits_for = waits; has_index = is_indexed columns; too_new = marks; has_vacuum = false }

is_beginning : (p : Plain) (count others places n : ℕ) → p.history ≡ [] → p.sessions ≡ replicate count None → p.waits ≡ replicate others None → p.too_new ≡ replicate places (replicate n false)
    → p.has_vacuum ≡ false → world_of p ≡ beginning p.indexed
is_beginning p count others places n none sessions waits marks idle =
    ap (λ b. record (world_of p) { has_vacuum = b }) idle
    ∙ (ap (λ h. world p.indexed h (session_in p.sessions) (wait_in p.waits) (too_new_in p.too_new)) none
    ∙ (ap (λ f. world p.indexed [] f (wait_in p.waits) (too_new_in p.too_new)) (fun_ext (λ s. ap (λ xs. session_in xs s) sessions ∙ ap (option_map open_of) (nobody_sits count s)))
    ∙ (ap (λ f. world p.indexed [] (λ _. None) f (too_new_in p.too_new)) (fun_ext (λ s. ap (λ xs. wait_in xs s) waits ∙ nobody_waits others s))
    ∙ ap (world p.indexed [] (λ _. None) (λ _. None)) (fun_ext (λ s. fun_ext (λ index. ap (λ xs. too_new_in xs s index) marks ∙ nothing_is_marked places n s index))))))

pub returns : goal.returns
returns c = is_beginning (record { history = c.new.result; sessions = c.loop.sessions.items; waits = c.loop-2.waits.items; indexed = c.args.indexed; too_new = c.loop-3.too_new.items; has_vacuum = false }) c.loop.counter c.loop-2.counter c.loop-3.counter 5
    c.new.ensures c.loop.invariant c.loop-2.invariant c.loop-3.invariant refl
