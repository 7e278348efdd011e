use Rattle.std.proofs.Common.{◌≡◌, ℕ, ◌≤◌, vec_len, vec_capacity}
use Rattle.std.specs.List.{All}
use Rattle.space_maps.specs.Hints.{hint_on}
use Rattle.space_maps.proofs.HintsLemmas.{pages_in, nothing}
use Rattle.space_maps.proofs.prune_hints.PruneHints.fill_up.Given as goal

abbrev pub invariant-loop : goal.invariant-loop
invariant-loop l =
    ((n : ℕ) → hint_on (pages_in l.self-inside.epoch l.self-inside.hints.items) n ≡ hint_on l.fn.self.pages n)
    × All (λ hint. hint.epoch ≤ l.self-inside.epoch) l.self-inside.hints.items
    × (l.nothing ≡ nothing l.self-inside.epoch)
    × (vec_len l.self-inside.hints ≡ l.counter)
    × (vec_capacity l.self-inside.hints ≡ vec_capacity l.initial.self-inside.hints)
