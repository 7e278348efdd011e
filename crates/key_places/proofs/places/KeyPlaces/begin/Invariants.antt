use Rattle.std.proofs.Common.{◌≡◌, ◌+◌, ◌≤◌, vec_len, vec_capacity}
use Rattle.key_places.proofs.places.KeyPlaces.begin.Given as goal

abbrev pub invariant-loop : goal.invariant-loop
invariant-loop l = (vec_len l.self.places ≡ vec_len l.initial.self.places + l.counter) × (vec_len l.initial.self.places + 256 ≤ vec_capacity l.self.places)
