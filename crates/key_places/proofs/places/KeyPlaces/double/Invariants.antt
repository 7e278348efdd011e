use Rattle.std.proofs.Common.{◌≡◌, ◌+◌, ◌≤◌, vec_len, vec_capacity}
use Rattle.key_places.proofs.places.KeyPlaces.double.Given as goal

abbrev pub invariant-loop-n : goal.invariant-loop-n
invariant-loop-n l = (vec_len l.self.places ≡ l.count + l.n) × (l.count + l.count ≤ vec_capacity l.self.places)
