-- Lists of one length, place by place.
use Rattle.std.proofs.Common.{◌≡◌, ◌<◌, List, [], ◌∷◌, ℕ, Some, suc, length, slice_index_or, refl, arith}
use Rattle.std.specs.Prelude.{slice_get}
use Rattle.std.specs.List.{AllZip}

-- What holds at each place holds of the lists.
pub zipped-at : {X Y : Type 0} (R : X → Y → Type 0) (xs : List X) (ys : List Y) → length ys ≡ length xs
    → ((i : ℕ) (d : Y) → i < length ys → (x : X) → slice_get xs i ≡ Some x → R x (slice_index_or ys i d)) → AllZip R xs ys
zipped-at R [] [] same each = tt
zipped-at R [] (y ∷ ys) same each = absurd (omega (same, arith))
zipped-at R (x ∷ xs) [] same each = absurd (omega (same, arith))
zipped-at R (x ∷ xs) (y ∷ ys) same each =
    (each 0 y (omega arith) x refl, zipped-at R xs ys (omega (same, arith)) (λ i d lt z at. each (suc i) d (omega (lt, arith)) z at))
