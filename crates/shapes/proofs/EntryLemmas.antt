-- The arrows from entries, one more.
use Rattle.std.proofs.Common.{◌≡◌, ℕ, ◌+◌, ◌<◌, List, [], ◌∷◌, ◌++◌, length, take, map, Option, Some, None, arith, sym, ap, ◌∙◌, append_assoc, slice_get}
use Rattle.std.specs.Prelude.{◌==◌, filter}
use Rattle.std.proofs.lemmas.List.{append-nil, take_more, map-append}
use Rattle.std.proofs.lemmas.List.Elements.{filter-append}
use Rattle.std.proofs.lemmas.Option.{slice_get_within, slice_get-get_or, get_or_from_slice_get, none-some}
use Rattle.index_entries.specs.Order.{IsAscending}
use Rattle.index_entries.specs.Sets.{IsLeast, IsAfter}
use Rattle.index_entries.proofs.LookUpLemmas.{first_in_turn, next_in_turn}
use Rattle.index_entries.specs.declared.entry.Entry.{Entry}
use Rattle.shape_list.specs.declared.shape.Shape.{Shape}
use Rattle.shape_list.specs.declared.shape.Shape.TheVariants as shape
use Rattle.shapes.specs.Shapes.{entry_shapes_of}

entries-behind : (p i : ℕ) (xs ys : List Entry) → entry_shapes_of p i (xs ++ ys) ≡ entry_shapes_of p i xs ++ entry_shapes_of p i ys
entries-behind p i xs ys =
    ap (map (λ (e : Entry). shape.Entry (record { index = i; entry = e }))) (filter-append (λ (e : Entry). e.tid.page == p) xs ys)
    ∙ map-append (λ (e : Entry). shape.Entry (record { index = i; entry = e })) (filter (λ (e : Entry). e.tid.page == p) xs) (filter (λ (e : Entry). e.tid.page == p) ys)

entries-more : (p i : ℕ) (xs : List Entry) (n : ℕ) (e : Entry) → slice_get xs n ≡ Some e
    → entry_shapes_of p i (take (n + 1) xs) ≡ entry_shapes_of p i (take n xs) ++ entry_shapes_of p i (e ∷ [])
entries-more p i xs n e at =
    ap (entry_shapes_of p i) (take_more xs n e (slice_get_within xs n e at) ∙ ap (λ (x : Entry). take n xs ++ x ∷ []) (get_or_from_slice_get xs n e e at))
    ∙ entries-behind p i (take n xs) (e ∷ [])

-- which entry is at hand, and the shapes so far
abbrev pub AreShown : ℕ → ℕ → List Entry → ℕ → Option Entry → List Shape → List Shape → Type 0
AreShown p i xs n next old new = (next ≡ slice_get xs n) × (new ≡ old ++ entry_shapes_of p i (take n xs))

pub shown-none : (p i : ℕ) (xs : List Entry) (next : Option Entry) (shapes : List Shape) → IsAscending xs → IsLeast xs (IsAfter None) next → AreShown p i xs 0 next shapes shapes
shown-none p i xs next shapes up least = (first_in_turn xs next up least, sym (append-nil shapes))

pub shown-one : (p i : ℕ) (xs : List Entry) (n : ℕ) (one : Entry) (next then : Option Entry) (old middle new : List Shape) → IsAscending xs → AreShown p i xs n next old middle
    → next ≡ Some one → IsLeast xs (IsAfter (Some one)) then → new ≡ middle ++ entry_shapes_of p i (one ∷ []) → AreShown p i xs (n + 1) then old new
shown-one p i xs n one next then old middle new up h here least e =
    let at = sym h.0 ∙ here in (
      next_in_turn xs n one then up at least,
      e ∙ ap (λ shapes. shapes ++ entry_shapes_of p i (one ∷ [])) h.1 ∙ append_assoc old (entry_shapes_of p i (take n xs)) (entry_shapes_of p i (one ∷ []))
          ∙ ap (λ shapes. old ++ shapes) (sym (entries-more p i xs n one at)),
    )

-- one is at hand before the end
pub one-at_hand : (p i : ℕ) (xs : List Entry) (n : ℕ) (next : Option Entry) (old new : List Shape) → AreShown p i xs n next old new → n < length xs → next ≡ None → ⊥
one-at_hand p i [] n next old new h within none = omega arith
one-at_hand p i (x ∷ xs) n next old new h within none = none-some _ (sym none ∙ h.0 ∙ slice_get-get_or (x ∷ xs) n x within)
