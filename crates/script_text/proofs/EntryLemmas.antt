-- The lines of entries, one more.
use Rattle.std.proofs.Common.{◌≡◌, ℕ, ◌+◌, ◌<◌, List, [], ◌∷◌, ◌++◌, length, take, Option, Some, None, slice_get, sym, ap, ◌∙◌, append_assoc, arith}
use Rattle.std.proofs.lemmas.List.{append-nil, take_more}
use Rattle.std.proofs.lemmas.Option.{slice_get_within, slice_get-get_or, get_or_from_slice_get, none-some}
use Rattle.std.proofs.lemmas.Grind.{flat_map-append}
use Rattle.index_entries.specs.Order.{IsAscending}
use Rattle.index_entries.specs.Sets.{IsLeast, IsAfter}
use Rattle.index_entries.proofs.LookUpLemmas.{first_in_turn, next_in_turn}
use Rattle.index_entries.specs.declared.entry.Entry.{Entry}
use Rattle.script_text.specs.Answers.{entry_text, entry_lines}

pub entry_lines-more : (xs : List Entry) (i : ℕ) (e : Entry) → slice_get xs i ≡ Some e → entry_lines (take (i + 1) xs) ≡ entry_lines (take i xs) ++ 10 ∷ entry_text e
entry_lines-more xs i e at =
    ap entry_lines (take_more xs i e (slice_get_within xs i e at) ∙ ap (λ (x : Entry). take i xs ++ x ∷ []) (get_or_from_slice_get xs i e e at))
    ∙ flat_map-append (λ (e : Entry). 10 ∷ entry_text e) (take i xs) (e ∷ [])
    ∙ ap (λ t. entry_lines (take i xs) ++ t) (append-nil (10 ∷ entry_text e))

-- which entry is at hand, and the text so far
abbrev pub IsTold : List Entry → ℕ → Option Entry → List ℕ → List ℕ → Type 0
IsTold xs i next old new = (next ≡ slice_get xs i) × (new ≡ old ++ entry_lines (take i xs))

-- none is told at first
pub told_none : (xs : List Entry) (next : Option Entry) (text : List ℕ) → IsAscending xs → IsLeast xs (IsAfter None) next → IsTold xs 0 next text text
told_none xs next text up least = (first_in_turn xs next up least, sym (append-nil text))

-- the one at hand is told, and the one after it is at hand
pub told_one : (xs : List Entry) (i : ℕ) (one : Entry) (next then : Option Entry) (old text new : List ℕ) → IsAscending xs → IsTold xs i next old text → next ≡ Some one
    → IsLeast xs (IsAfter (Some one)) then → new ≡ text ++ 10 ∷ entry_text one → IsTold xs (i + 1) then old new
told_one xs i one next then old text new up h here least e =
    let at = sym h.0 ∙ here in (
      next_in_turn xs i one then up at least,
      e ∙ ap (λ t. t ++ 10 ∷ entry_text one) h.1 ∙ append_assoc old (entry_lines (take i xs)) (10 ∷ entry_text one) ∙ ap (λ t. old ++ t) (sym (entry_lines-more xs i one at)),
    )

-- one is at hand before the end
pub one_at_hand : (xs : List Entry) (i : ℕ) (next : Option Entry) (old new : List ℕ) → IsTold xs i next old new → i < length xs → next ≡ None → ⊥
one_at_hand [] i next old new h within none = omega arith
one_at_hand (x ∷ xs) i next old new h within none = none-some _ (sym none ∙ h.0 ∙ slice_get-get_or (x ∷ xs) i x within)
