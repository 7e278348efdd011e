-- What is told of items, with one more.
use Rattle.std.proofs.Common.{◌≡◌, ℕ, ◌+◌, ◌<◌, List, [], ◌∷◌, ◌++◌, length, take, get_or, refl, ap, sym, ◌∙◌, append_assoc, add-one}
use Rattle.std.specs.List.{flat_map}
use Rattle.std.proofs.lemmas.List.{append-nil, take_more}
use Rattle.std.proofs.lemmas.List.Concat.{flat_map-append}
use Rattle.page_sheet.specs.Slots.{slot_at}
use Rattle.page_sheet.specs.declared.slot.Slot.{Slot}
use Rattle.script_text.specs.Answers.{slot_lines, slot_line_text}

pub slot_lines-more : (n : ℕ) (slots : List Slot) → slot_lines (n + 1) slots ≡ slot_lines n slots ++ slot_line_text (n + 1) (slot_at slots (n + 1))
slot_lines-more n slots = rw add-one refl

pub ruleset slot_lemmas = (slot_lines-more)

-- the text of the items so far, and that of the next behind it
pub told_more : {X : Type 0} (f : X → List ℕ) (xs : List X) (i : ℕ) (d : X) (before text more : List ℕ) → i < length xs → text ≡ before ++ flat_map f (take i xs) → more ≡ text ++ f (get_or xs i d)
    → more ≡ before ++ flat_map f (take (i + 1) xs)
told_more f xs i d before text more within told added =
    let next : flat_map f (take (i + 1) xs) ≡ flat_map f (take i xs) ++ f (get_or xs i d) = ap (flat_map f) (take_more xs i d within) ∙ flat_map-append f (take i xs) (get_or xs i d ∷ []) ∙ ap (λ t. flat_map f (take i xs) ++ t) (append-nil (f (get_or xs i d))) in
    added ∙ ap (λ t. t ++ f (get_or xs i d)) told ∙ append_assoc before (flat_map f (take i xs)) (f (get_or xs i d)) ∙ ap (λ t. before ++ t) (sym next)
