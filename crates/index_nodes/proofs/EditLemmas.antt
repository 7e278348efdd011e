-- What a change of lists does to all entries.
use Rattle.std.proofs.Common.{◌≡◌, ◌∙◌, ℕ, zero, suc, ◌+◌, ◌-◌, ◌<◌, ◌≤◌, List, [], ◌∷◌, ◌++◌, length, take, slice_set, sym, ap, refl, arith}
use Rattle.std.specs.List.{insert}
use Rattle.std.proofs.lemmas.List.{length-append}
use Rattle.std.proofs.lemmas.List.Edits.{insert-append_left, insert-append_right}
use Rattle.index_entries.specs.declared.entry.Entry.{Entry}
use Rattle.index_entries.specs.Lists.{concatenated, list_of}
use Rattle.index_nodes.proofs.JoinedLemmas.{start}

-- An entry that is put into a list.

pub joined_put : (ls : List (List Entry)) (i j : ℕ) (x : Entry) → i < length ls → j ≤ length (list_of ls i)
    → concatenated (slice_set ls i (insert (list_of ls i) j x)) ≡ insert (concatenated ls) (start ls i + j) x
joined_put [] i j x within inside = absurd (omega arith)
joined_put (l ∷ ls) zero j x within inside =
    let is : j ≡ 0 + j = omega arith in
    sym (insert-append_left l (concatenated ls) j x inside) ∙ ap (λ k. insert (l ++ concatenated ls) k x) is
joined_put (l ∷ ls) (suc i) j x within inside =
    let size = length-append l (concatenated (take i ls)) in
    let n = length (l ++ concatenated (take i ls)) + j in
    let is : n - length l ≡ start ls i + j = omega arith in
    ap (λ r. l ++ r) (joined_put ls i j x (omega arith) inside)
    ∙ ap (λ k. l ++ insert (concatenated ls) k x) (sym is)
    ∙ sym (insert-append_right l (concatenated ls) (length l) n x refl (omega arith))
