-- What the making of an index notes.
use Rattle.std.proofs.Common.{◌≡◌, ℕ, suc, ◌+◌, ◌<◌, ◌≤◌, List, [], ◌∷◌, length, set, get_or, Option, Bool, true, false, cond, nat_eq, refl, sym, ap, ◌∙◌, subst, add-one, inl, inr, arith}
use Rattle.std.specs.Option.{option_map}
use mathlib.Core.Path.{fun_ext}
use Rattle.std.proofs.lemmas.Bool.{cases_eq, cases_lt}
use Rattle.std.proofs.lemmas.List.{get_or-set_same, get_or-set_other, get_or_default, get_or_past, length-set}
use Rattle.history.specs.World.{is_indexed}
use Rattle.history.specs.Moves.{is_open_by_snapshot, with_made_index}
use Rattle.history.proofs.HistoryLemmas.{at_same, at_other}
use Rattle.plain_history.specs.declared.plain.PlainSession.{PlainSession}
use Rattle.plain_history.proofs.Sessions.{less, session_in-read, session_in-past}
use Rattle.plain_history.proofs.Worlds.{too_new_in-set}
use Rattle.plain_history.specs.Plain.{Plain, open_of, session_in, too_new_in, world_of}

-- whether the column's index is there
pub is_there : (columns : List Bool) (c : ℕ) (there : Bool) → there ≡ is_indexed columns (c + 1) → there ≡ is_indexed columns (suc c)
is_there columns c there is = is ∙ ap (is_indexed columns) (add-one c)

-- one column more is indexed
pub indexed-set : (columns : List Bool) (c i : ℕ) → c < length columns → is_indexed (set columns c true) i ≡ cond (nat_eq i (c + 1)) true (is_indexed columns i)
indexed-set columns c i within = rw (add-one c) (elim (cases_eq i (suc c)) [
  | inl same ↦ subst (λ i. is_indexed (set columns c true) i ≡ cond (nat_eq i (suc c)) true (is_indexed columns i)) (sym same)
      (get_or-set_same columns c true false within ∙ sym (at_same (suc c) true (is_indexed columns (suc c))))
  | inr ne ↦ get_or-set_other (true ∷ columns) (suc c) i true false ne ∙ sym (at_other i (suc c) true (is_indexed columns i) ne)
])

-- and the world is that in which its index is made
pub world-made : (p : Plain) (c : ℕ) (marks : List (List Bool)) → c < length p.indexed
    → ((s i : ℕ) → too_new_in marks s i ≡ cond (nat_eq i (c + 1)) (is_open_by_snapshot (session_in p.sessions s)) (too_new_in p.too_new s i))
    → world_of (record p { indexed = set p.indexed c true; too_new = marks }) ≡ with_made_index (world_of p) (c + 1)
world-made p c marks within marked =
    ap (λ had. record (world_of p) { has_index = had; too_new = too_new_in marks }) (fun_ext (λ i. indexed-set p.indexed c i within))
    ∙ ap (λ young. record (with_made_index (world_of p) (c + 1)) { too_new = young }) (fun_ext (λ s. fun_ext (λ i. marked s i)))

-- Who may scan it.

-- of the sessions below n each one has the mark that it is to have, and the others have what they had
pub record AreMarked (sessions : List (Option PlainSession)) (index : ℕ) (before marks : List (List Bool)) (n : ℕ) : Type 0 where
  pub places : length marks ≡ length before
  pub marked : (s i : ℕ) → s < n → too_new_in marks s i ≡ cond (nat_eq i index) (is_open_by_snapshot (session_in sessions s)) (too_new_in before s i)
  pub others : (s i : ℕ) → n ≤ s → too_new_in marks s i ≡ too_new_in before s i

-- one session more
pub marks_more : (sessions : List (Option PlainSession)) (index : ℕ) (before marks : List (List Bool)) (s : ℕ) (x : Option PlainSession) (mark : Bool) (row d : List Bool)
    → s < length marks → s < length sessions → x ≡ get_or sessions s x → mark ≡ is_open_by_snapshot (option_map open_of x)
    → ((i : ℕ) → get_or row i false ≡ cond (nat_eq i index) mark (get_or (get_or marks s d) i false))
    → AreMarked sessions index before marks s → AreMarked sessions index before (set marks s row) (s + 1)
marks_more sessions index before marks s x mark row d within within' is mark_is says so = record {
  places = length-set marks s row ∙ so.places;
  marked = λ t i lt. too_new_in-set marks s row within t i ∙ (elim (cases_eq t s) [
    | inl same ↦ subst (λ u. cond (nat_eq u s) (get_or row i false) (too_new_in marks u i) ≡ due u i) (sym same) (at_same s (get_or row i false) (too_new_in marks s i) ∙ here i)
    | inr ne ↦ at_other t s (get_or row i false) (too_new_in marks t i) ne ∙ so.marked t i (less t s lt ne)
  ]);
  others = λ t i le. too_new_in-set marks s row within t i ∙ (at_other t s (get_or row i false) (too_new_in marks t i) (λ same. past t same le) ∙ so.others t i (omega (arith, le)));
}
  where
    due : ℕ → ℕ → Bool
    due u i = cond (nat_eq i index) (is_open_by_snapshot (session_in sessions u)) (too_new_in before u i)

    past : (t : ℕ) → t ≡ s → s + 1 ≤ t → ⊥
    past t same le = omega (arith, same, le)

    here : (i : ℕ) → get_or row i false ≡ due s i
    here i =
        says i
        ∙ (ap (λ b. cond (nat_eq i index) b (get_or (get_or marks s d) i false)) (mark_is ∙ ap is_open_by_snapshot (sym (session_in-read sessions s x within' is)))
        ∙ ap (λ b. cond (nat_eq i index) (is_open_by_snapshot (session_in sessions s)) b) (ap (λ r. get_or r i false) (get_or_default marks s d [] within) ∙ so.others s i (omega arith)))

-- beyond them there is none
pub all_marked : (sessions : List (Option PlainSession)) (index : ℕ) (before marks : List (List Bool)) (n : ℕ) → length before ≡ length sessions → length sessions ≤ n → AreMarked sessions index before marks n
    → (s i : ℕ) → too_new_in marks s i ≡ cond (nat_eq i index) (is_open_by_snapshot (session_in sessions s)) (too_new_in before s i)
all_marked sessions index before marks n places all so s i = elim (cases_lt s n) [ inl lt ↦ so.marked s i lt | inr le ↦ so.others s i le ∙ beyond (omega (arith, le)) ]
  where
    neither : (b : Bool) → false ≡ cond b false false
    neither true = refl
    neither false = refl

    beyond : length sessions ≤ s → too_new_in before s i ≡ cond (nat_eq i index) (is_open_by_snapshot (session_in sessions s)) (too_new_in before s i)
    beyond past =
        let none : too_new_in before s i ≡ false = ap (λ r. get_or r i false) (get_or_past before s [] (omega (arith, places))) in
        none
        ∙ (neither (nat_eq i index)
        ∙ (ap (λ b. cond (nat_eq i index) false b) (sym none) ∙ ap (λ o. cond (nat_eq i index) (is_open_by_snapshot o) (too_new_in before s i)) (sym (session_in-past sessions s past))))
