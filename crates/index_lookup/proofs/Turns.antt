-- A search goes from one entry of a value and a key to the next.
use Rattle.std.proofs.Common.{◌≡◌, ◌⊎◌, ℕ, ℤ, ◌+◌, ◌≤◌, List, length, Option, Some, None, refl, sym, ap, ◌∙◌, subst, ⊎_elim, inl, inr, arith, slice_get}
use Rattle.std.specs.List.{Contains}
use Rattle.std.specs.Prelude.{MatchOption, IfSome}
use Rattle.std.specs.Option.{option_map}
use Rattle.std.specs.Ordering.{ordering_reverse}
use Rattle.std.specs.declared.cmp.Ordering.{Ordering}
use Rattle.std.specs.declared.cmp.Ordering.TheVariants.{Less, Equal, Greater}
use Rattle.std.proofs.lemmas.Bool.{cases_lt}
use Rattle.std.proofs.lemmas.Option.{slice_get_within, none-some, same_Some}
use Rattle.index_entries.specs.declared.entry.Entry.{Entry}
use Rattle.index_entries.specs.Order.{comparison, EntryPrecedes, IsAscending}
use Rattle.index_entries.specs.Sets.{IsLeast, IsAfter, IsBelow, IsOf, IsLastOf}
use Rattle.index_entries.proofs.OrderLemmas.{comparison_total, same-from_tied}
use Rattle.index_entries.proofs.SetLemmas.{place_of, start_after}
use Rattle.index_entries.proofs.LookUpLemmas as look
use Rattle.index_lookup.specs.Looking.{IsNextOf}

-- Of what a look-up finds, only that which is of this value and this key.

first-none : (xs : List Entry) (value : ℤ) (key : ℕ) (r : Option Entry) → IsLeast xs (λ e. ¬ IsBelow value key e) r → ((e : Entry) → r ≡ Some e → ¬ IsOf value key e)
    → IsNextOf xs value key None None
first-none xs value key None least not e there of = look.none_of xs value key least e there of.0
first-none xs value key (Some f) least not e there of = not f refl (look.first_of xs value key f least e there of.0)

first-some : (xs : List Entry) (value : ℤ) (key : ℕ) (f : Entry) → IsLeast xs (λ e. ¬ IsBelow value key e) (Some f) → IsOf value key f → IsNextOf xs value key None (Some f)
first-some xs value key f least of = (least.0, (of, tt), λ e there is. least.2 e there (look.not_below_itself value key e is.0))

after-none : (xs : List Entry) (value : ℤ) (key : ℕ) (from : Entry) (r : Option Entry) → IsOf value key from → IsLeast xs (IsAfter (Some from)) r
    → ((e : Entry) → r ≡ Some e → ¬ IsOf value key e) → IsNextOf xs value key (Some from) None
after-none xs value key from None of least not e there is = least e there is.1
after-none xs value key from (Some n) of least not e there is = not n refl (look.next_of xs value key from n of least e there is.0 is.1)

after-some : (xs : List Entry) (value : ℤ) (key : ℕ) (from n : Entry) → IsLeast xs (IsAfter (Some from)) (Some n) → IsOf value key n → IsNextOf xs value key (Some from) (Some n)
after-some xs value key from n least of = (least.0, (of, least.1), λ e there is. least.2 e there is.1)

-- an entry, if it is of this value and this key
abbrev pub IsOnly : ℤ → ℕ → Option Entry → Option Entry → Type 0
IsOnly value key found answer = MatchOption answer ((e : Entry) → found ≡ Some e → ¬ IsOf value key e) (λ e. (found ≡ Some e) × IsOf value key e)

pub first-only : (xs : List Entry) (value : ℤ) (key : ℕ) (found answer : Option Entry) → IsLeast xs (λ e. ¬ IsBelow value key e) found → IsOnly value key found answer
    → IsNextOf xs value key None answer
first-only xs value key found None least only = first-none xs value key found least only
first-only xs value key found (Some f) least only = first-some xs value key f (subst (IsLeast xs (λ e. ¬ IsBelow value key e)) only.0 least) only.1

pub after-only : (xs : List Entry) (value : ℤ) (key : ℕ) (from : Entry) (found answer : Option Entry) → IsOf value key from → IsLeast xs (IsAfter (Some from)) found
    → IsOnly value key found answer → IsNextOf xs value key (Some from) answer
after-only xs value key from found None of least only = after-none xs value key from found of least only
after-only xs value key from found (Some n) of least only = after-some xs value key from n (subst (IsLeast xs (IsAfter (Some from))) only.0 least) only.1

-- the first one is the last one too
pub last-only : (xs : List Entry) (value : ℤ) (key : ℕ) (found answer : Option Entry) → IsOnly value key found answer → IfSome found (IsLastOf xs) → IfSome answer (IsLastOf xs)
last-only xs value key found None only last = tt
last-only xs value key found (Some f) only last = subst (λ (o : Option Entry). IfSome o (IsLastOf xs)) only.0 last

pub none-after : (xs : List Entry) (value : ℤ) (key : ℕ) (from : Entry) → IsOf value key from → IsLastOf xs from → IsNextOf xs value key (Some from) None
none-after xs value key from of last e there is = last e there (is.0.0 ∙ sym of.0, is.0.1 ∙ sym of.1) is.1

-- what was found comes with where it stood
abbrev pub entry_of : {Hint : Type 0} → Option (Entry × Hint) → Option Entry
entry_of = option_map (λ found. found.0)

pub only-entry : {Hint : Type 0} (value : ℤ) (key : ℕ) (found answer : Option (Entry × Hint))
    → MatchOption answer ((f : Entry × Hint) → found ≡ Some f → ¬ IsOf value key f.0) (λ f. (found ≡ Some f) × IsOf value key f.0)
    → IsOnly value key (entry_of found) (entry_of answer)
only-entry value key None None not = λ e is. absurd (none-some e is)
only-entry value key (Some f) None not = λ e is of. not f refl (subst (IsOf value key) (same_Some e f.0 (sym is)) of)
only-entry value key found (Some f) only = (ap (option_map (λ f. f.0)) only.0, only.1)

-- Turns.

order-cases : (a b : Entry) → EntryPrecedes a b ⊎ ((a ≡ b) ⊎ EntryPrecedes b a)
order-cases a b = by (comparison a b) refl
  where
    by : (o : Ordering) → comparison a b ≡ o → EntryPrecedes a b ⊎ ((a ≡ b) ⊎ EntryPrecedes b a)
    by Less e = inl e
    by Equal e = inr (inl (same-from_tied a b e))
    by Greater e = inr (inr (comparison_total.antisymm b a ∙ ap ordering_reverse e))

-- after so many turns: which entry comes next, and that none before it has anything
pub record Looked (entries : List Entry) (value : ℤ) (key : ℕ) (HasNone : Entry → Type 0) (turn : ℕ) (next : Option Entry) : Type 0 where
  pub there : (n : Entry) → next ≡ Some n → Contains entries n
  pub of : (n : Entry) → next ≡ Some n → IsOf value key n
  pub place : (n : Entry) → next ≡ Some n → (k : ℕ) × (turn ≤ k) × (slice_get entries k ≡ Some n)
  pub none_before : (e : Entry) → Contains entries e → IsOf value key e → ((n : Entry) → next ≡ Some n → EntryPrecedes e n) → HasNone e

least-there : (entries : List Entry) (P : Entry → Type 0) (r : Option Entry) (n : Entry) → IsLeast entries P r → r ≡ Some n
    → Contains entries n × P n × ((e : Entry) → Contains entries e → P e → ¬ EntryPrecedes e n)
least-there entries P r n least is = subst (IsLeast entries P) is least

least-before : (entries : List Entry) (P : Entry → Type 0) (r : Option Entry) (e : Entry) → IsLeast entries P r → Contains entries e → P e → ¬ ((n : Entry) → r ≡ Some n → EntryPrecedes e n)
least-before entries P None e least there has before = least e there has
least-before entries P (Some n) e least there has before = least.2 e there has (before n refl)

pub looked-first : (entries : List Entry) (value : ℤ) (key : ℕ) (HasNone : Entry → Type 0) (next : Option Entry) → IsNextOf entries value key None next → Looked entries value key HasNone 0 next
looked-first entries value key HasNone next least = record {
  there = λ n is. (least-there entries (λ e. IsOf value key e × IsAfter None e) next n least is).0;
  of = λ n is. (least-there entries (λ e. IsOf value key e × IsAfter None e) next n least is).1.0;
  place = λ n is. let p = place_of entries n (least-there entries (λ e. IsOf value key e × IsAfter None e) next n least is).0 in (p.0, omega arith, p.1);
  none_before = λ e there of before. absurd (least-before entries (λ e. IsOf value key e × IsAfter None e) next e least there (of, tt) before);
}

pub looked-next : (entries : List Entry) (value : ℤ) (key : ℕ) (HasNone : Entry → Type 0) (turn : ℕ) (at : Option Entry) (from : Entry) (next : Option Entry) → IsAscending entries
    → Looked entries value key HasNone turn at → at ≡ Some from → HasNone from → IsNextOf entries value key (Some from) next → Looked entries value key HasNone (turn + 1) next
looked-next entries value key HasNone turn at from next up l is none least = record {
  there = λ n e. (found n e).0;
  of = λ n e. (found n e).1.0;
  place = λ n e.
      let old = l.place from is in
      let p = place_of entries n (found n e).0 in
      (p.0, later n e old.0 old.2 old.1 p.0 p.1, p.1);
  none_before = λ e there of before. ⊎_elim
      (λ lt. l.none_before e there of (λ n here. subst (λ m. EntryPrecedes e m) (same_Some from n (sym is ∙ here)) lt))
      (λ rest. ⊎_elim
      (λ same. subst HasNone (sym same) none)
      (λ gt. absurd (least-before entries (λ e. IsOf value key e × IsAfter (Some from) e) next e least there (of, gt) before))
      rest)
      (order-cases e from);
}
  where
    found : (n : Entry) → next ≡ Some n
        → Contains entries n × (IsOf value key n × EntryPrecedes from n) × ((e : Entry) → Contains entries e → (IsOf value key e × EntryPrecedes from e) → ¬ EntryPrecedes e n)
    found n e = least-there entries (λ e. IsOf value key e × IsAfter (Some from) e) next n least e

    later : (n : Entry) → next ≡ Some n → (k : ℕ) → slice_get entries k ≡ Some from → turn ≤ k → (j : ℕ) → slice_get entries j ≡ Some n → turn + 1 ≤ j
    later n e k here le j there = ⊎_elim
        (λ lt. absurd ((start_after entries from k up here).before j n lt there (found n e).1.1))
        (λ ge. omega arith)
        (cases_lt j (k + 1))

pub looked-end : (entries : List Entry) (value : ℤ) (key : ℕ) (HasNone : Entry → Type 0) (turn : ℕ) (next : Option Entry) → Looked entries value key HasNone turn next → length entries ≤ turn
    → (e : Entry) → Contains entries e → IsOf value key e → HasNone e
looked-end entries value key HasNone turn next l all e there of = l.none_before e there of (λ n is.
    let p = l.place n is in
    let within = slice_get_within entries p.0 n p.2 in
    let reached = p.1 in
    absurd (omega arith))

pub looked-none : (entries : List Entry) (value : ℤ) (key : ℕ) (HasNone : Entry → Type 0) (turn : ℕ) (next : Option Entry) → Looked entries value key HasNone turn next → next ≡ None
    → (e : Entry) → Contains entries e → IsOf value key e → HasNone e
looked-none entries value key HasNone turn next l none e there of = l.none_before e there of (λ n is. absurd (none-some n (sym none ∙ is)))

pub looked-before : (entries : List Entry) (value : ℤ) (key : ℕ) (HasNone : Entry → Type 0) (turn : ℕ) (next : Option Entry) (at : Entry) → Looked entries value key HasNone turn next → next ≡ Some at
    → (e : Entry) → Contains entries e → IsOf value key e → EntryPrecedes e at → HasNone e
looked-before entries value key HasNone turn next at l is e there of before =
    l.none_before e there of (λ n here. subst (λ m. EntryPrecedes e m) (same_Some at n (sym is ∙ here)) before)
