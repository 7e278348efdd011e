-- For the crates above: what look-ups find, one after another.
use Rattle.std.proofs.Common.{◌≡◌, ◌∙◌, ℕ, ◌+◌, ℤ, List, Option, Some, None, slice_get, sym, ap, refl, inl, inr, arith, Contains}
use Rattle.std.specs.Ordering.{nat_cmp, int_cmp, ordering_then, ordering_reverse}
use Rattle.std.specs.declared.cmp.Ordering.{Ordering}
use Rattle.std.specs.declared.cmp.Ordering.TheVariants.{Less, Equal, Greater}
use Rattle.std.proofs.lemmas.Cmp.{ranked, int_ranked, then_total, on_total, int_cmp_total, nat_cmp_total}
use Rattle.std.proofs.lemmas.Int.{ints}
use Rattle.std.specs.Cmp.{IsTotalOrder}
use Rattle.index_entries.specs.declared.entry.Entry.{Entry}
use Rattle.index_entries.specs.Order.{comparison, EntryPrecedes, IsAscending}
use Rattle.index_entries.specs.Sets.{IsLeast, IsAfter, IsBelow, IsOf, IsStart}
use Rattle.dead_places.proofs.PlaceLemmas.{equal_both}
use Rattle.index_entries.proofs.OrderLemmas.{comparison_total, Precedes-not_back, same-from_tied}
use Rattle.index_entries.proofs.SetLemmas.{first_is_least, start_after, lowest, precedes-below}

-- One is found, and in turn all of them.

same_by_case : (a b : Entry) (o : Ordering) → comparison a b ≡ o → ¬ EntryPrecedes a b → ¬ EntryPrecedes b a → a ≡ b
same_by_case a b Less e h k = absurd (h e)
same_by_case a b Equal e h k = same-from_tied a b e
same_by_case a b Greater e h k = absurd (k (comparison_total.antisymm b a ∙ ap ordering_reverse e))

pub same-from_neither : (a b : Entry) → ¬ EntryPrecedes a b → ¬ EntryPrecedes b a → a ≡ b
same-from_neither a b h k = same_by_case a b (comparison a b) refl h k

pub least_is_one : (xs : List Entry) (P : Entry → Type 0) (a b : Option Entry) → IsLeast xs P a → IsLeast xs P b → a ≡ b
least_is_one xs P None None h k = refl
least_is_one xs P None (Some b) h k = absurd (h b k.0 k.1)
least_is_one xs P (Some a) None h k = absurd (k a h.0 h.1)
least_is_one xs P (Some a) (Some b) h k = ap Some (same-from_neither a b (k.2 a h.0 h.1) (h.2 b k.0 k.1))

pub first_in_turn : (xs : List Entry) (r : Option Entry) → IsAscending xs → IsLeast xs (IsAfter None) r → r ≡ slice_get xs 0
first_in_turn xs r up least = least_is_one xs (IsAfter None) r (slice_get xs 0) least (first_is_least xs (IsAfter None) 0 up all)
  where
    all : IsStart xs (IsAfter None) 0
    all = record { in_range = omega arith; before = λ k e lt at h. omega arith; from = λ k e le at. tt }

pub next_in_turn : (xs : List Entry) (i : ℕ) (e : Entry) (r : Option Entry) → IsAscending xs → slice_get xs i ≡ Some e
    → IsLeast xs (IsAfter (Some e)) r → r ≡ slice_get xs (i + 1)
next_in_turn xs i e r up at least =
    least_is_one xs (IsAfter (Some e)) r (slice_get xs (i + 1)) least (first_is_least xs (IsAfter (Some e)) (i + 1) up (start_after xs e i up at))

-- The entries of one value and one key stand together.

abbrev by_key : Entry → Entry → Ordering
by_key a b = ordering_then (int_cmp a.value b.value) (nat_cmp a.key b.key)

by_key-first : (o p q : Ordering) → o ≡ Less → ordering_then (ordering_then o p) q ≡ Less
by_key-first o p q e = rw e refl

by_key_total : IsTotalOrder by_key
by_key_total = then_total (on_total (λ (e : Entry). e.value) int_cmp_total) (on_total (λ (e : Entry). e.key) nat_cmp_total)

precedes-by_key : (a b : Entry) → by_key a b ≡ Less → EntryPrecedes a b
precedes-by_key a b e = by_key-first (by_key a b) (nat_cmp a.tid.page b.tid.page) (nat_cmp a.tid.slot b.tid.slot) e

of-from_tied : (value : ℤ) (key : ℕ) (b : Entry) → ordering_then (int_cmp b.value value) (nat_cmp b.key key) ≡ Equal → IsOf value key b
of-from_tied value key b e =
    let both = equal_both (int_cmp b.value value) (nat_cmp b.key key) e in
    (int_ranked b.value value Equal (sym both.0), ranked b.key key Equal (sym both.1))

by_key-back : (a b : Entry) → by_key a b ≡ Greater → by_key b a ≡ Less
by_key-back a b e = by_key_total.antisymm b a ∙ ap ordering_reverse e

between_by_case : (value : ℤ) (key : ℕ) (a b c : Entry) (o : Ordering) → by_key b (lowest value key) ≡ o → IsOf value key a → IsOf value key c
    → ¬ EntryPrecedes b a → ¬ EntryPrecedes c b → IsOf value key b
between_by_case value key a b c Less e of_a of_c after_a before_c =
    absurd (after_a (precedes-by_key b a (rw (of_a.0, of_a.1) e)))
between_by_case value key a b c Equal e of_a of_c after_a before_c = of-from_tied value key b e
between_by_case value key a b c Greater e of_a of_c after_a before_c =
    absurd (before_c (precedes-by_key c b (by_key-back b c (rw (of_c.0, of_c.1) e))))

pub between_alike : (value : ℤ) (key : ℕ) (a b c : Entry) → IsOf value key a → IsOf value key c → ¬ EntryPrecedes b a → ¬ EntryPrecedes c b → IsOf value key b
between_alike value key a b c of_a of_c after_a before_c =
    between_by_case value key a b c (by_key b (lowest value key)) refl of_a of_c after_a before_c

pub not_below_itself : (value : ℤ) (key : ℕ) (e : Entry) → IsOf value key e → ¬ IsBelow value key e
not_below_itself value key e of (inl low) = omega (arith, ints, of.0)
not_below_itself value key e of (inr low) = omega (arith, of.1, low.1)

-- where none is found from a value and a key on, there is none of these
pub none_of : (xs : List Entry) (value : ℤ) (key : ℕ) → IsLeast xs (λ e. ¬ IsBelow value key e) None
    → (e : Entry) → Contains xs e → ¬ IsOf value key e
none_of xs value key least e there of = least e there (not_below_itself value key e of)

-- where the one that is found isn't of these, there is none of these
pub first_of : (xs : List Entry) (value : ℤ) (key : ℕ) (f : Entry) → IsLeast xs (λ e. ¬ IsBelow value key e) (Some f)
    → (e : Entry) → Contains xs e → IsOf value key e → IsOf value key f
first_of xs value key f least e there of =
    between_alike value key (lowest value key) f e (refl, refl) of
    (λ h. least.1 (precedes-below value key f h)) (least.2 e there (not_below_itself value key e of))

-- and where the next one isn't, there is none after
pub next_of : (xs : List Entry) (value : ℤ) (key : ℕ) (from n : Entry) → IsOf value key from → IsLeast xs (IsAfter (Some from)) (Some n)
    → (e : Entry) → Contains xs e → IsOf value key e → EntryPrecedes from e → IsOf value key n
next_of xs value key from n of_from least e there of after =
    between_alike value key from n e of_from of (Precedes-not_back from n least.1) (least.2 e there after)
