-- Which entries lie in a span, and which of them comes first.
use Rattle.std.proofs.Common.{◌≡◌, ◌↔◌, ◌⊎◌, inl, inr, ◌<◌, ℤ, ◌<ℤ◌, ◌≤ℤ◌, List, Option, Some, None, refl, sym, subst, ◌∙◌, arith}
use Rattle.std.specs.Ordering.{nat_cmp, int_cmp}
use Rattle.std.specs.Cmp.{int_cmp_is, nat_cmp_is}
use Rattle.std.specs.declared.cmp.Ordering.{Ordering}
use Rattle.std.specs.declared.cmp.Ordering.TheVariants.{Less, Equal, Greater}
use Rattle.std.proofs.lemmas.Cmp.{ranked, int_ranked}
use Rattle.std.proofs.lemmas.Int.{ints}
use Rattle.index_entries.specs.declared.entry.Entry.{Entry}
use Rattle.index_entries.specs.Order.{EntryPrecedes}
use Rattle.index_entries.specs.Sets.{IsLeast, IsBelow, IsOf}
use Rattle.index_lookup.specs.Looking.{IsFirstOf}
use Rattle.index_lookup.specs.declared.index_scan.IndexPosition.{IndexPosition}
use Rattle.index_lookup.specs.declared.index_scan.IndexRange.{IndexRange}
use Rattle.index_lookup.specs.Walking.{ComesAfter, StartsIn, LiesIn}

-- The order by value and key alone.

-- of a lower value, or of the same value and a lower key
abbrev pub IsLower : Entry → Entry → Type 0
IsLower a b = (a.value <ℤ b.value) ⊎ ((a.value ≡ b.value) × (a.key < b.key))

pub lower-precedes : (a b : Entry) → IsLower a b → EntryPrecedes a b
lower-precedes a b (inl low) = rw (sym (int_cmp_is a.value b.value Less low)) refl
lower-precedes a b (inr (same, low)) = rw (same, sym (int_cmp_is b.value b.value Equal refl), sym (nat_cmp_is a.key b.key Less low)) refl

by_key : (a b : Entry) (o : Ordering) → o ≡ nat_cmp a.key b.key → a.value ≡ b.value → IsLower a b ⊎ (IsOf b.value b.key a ⊎ IsLower b a)
by_key a b Less e same = inl (inr (same, ranked a.key b.key Less e))
by_key a b Equal e same = inr (inl (same, ranked a.key b.key Equal e))
by_key a b Greater e same = inr (inr (inr (sym same, ranked a.key b.key Greater e)))

by_value : (a b : Entry) (o : Ordering) → o ≡ int_cmp a.value b.value → IsLower a b ⊎ (IsOf b.value b.key a ⊎ IsLower b a)
by_value a b Less e = inl (inl (int_ranked a.value b.value Less e))
by_value a b Equal e = by_key a b (nat_cmp a.key b.key) refl (int_ranked a.value b.value Equal e)
by_value a b Greater e = inr (inr (inl (int_ranked a.value b.value Greater e)))

pub lower-cases : (a b : Entry) → IsLower a b ⊎ (IsOf b.value b.key a ⊎ IsLower b a)
lower-cases a b = by_value a b (int_cmp a.value b.value) refl

above : (x y : ℤ) → ¬ (x ≤ℤ y) → y <ℤ x
above x y h = grind (arith, ints)

-- Places of the order, and entries that are there.

-- the place of this entry's value and key
abbrev pub IsPlaceOf : Entry → IndexPosition → Type 0
IsPlaceOf f position = (position.value ≡ f.value) × (position.key ≡ f.key)

pub lower-from_after : (f e : Entry) (position : IndexPosition) → IsPlaceOf f position → ComesAfter e (Some position) → IsLower f e
lower-from_after f e position is (inl lt) = inl (subst (λ v. v <ℤ e.value) is.0 lt)
lower-from_after f e position is (inr (same, lt)) = inr (sym is.0 ∙ same, subst (λ k. k < e.key) is.1 lt)

pub after-from_lower : (f e : Entry) (position : IndexPosition) → IsPlaceOf f position → IsLower f e → ComesAfter e (Some position)
after-from_lower f e position is (inl lt) = inl (subst (λ v. v <ℤ e.value) (sym is.0) lt)
after-from_lower f e position is (inr (same, lt)) = inr (is.0 ∙ same, subst (λ k. k < e.key) (sym is.1) lt)

-- From the beginning of a span.

least-same : (entries : List Entry) (P Q : Entry → Type 0) (r : Option Entry) → ((e : Entry) → P e ↔ Q e) → IsLeast entries P r → IsLeast entries Q r
least-same entries P Q None same least = λ e there q. least e there ((same e).1 q)
least-same entries P Q (Some f) same least = (least.0, (same f).0 least.1, λ e there q. least.2 e there ((same e).1 q))

from-after : (low : ℤ) (position : IndexPosition) (e : Entry) → low ≤ℤ position.value → ComesAfter e (Some position) → low ≤ℤ e.value
from-after low position e le (inl lt) = omega (arith, ints, le, lt)
from-after low position e le (inr (same, lt)) = omega (arith, ints, le, same)

pub starts-after : (entries : List Entry) (span : IndexRange) (last : IndexPosition) (r : Option Entry) → span.last ≡ Some last → span.low ≤ℤ last.value → IsLeast entries (λ e. ComesAfter e (Some last)) r
    → IsLeast entries (StartsIn span) r
starts-after entries span last r is le least = least-same entries (λ e. ComesAfter e (Some last)) (StartsIn span) r (λ e. (
  λ after. record { from = from-after span.low last e le after; after = subst (ComesAfter e) (sym is) after },
  λ starts. subst (ComesAfter e) is starts.after,
)) least

-- what is not below the low value comes after the last place
abbrev pub AllAfter : IndexRange → Type 0
AllAfter span = (e : Entry) → span.low ≤ℤ e.value → ComesAfter e span.last

pub all-after_none : (span : IndexRange) → span.last ≡ None → AllAfter span
all-after_none span is e le = subst (ComesAfter e) (sym is) tt

pub all-after_lower : (span : IndexRange) (last : IndexPosition) → span.last ≡ Some last → ¬ (span.low ≤ℤ last.value) → AllAfter span
all-after_lower span last is over e le = subst (ComesAfter e) (sym is) (inl (let lt = above span.low last.value over in omega (arith, ints, lt, le)))

not_below : (low : ℤ) (e : Entry) → low ≤ℤ e.value → ¬ IsBelow low 0 e
not_below low e le (inl lt) = omega (arith, ints, le, lt)
not_below low e le (inr (same, lt)) = omega (arith, lt)

from-not_below : (low : ℤ) (e : Entry) → ¬ IsBelow low 0 e → low ≤ℤ e.value
from-not_below low e h = let no : ¬ (e.value <ℤ low) = λ lt. h (inl lt) in grind (arith, ints)

pub starts-from : (entries : List Entry) (span : IndexRange) (r : Option Entry) → AllAfter span → IsLeast entries (λ e. ¬ IsBelow span.low 0 e) r → IsLeast entries (StartsIn span) r
starts-from entries span r all least = least-same entries (λ e. ¬ IsBelow span.low 0 e) (StartsIn span) r (λ e. (
  λ h. let le = from-not_below span.low e h in record { from = le; after = all e le },
  λ starts. not_below span.low e starts.from,
)) least

-- Whether an entry lies in a span goes by its value and its key alone.

after-alike : (f e : Entry) (o : Option IndexPosition) → IsOf f.value f.key e → ComesAfter f o → ComesAfter e o
after-alike f e None of after = tt
after-alike f e (Some m) of (inl lt) = inl (subst (λ v. m.value <ℤ v) (sym of.0) lt)
after-alike f e (Some m) of (inr (same, lt)) = inr (same ∙ sym of.0, subst (λ k. m.key < k) (sym of.1) lt)

lies-alike : (span : IndexRange) (f e : Entry) → IsOf f.value f.key e → LiesIn span f → LiesIn span e
lies-alike span f e of lies = record {
  from = subst (λ v. span.low ≤ℤ v) (sym of.0) lies.from;
  to = subst (λ v. v ≤ℤ span.high) (sym of.0) lies.to;
  after = after-alike f e span.last of lies.after;
}

-- so the first entry of a span is the first of its value and its key
pub first-in_span : (entries : List Entry) (span : IndexRange) (f : Entry) → IsLeast entries (LiesIn span) (Some f) → IsFirstOf entries f
first-in_span entries span f least = (least.0, ((refl, refl), tt), λ e there is. least.2 e there (lies-alike span f e is.0 least.1))
