-- A walk along an index goes from place to place, until a row is found.
use Rattle.std.proofs.Common.{◌≡◌, ◌⊎◌, inl, inr, ⊎_elim, ℕ, ◌+◌, ◌<◌, ◌≤◌, ℤ, ◌<ℤ◌, List, length, Option, Some, None, slice_get, subst, ◌∙◌, arith, Contains}
use Rattle.std.proofs.lemmas.Bool.{cases_lt}
use Rattle.std.proofs.lemmas.Int.{ints}
use Rattle.std.proofs.lemmas.Option.{slice_get_within}
use Rattle.tuple_header.specs.declared.version.Header.{Header}
use Rattle.tuple_header.specs.declared.version.Row.{Row}
use Rattle.page_sheet.specs.declared.slot.Slot.{Slot}
use Rattle.commit_status.specs.Window.{Window}
use Rattle.index_entries.specs.declared.entry.Entry.{Entry}
use Rattle.index_entries.specs.Order.{IsAscending}
use Rattle.index_entries.specs.Sets.{IsLeast}
use Rattle.index_entries.proofs.SetLemmas.{place_of, start_after}
use Rattle.index_lookup.specs.Looking.{FirstFound}
use Rattle.index_lookup.specs.declared.index_scan.IndexPosition.{IndexPosition}
use Rattle.index_lookup.specs.declared.index_scan.IndexRange.{IndexRange}
use Rattle.index_lookup.specs.Walking.{IsBeforePosition, ComesAfter, LiesIn, IsNextRow}
use Rattle.index_lookup.proofs.SpanLemmas.{IsLower, lower-precedes, lower-cases, IsPlaceOf, lower-from_after, after-from_lower}

-- After some turns this part of the span is left.
pub record Walked (entries : List Entry) (HasNone : ℤ → ℕ → Type 0) (span left : IndexRange) (turn : ℕ) : Type 0 where
  pub of : (e : Entry) → LiesIn left e → LiesIn span e
  pub rest : (e : Entry) → Contains entries e → LiesIn span e → LiesIn left e ⊎ HasNone e.value e.key
  -- each turn leaves an entry behind
  pub behind : (k : ℕ) (e : Entry) → k < turn → slice_get entries k ≡ Some e → ¬ LiesIn left e

-- what is left of a span after this place
abbrev pub past : IndexRange → IndexPosition → IndexRange
past left position = record left { last = Some position }

after-then : (e f : Entry) (o : Option IndexPosition) → ComesAfter f o → IsLower f e → ComesAfter e o
after-then e f None after later = tt
after-then e f (Some m) (inl lt) (inl lt') = inl (omega (arith, ints, lt, lt'))
after-then e f (Some m) (inl lt) (inr (same, lt')) = inl (omega (arith, ints, lt, same))
after-then e f (Some m) (inr (same, lt)) (inl lt') = inl (omega (arith, ints, same, lt'))
after-then e f (Some m) (inr (same, lt)) (inr (same', lt')) = inr (same ∙ same', omega (arith, lt, lt'))

past-of : (left : IndexRange) (f e : Entry) (position : IndexPosition) → IsPlaceOf f position → LiesIn left f → LiesIn (past left position) e → LiesIn left e
past-of left f e position is first lies = record { from = lies.from; to = lies.to; after = after-then e f left.last first.after (lower-from_after f e position is lies.after) }

past-rest : (entries : List Entry) (HasNone : ℤ → ℕ → Type 0) (left : IndexRange) (f e : Entry) (position : IndexPosition) → IsPlaceOf f position → IsLeast entries (LiesIn left) (Some f) → HasNone f.value f.key
    → Contains entries e → LiesIn left e → LiesIn (past left position) e ⊎ HasNone e.value e.key
past-rest entries HasNone left f e position is least none there lies = elim (lower-cases e f) [
  | inl lower ↦ absurd (least.2 e there lies (lower-precedes e f lower))
  | inr rest ↦ elim rest [
    | inl same ↦ inr (rw (same.0, same.1) none)
    | inr higher ↦ inl (record { from = lies.from; to = lies.to; after = after-from_lower f e position is higher })
  ]
]

reached : (entries : List Entry) (HasNone : ℤ → ℕ → Type 0) (span left : IndexRange) (turn i : ℕ) (f : Entry) → Walked entries HasNone span left turn → slice_get entries i ≡ Some f → LiesIn left f → turn ≤ i
reached entries HasNone span left turn i f l at lies = elim (cases_lt i turn) [
  | inl lt ↦ absurd (l.behind i f lt at lies)
  | inr le ↦ le
]

pub walked-on : (entries : List Entry) (HasNone : ℤ → ℕ → Type 0) (span left : IndexRange) (turn : ℕ) (f : Entry) (position : IndexPosition) → IsAscending entries → Walked entries HasNone span left turn
    → IsLeast entries (LiesIn left) (Some f) → IsPlaceOf f position → HasNone f.value f.key → Walked entries HasNone span (past left position) (turn + 1)
walked-on entries HasNone span left turn f position up l least is none = record {
  of = λ e lies. l.of e (past-of left f e position is least.1 lies);
  rest = λ e there lies. ⊎_elim (λ in_left. past-rest entries HasNone left f e position is least none there in_left) (λ has. inr has) (l.rest e there lies);
  behind = λ k e lt at lies.
      let p = place_of entries f least.0 in
      let le = reached entries HasNone span left turn p.0 f l p.1 least.1 in
      (start_after entries f p.0 up p.1).before k e (omega (arith, lt, le)) at (lower-precedes f e (lower-from_after f e position is lies.after));
}

-- The end, of one kind or the other.

pub walked-end : (entries : List Entry) (HasNone : ℤ → ℕ → Type 0) (span left : IndexRange) (turn : ℕ) → Walked entries HasNone span left turn → length entries ≤ turn
    → (e : Entry) → Contains entries e → LiesIn span e → HasNone e.value e.key
walked-end entries HasNone span left turn l all e there lies = ⊎_elim
    (λ in_left.
    let p = place_of entries e there in
    let within = slice_get_within entries p.0 e p.1 in
    absurd (l.behind p.0 e (omega (arith, all, within)) p.1 in_left))
    (λ has. has)
    (l.rest e there lies)

pub before-lower : (f e : Entry) (position : IndexPosition) → IsPlaceOf f position → IsBeforePosition e position → IsLower e f
before-lower f e position is (inl lt) = inl (subst (λ v. e.value <ℤ v) is.0 lt)
before-lower f e position is (inr (same, lt)) = inr (same ∙ is.0, subst (λ k. e.key < k) is.1 lt)

pub walked-row : (w : Window) (seen : Header → Type 0) (pages : List (List Slot)) (entries : List Entry) (span left : IndexRange) (turn : ℕ) (f : Entry) (position : IndexPosition) (row : Row)
    → Walked entries (λ value key. FirstFound w seen pages entries value key None) span left turn → IsLeast entries (LiesIn left) (Some f) → IsPlaceOf f position
    → FirstFound w seen pages entries f.value f.key (Some row) → IsNextRow w seen pages entries span position row
walked-row w seen pages entries span left turn f position row l least is found = record {
  entry = f;
  there = least.0;
  lies = l.of f least.1;
  value = is.0;
  key = is.1;
  found = rw (is.0, is.1) found;
  none_before = λ e there lies before. ⊎_elim
      (λ in_left. absurd (least.2 e there in_left (lower-precedes e f (before-lower f e position is before))))
      (λ has. has)
      (l.rest e there lies);
}
