-- How an engine looks for what its cursors have to hand out: in an index row by row, in the heap place by place.
use Rattle.std.proofs.Common.{◌≡◌, ◌≢◌, ℕ, ◌+◌, ◌<◌, List, [], ◌∷◌, ◌++◌, length, Option, Some, refl, sym, ap, ◌∙◌, subst, ◌⊎◌, inl, inr, arith}
use Rattle.std.specs.Prelude.{ℤ, ◌≤◌}
use Rattle.std.proofs.lemmas.Bool.{cases_eq, cases_lt}
use Rattle.std.proofs.lemmas.Option.{same_Some, none-some, slice_get_within}
use Rattle.xid_circle.specs.declared.Tid.{Tid}
use Rattle.xid_circle.proofs.Tids.{same-tid}
use Rattle.tuple_header.specs.declared.version.Row.{Row}
use Rattle.tuple_header.specs.Version.{Version}
use Rattle.history.specs.Cursors.{ComesBefore}
use Rattle.history.proofs.Places.{slice_get-push_old, slice_get-push_new, slice_get-push_cases}
use Rattle.refinement.specs.Heap.{RowPosition, in_index}
use Rattle.refinement.specs.Cursors.{index_position_of, IsPastPosition, IsFrom, heap_start, Comes, WalksOver, Stands, Gathers}
use Rattle.refinement.proofs.Rests.{ComesBefore-irrefl, IsAfter-onward, before_after}

-- In an index.

-- the row comes from the first place on, and comes after the second
pub Comes-back : {store : Tid → Option Version} {seen : Version → Type 0} {index : ℕ} {low high : ℤ} {from to : Option RowPosition} {row : Row}
    → (IsPastPosition index to row → IsPastPosition index from row) → Comes store seen (in_index index low high to) row → Comes store seen (in_index index low high from) row
Comes-back back c = record {
  place = c.place;
  version = c.version;
  here = c.here;
  shown = c.shown;
  same_row = c.same_row;
  to_come = record { from = c.to_come.from; to = c.to_come.to; after = back c.to_come.after };
}

pub Comes-from : {store : Tid → Option Version} {seen : Version → Type 0} {index : ℕ} {low high : ℤ} {from to : Option RowPosition} {row : Row}
    → IsPastPosition index to row → Comes store seen (in_index index low high from) row → Comes store seen (in_index index low high to) row
Comes-from after c = record {
  place = c.place;
  version = c.version;
  here = c.here;
  shown = c.shown;
  same_row = c.same_row;
  to_come = record { from = c.to_come.from; to = c.to_come.to; after = after };
}

-- the walk meets one row more, before all others that are still to come
pub Meets-one : {store : Tid → Option Version} {seen : Version → Type 0} {index : ℕ} {low high : ℤ} {from to : Option RowPosition} {rows : List Row} (row : Row)
    → Comes store seen (in_index index low high to) row → ((other : Row) → Comes store seen (in_index index low high to) other → other.key ≢ row.key → ComesBefore index row other)
    → WalksOver store seen index low high from to rows → WalksOver store seen index low high from (Some (index_position_of index row)) (rows ++ row ∷ [])
Meets-one {store} {seen} {index} {low} {high} {from} {to} {rows} row comes first h = record {
  theirs = λ i r at. elim (slice_get-push_cases rows row i r at) [
    | inl old ↦ (let was = h.theirs i r old in (was.0, λ later. was.1 (IsAfter-onward index to row r comes.to_come.after later)))
    | inr new ↦ subst (λ (r : Row). Comes store seen (in_index index low high from) r × (¬ IsPastPosition index (Some (index_position_of index row)) r)) (sym new.1) (Comes-back (h.onward row) comes, ComesBefore-irrefl index row)
  ];
  in_order = λ i j a b at bt lt. elim (slice_get-push_cases rows row j b bt) [
    | inl old ↦ elim (slice_get-push_cases rows row i a at) [
      | inl old' ↦ h.in_order i j a b old' old lt
      | inr new ↦ (let within : j < length rows = slice_get_within rows j b old in let last : i ≡ length rows = new.0 in absurd (omega arith))
    ]
    | inr new ↦ elim (slice_get-push_cases rows row i a at) [
      | inl old' ↦ subst (λ (r : Row). ComesBefore index a r) (sym new.1) (before_after index to a row (h.theirs i a old').1 comes.to_come.after)
      | inr new' ↦ (let last : j ≡ length rows = new.0 in let last' : i ≡ length rows = new'.0 in absurd (omega arith))
    ]
  ];
  met = λ r coming. elim (h.met r coming) [
    | inl after ↦ elim (cases_eq r.key row.key) [
      | inl same ↦ inr (length rows, row, slice_get-push_new rows row, sym same)
      | inr ne ↦ inl (first r (Comes-from after coming) ne)
    ]
    | inr some ↦ inr (some.0, some.1, slice_get-push_old rows row some.0 some.1 some.2, some.3)
  ];
  onward = λ r after. h.onward r (IsAfter-onward index to row r comes.to_come.after after);
}

-- Over the heap.

pub from_itself : (p : Tid) → IsFrom p p
from_itself p = inr (refl, omega arith)

pub from_first : (p : Tid) → IsFrom heap_start p
from_first p = elim (cases_lt 0 p.page) [ inl lt ↦ inl lt | inr le ↦ inr (omega arith, omega arith) ]

-- the place of the next slot
abbrev pub next_slot : Tid → Tid
next_slot p = record { page = p.page; slot = p.slot + 1 }

-- whatever is at the place or behind it is there, or at the next or behind that
here_or_next : (p q : Tid) → IsFrom p q → (q ≡ p) ⊎ IsFrom (next_slot p) q
here_or_next p q (inl lt) = inr (inl lt)
here_or_next p q (inr (same, le)) = elim (cases_eq p.slot q.slot) [ inl level ↦ inl (same-tid q p (sym same) (sym level)) | inr ne ↦ inr (inr (same, grind arith)) ]

next_onward : (p q : Tid) → IsFrom (next_slot p) q → IsFrom p q
next_onward p q (inl lt) = inl lt
next_onward p q (inr (same, le)) = inr (same, (let below : p.slot + 1 ≤ q.slot = le in omega arith))

not_from_next : (p : Tid) → ¬ IsFrom (next_slot p) p
not_from_next p (inl lt) = absurd (let below : p.page < p.page = lt in omega arith)
not_from_next p (inr (same, le)) = absurd (let below : p.slot + 1 ≤ p.slot = le in omega arith)

-- no walk has begun
pub Gathers-none : {store : Tid → Option Version} {seen : Version → Type 0} (from : Tid) → Gathers store seen from from []
Gathers-none from = record {
  theirs = λ i row at. absurd (none-some row at);
  in_order = λ i j a b at bt lt. absurd (none-some a at);
  met = λ p row past stands. inl past;
  onward = λ p past. past;
}

-- the walk goes on to another place, and nothing is seen between
pub Gathers-pass : {store : Tid → Option Version} {seen : Version → Type 0} {from to next : Tid} {rows : List Row} → ((p : Tid) → IsFrom next p → IsFrom to p)
    → ((p : Tid) (row : Row) → IsFrom to p → Stands store seen p row → IsFrom next p) → Gathers store seen from to rows → Gathers store seen from next rows
Gathers-pass onward bare h = record {
  theirs = λ i row at. let was = h.theirs i row at in (was.0, was.1, λ later. was.2 (onward was.0 later), was.3);
  in_order = h.in_order;
  met = λ p row past stands. elim (h.met p row past stands) [
    | inl behind ↦ inl (bare p row behind stands)
    | inr some ↦ inr some
  ];
  onward = λ p later. h.onward p (onward p later);
}

-- the walk passes a slot where nothing is seen
pub Gathers-pass_slot : {store : Tid → Option Version} {seen : Version → Type 0} {from to : Tid} {rows : List Row} → ((row : Row) → ¬ Stands store seen to row)
    → Gathers store seen from to rows → Gathers store seen from (next_slot to) rows
Gathers-pass_slot {store} {seen} {from} {to} {rows} none h = Gathers-pass (next_onward to) (λ p row past stands. elim (here_or_next to p past) [
  | inl here ↦ absurd (none row (subst (λ q. Stands store seen q row) here stands))
  | inr behind ↦ behind
]) h

-- one version alone stands at a place
Stands-once : {store : Tid → Option Version} {seen : Version → Type 0} {p : Tid} {a b : Row} → Stands store seen p a → Stands store seen p b → a ≡ b
Stands-once p q = sym p.same_row ∙ (ap (λ (v : Version). v.row) (same_Some p.version q.version (sym p.here ∙ q.here)) ∙ q.same_row)

-- the walk meets the row in a slot
pub Gathers-one : {store : Tid → Option Version} {seen : Version → Type 0} {from to : Tid} {rows : List Row} (row : Row) → Stands store seen to row
    → Gathers store seen from to rows → Gathers store seen from (next_slot to) (rows ++ row ∷ [])
Gathers-one {store} {seen} {from} {to} {rows} row here h = record {
  theirs = λ i r at. elim (slice_get-push_cases rows row i r at) [
    | inl old ↦ (let was = h.theirs i r old in (was.0, was.1, λ later. was.2 (next_onward to was.0 later), was.3))
    | inr new ↦ (to, h.onward to (from_itself to), not_from_next to, subst (λ (r : Row). Stands store seen to r) (sym new.1) here)
  ];
  in_order = λ i j a b at bt lt. elim (slice_get-push_cases rows row j b bt) [
    | inl old ↦ elim (slice_get-push_cases rows row i a at) [
      | inl old' ↦ h.in_order i j a b old' old lt
      | inr new ↦ (let within : j < length rows = slice_get_within rows j b old in let last : i ≡ length rows = new.0 in absurd (omega arith))
    ]
    | inr new ↦ elim (slice_get-push_cases rows row i a at) [
      | inl old' ↦ (let was = h.theirs i a old' in (was.0, to, was.2, was.3, subst (λ (r : Row). Stands store seen to r) (sym new.1) here))
      | inr new' ↦ (let last : j ≡ length rows = new.0 in let last' : i ≡ length rows = new'.0 in absurd (omega arith))
    ]
  ];
  met = λ p r past stands. elim (h.met p r past stands) [
    | inl behind ↦ elim (here_or_next to p behind) [
      | inl same ↦ inr (length rows, slice_get-push_new rows row ∙ ap Some (Stands-once here (subst (λ q. Stands store seen q r) same stands)))
      | inr later ↦ inl later
    ]
    | inr some ↦ inr (some.0, slice_get-push_old rows row some.0 r some.1)
  ];
  onward = λ p later. h.onward p (next_onward to p later);
}

-- a walk goes on from where one ended that met nothing
pub Gathers-after : {store : Tid → Option Version} {seen : Version → Type 0} {from to next : Tid} {rows : List Row} → Gathers store seen from to [] → Gathers store seen to next rows → Gathers store seen from next rows
Gathers-after h later = record {
  theirs = λ i row at. let was = later.theirs i row at in (was.0, h.onward was.0 was.1, was.2, was.3);
  in_order = later.in_order;
  met = λ p row past stands. elim (h.met p row past stands) [
    | inl behind ↦ later.met p row behind stands
    | inr some ↦ absurd (none-some row some.1)
  ];
  onward = λ p past. h.onward p (later.onward p past);
}
