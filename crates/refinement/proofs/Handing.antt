-- What an engine meets on its way is what the model's cursor hands out, and what it has still to meet is what is left.
use Rattle.std.proofs.Common.{◌≡◌, ℕ, ◌<◌, ◌≤◌, max, List, length, Option, Some, sym, ap, ◌∙◌, subst, inl, inr, arith, slice_get}
use Rattle.std.specs.Prelude.{ℤ}
use Rattle.std.proofs.lemmas.Bool.{cases_lt}
use Rattle.std.proofs.lemmas.Option.{same_Some}
use Rattle.xid_circle.specs.declared.Tid.{Tid}
use Rattle.tuple_header.specs.declared.version.Row.{Row}
use Rattle.tuple_header.specs.Version.{Version}
use Rattle.history.specs.World.{Cursor}
use Rattle.history.specs.Cursors.{ComesBefore, keys_of, without, ArePart, AreNext, HandsOutPart}
use Rattle.refinement.specs.Heap.{RowPosition, Position, in_index, in_heap}
use Rattle.refinement.specs.Visible.{At}
use Rattle.refinement.specs.Cursors.{IsPastPosition, IsFrom, Comes, Remains, WalksOver, Stands, Gathers}
use Rattle.refinement.proofs.Rests.{AreOthers, left_is, left_kept, none_left, ComesBefore-irrefl, before_after}
use Rattle.refinement.proofs.CursorWalks.{Comes-back, Comes-from, from_itself}

-- of each key one row is still to come
same_row : {store : Tid → Option Version} {seen : Version → Type 0} {position : Position} {c : Cursor} → Remains store seen position c → (a b : Row) → Comes store seen position a → Comes store seen position b → a.key ≡ b.key → a ≡ b
same_row {store} {seen} {position} {c} h a b first second key = same_Some a b (sym (h.sound a first) ∙ (ap c.rest key ∙ h.sound b second))

-- the cursor has handed out the rows of these keys
abbrev pub past : List ℕ → Cursor → Cursor
past keys c = record c { rest = without keys c.rest }

module _ {store : Tid → Option Version} {seen : Version → Type 0} {index : ℕ} {low high : ℤ} {from to : Option RowPosition} {rows : List Row} {c : Cursor}
    (h : Remains store seen (in_index index low high from) c) (meets : WalksOver store seen index low high from to rows) where
  -- a row that is left comes after the walk
  left_after : (k : ℕ) (row : Row) → c.rest k ≡ Some row → AreOthers rows k → IsPastPosition index to row × Comes store seen (in_index index low high from) row × (row.key ≡ k)
  left_after k row is others = let was = h.there k row is in elim (meets.met row was.0) [
    | inl after ↦ (after, was.0, was.1)
    | inr some ↦ absurd (others some.0 some.1 some.2 (some.3 ∙ was.1))
  ]

  part_met : 0 < length rows → ArePart c.rest rows
  part_met some = record {
    some = some;
    of = record {
      theirs = λ i row at. h.sound row (meets.theirs i row at).0;
      once = λ i j a b at bt key. let is : a ≡ b = same_row h a b (meets.theirs i a at).0 (meets.theirs j b bt).0 key in elim (cases_lt i j) [
        | inl lt ↦ absurd (ComesBefore-irrefl index b (subst (λ (r : Row). ComesBefore index r b) is (meets.in_order i j a b at bt lt)))
        | inr le ↦ elim (cases_lt j i) [
          | inl lt ↦ absurd (ComesBefore-irrefl index b (subst (λ (r : Row). ComesBefore index b r) is (meets.in_order j i b a bt at lt)))
          | inr le' ↦ omega arith
        ]
      ];
    };
  }

  pub next_met : (n : ℕ) → 0 < length rows → length rows ≤ max 1 n → (length rows < max 1 n → (row : Row) → ¬ Comes store seen (in_index index low high to) row) → HandsOutPart c.order n c.rest rows
  next_met n some at_most none = subst (λ order. HandsOutPart order n c.rest rows) (sym h.order) next_rows
    where
      next_rows : AreNext index n c.rest rows
      next_rows = record {
        part = part_met some;
        in_order = meets.in_order;
        before_rest = λ i a b at is. let left = left_is rows c.rest b.key b is in before_after index to a b (meets.theirs i a at).1 (left_after b.key b left.0 left.1).0;
        at_most = at_most;
        all_left = λ less. none_left (without (keys_of rows) c.rest) (λ k row is. let left = left_is rows c.rest k row is in let later = left_after k row left.0 left.1 in none less row (Comes-from later.0 later.1));
      }

  pub rest_met : Remains store seen (in_index index low high to) (past (keys_of rows) c)
  rest_met = record {
    order = h.order;
    sound = λ row comes. let back = Comes-back (meets.onward row) comes in left_kept rows c.rest row.key row (h.sound row back)
        (λ i r at key. let was = meets.theirs i r at in was.1 (subst (λ (r : Row). IsPastPosition index to r) (sym (same_row h r row was.0 back key)) comes.to_come.after));
    there = λ k row is. let left = left_is rows c.rest k row is in let later = left_after k row left.0 left.1 in (Comes-from later.0 later.1, later.2);
  }

-- where a version of a row stands
Stands-comes : {store : Tid → Option Version} {seen : Version → Type 0} {from p : Tid} {row : Row} → IsFrom from p → Stands store seen p row → Comes store seen (in_heap from) row
Stands-comes {store} {seen} {from} {p} {row} past stands =
    record { place = p; version = stands.version; here = stands.here; shown = stands.shown; same_row = stands.same_row; to_come = past }

Comes-stands : {store : Tid → Option Version} {seen : Version → Type 0} {position : Position} {row : Row} (c : Comes store seen position row) → Stands store seen c.place row
Comes-stands c = record { version = c.version; here = c.here; shown = c.shown; same_row = c.same_row }

-- of each key one version is seen
abbrev pub SeenOnce : (Tid → Option Version) → (Version → Type 0) → Type 0
SeenOnce store seen = (p q : Tid) (v u : Version) → At store p v → At store q u → seen v → seen u → v.row.key ≡ u.row.key → p ≡ q

module _ {store : Tid → Option Version} {seen : Version → Type 0} {from to : Tid} {rows : List Row} {c : Cursor}
    (h : Remains store seen (in_heap from) c) (gathers : Gathers store seen from to rows) (one : SeenOnce store seen) where
  -- rows of one key stand at one place
  one_place : (p q : Tid) (a b : Row) → Stands store seen p a → Stands store seen q b → a.key ≡ b.key → p ≡ q
  one_place p q a b here there key =
      one p q here.version there.version here.here there.here here.shown there.shown
      (ap (λ (r : Row). r.key) here.same_row ∙ (key ∙ ap (λ (r : Row). r.key) (sym there.same_row)))

  apart : (i j : ℕ) (a b : Row) → slice_get rows i ≡ Some a → slice_get rows j ≡ Some b → a.key ≡ b.key → ¬ (i < j)
  apart i j a b at bt key lt =
      let places = gathers.in_order i j a b at bt lt in
      places.2 (subst (λ p. IsFrom p places.0) (one_place places.0 places.1 a b places.3 places.4 key) (from_itself places.0))

  pub part_gathered : (n : ℕ) → 0 < length rows → HandsOutPart c.order n c.rest rows
  part_gathered n some = subst (λ order. HandsOutPart order n c.rest rows) (sym h.order) part
    where
      part : ArePart c.rest rows
      part = record {
        some = some;
        of = record {
          theirs = λ i row at. let was = gathers.theirs i row at in h.sound row (Stands-comes was.1 was.3);
          once = λ i j a b at bt key. elim (cases_lt i j) [
            | inl lt ↦ absurd (apart i j a b at bt key lt)
            | inr le ↦ elim (cases_lt j i) [
              | inl lt ↦ absurd (apart j i b a bt at (sym key) lt)
              | inr le' ↦ omega arith
            ]
          ];
        };
      }

  pub rest_gathered : Remains store seen (in_heap to) (past (keys_of rows) c)
  rest_gathered = record {
    order = h.order;
    sound = λ row comes. left_kept rows c.rest row.key row (h.sound row (Stands-comes (gathers.onward comes.place comes.to_come) (Comes-stands comes)))
        (λ i r at key. let was = gathers.theirs i r at in was.2 (subst (IsFrom to) (sym (one_place was.0 comes.place r row was.3 (Comes-stands comes) key)) comes.to_come));
    there = λ k row is. let left = left_is rows c.rest k row is in let was = h.there k row left.0 in (later row k left.1 was.0 was.1, was.1);
  }
    where
      later : (row : Row) (k : ℕ) → AreOthers rows k → (comes : Comes store seen (in_heap from) row) → row.key ≡ k → Comes store seen (in_heap to) row
      later row k others comes key = elim (gathers.met comes.place row comes.to_come (Comes-stands comes)) [
        | inl behind ↦ Stands-comes behind (Comes-stands comes)
        | inr some ↦ absurd (others some.0 row some.1 key)
      ]
