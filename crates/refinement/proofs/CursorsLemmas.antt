-- What a cursor has still to hand out, after a change of the versions and of what is seen of them.
use Rattle.std.proofs.Common.{◌≡◌, Option, Some, None, refl, sym, ap, ◌∙◌, subst, inl, inr}
use Rattle.std.specs.Prelude.{IsSome}
use Rattle.std.proofs.lemmas.Option.{same_Some, none-some}
use Rattle.xid_circle.specs.declared.Tid.{Tid}
use Rattle.xid_circle.proofs.Tids.{cases-tid}
use Rattle.tuple_header.specs.declared.version.Row.{Row}
use Rattle.tuple_header.specs.Version.{Version}
use Rattle.history.specs.World.{Cursor}
use Rattle.refinement.specs.Heap.{Position}
use Rattle.refinement.specs.Visible.{At}
use Rattle.refinement.specs.Changes.{AddsVersion, Alters, MayRemove}
use Rattle.refinement.specs.Cursors.{Comes, Remains, CursorAgrees}
use Rattle.refinement.proofs.Statuses.{none_given}
use Rattle.refinement.proofs.Versions.{Adds-cases, Adds-old, Alters-cases, Alters-same}

-- each version that is seen stands where one with its row stood that was seen, and the other way round
pub record KeepsSeen (store store' : Tid → Option Version) (V V' : Version → Type 0) : Type 0 where
  pub to : (p : Tid) (v : Version) → At store p v → V v → (u : Version) × At store' p u × V' u × (u.row ≡ v.row)
  pub back : (p : Tid) (u : Version) → At store' p u → V' u → (v : Version) × At store p v × V v × (v.row ≡ u.row)

KeepsSeen-sym : {store store' : Tid → Option Version} {V V' : Version → Type 0} → KeepsSeen store store' V V' → KeepsSeen store' store V' V
KeepsSeen-sym keeps = record { to = keeps.back; back = keeps.to }

Comes-keeps : {store store' : Tid → Option Version} {V V' : Version → Type 0} {position : Position} {row : Row} → KeepsSeen store store' V V' → Comes store V position row → Comes store' V' position row
Comes-keeps keeps c = let now = keeps.to c.place c.version c.here c.shown in
    record { place = c.place; version = now.0; here = now.1; shown = now.2; same_row = now.3 ∙ c.same_row; to_come = c.to_come }

pub Remains-keeps : {store store' : Tid → Option Version} {V V' : Version → Type 0} {position : Position} {c : Cursor} → KeepsSeen store store' V V' → Remains store V position c → Remains store' V' position c
Remains-keeps keeps h = record {
  order = h.order;
  sound = λ row comes. h.sound row (Comes-keeps (KeepsSeen-sym keeps) comes);
  there = λ k row is. let was = h.there k row is in (Comes-keeps keeps was.0, was.1);
}

pub CursorAgrees-keeps : {store store' : Tid → Option Version} {V V' : Version → Type 0} {position : Option Position} {c : Option Cursor} → (IsSome position → KeepsSeen store store' V V')
    → CursorAgrees store V position c → CursorAgrees store' V' position c
CursorAgrees-keeps keeps h = record {
  closed = h.closed;
  opened = λ p is. let was = h.opened p is in (was.0, was.1, Remains-keeps (keeps (subst (λ o. IsSome o) (sym is) refl)) was.2);
}

-- where the model has no cursor, whatever changes
pub CursorAgrees-bare : {store store' : Tid → Option Version} {V V' : Version → Type 0} {position : Option Position} {c : Option Cursor} → c ≡ None → CursorAgrees store V position c → CursorAgrees store' V' position c
CursorAgrees-bare bare h = record {
  closed = h.closed;
  opened = λ p is. let was = h.opened p is in absurd (none-some was.0 (sym bare ∙ was.1));
}

-- where neither has
pub CursorAgrees-none : {store : Tid → Option Version} {V : Version → Type 0} {position : Option Position} {c : Option Cursor} → position ≡ None → c ≡ None → CursorAgrees store V position c
CursorAgrees-none is bare = record { closed = λ _. bare; opened = λ p at. absurd (none-some p (sym is ∙ at)) }

-- where both have one
pub CursorAgrees-some : {store : Tid → Option Version} {V : Version → Type 0} {p : Position} {model : Cursor} → Remains store V p model → CursorAgrees store V (Some p) (Some model)
CursorAgrees-some {store} {V} {p} {model} remains = record {
  closed = λ is. absurd (none-some p (sym is));
  opened = λ q is. (model, refl, subst (λ (q : Position). Remains store V q model) (same_Some p q is) remains);
}

-- the position of one that has a cursor
pub position_of : (o : Option Position) → IsSome o → (p : Position) × (o ≡ Some p)
position_of None some = cc
position_of (Some p) some = (p, refl)

pub some_model : {store : Tid → Option Version} {V : Version → Type 0} {position : Option Position} {c : Option Cursor} → IsSome position → CursorAgrees store V position c → IsSome c
some_model {store} {V} {position} {c} some h =
    let p = position_of position some in let model = h.opened p.0 p.1 in subst (λ o. IsSome o) (sym model.1) refl

-- where the model has no cursor, the session has none
pub bare_position : {store : Tid → Option Version} {V : Version → Type 0} {position : Option Position} {c : Option Cursor} → c ≡ None → CursorAgrees store V position c → ¬ IsSome position
bare_position {store} {V} {position} {c} bare h some = none_given c bare (some_model some h)

-- The versions that are seen stay where they are.

-- the same are seen
pub KeepsSeen-same : {store : Tid → Option Version} {V V' : Version → Type 0} → ((p : Tid) (v : Version) → At store p v → V v → V' v) → ((p : Tid) (v : Version) → At store p v → V' v → V v) → KeepsSeen store store V V'
KeepsSeen-same to back = record { to = λ p v at seen. (v, at, to p v at seen, refl); back = λ p v at seen. (v, at, back p v at seen, refl) }

-- a new version that is not seen
pub KeepsSeen-add : {store store' : Tid → Option Version} {place : Tid} {new : Version} {V : Version → Type 0} → AddsVersion store store' place new → ¬ V new → KeepsSeen store store' V V
KeepsSeen-add {store} {store'} {place} {new} {V} adds hidden = record {
  to = λ p v at seen. (v, Adds-old adds p v at, seen, refl);
  back = λ p v at seen. elim (Adds-cases adds p v at) [ inl before ↦ (v, before, seen, refl) | inr now ↦ absurd (hidden (subst V now.1 seen)) ];
}

-- a version that is changed, and seen as before
pub KeepsSeen-alter : {store store' : Tid → Option Version} {place : Tid} {old new : Version} {V : Version → Type 0} → Alters store store' place old new → new.row ≡ old.row → (V old → V new) → (V new → V old)
    → KeepsSeen store store' V V
KeepsSeen-alter {store} {store'} {place} {old} {new} {V} alters row to back = record {
  to = λ p v at seen. elim (cases-tid p place) [
    | inl same ↦ (let is : v ≡ old = Alters-same alters v (ap store (sym same) ∙ at) in
        (new, subst (λ q. At store' q new) (sym same) alters.here, to (subst V is seen), row ∙ ap (λ (u : Version). u.row) (sym is)))
    | inr ne ↦ (v, alters.others p ne ∙ at, seen, refl)
  ];
  back = λ p u at seen. elim (Alters-cases alters p u at) [
    | inl same ↦ (old, subst (λ q. At store q old) (sym same.0) alters.before, back (subst V same.1 seen), sym row ∙ ap (λ (u : Version). u.row) (sym same.1))
    | inr other ↦ (u, other.1, seen, refl)
  ];
}

-- versions that are not seen go
pub KeepsSeen-removes : {store store' : Tid → Option Version} {P V : Version → Type 0} → MayRemove store store' P → ((p : Tid) (v : Version) → At store p v → P v → ¬ V v) → KeepsSeen store store' V V
KeepsSeen-removes removes unseen = record {
  to = λ p v at seen. (v, elim (removes.gone p v at) [ inl stays ↦ stays | inr goes ↦ absurd (unseen p v at goes seen) ], seen, refl);
  back = λ p v at seen. (v, removes.kept p v at, seen, refl);
}
