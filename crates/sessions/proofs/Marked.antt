-- The sessions that are marked so far, where an index is made.
use Rattle.std.proofs.Common.{◌≡◌, ℕ, ◌<◌, ◌≤◌, List, length, Option, sym, subst}
use Rattle.sessions.specs.declared.session.Session.{Session}
use Rattle.sessions.specs.Places.{open_at, ArePlaces}
use Rattle.sessions.specs.Marks.{MarksPlace, MarksAll}

-- the places before this one are marked, and no other is yet
pub record MarksUpTo (number i : ℕ) (before now : List (Option Session)) : Type 0 where
  pub count : length now ≡ length before
  pub marked : (s : ℕ) → s < i → MarksPlace number (open_at before s) (open_at now s)
  pub rest : (s : ℕ) → i ≤ s → open_at now s ≡ open_at before s

-- The same places were used.
pub still-places : (number used : ℕ) (xs ys : List (Option Session)) → MarksAll number xs ys → ArePlaces used xs → ArePlaces used ys
still-places number used xs ys marks places = record {
  within = subst (λ n. used ≤ n) (sym marks.count) places.within;
  idle = λ s late. subst (λ o. MarksPlace number o (open_at ys s)) (places.idle s late) (marks.each s);
}
