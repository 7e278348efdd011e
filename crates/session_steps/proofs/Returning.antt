-- What the ids of a session keep when it sets a savepoint, returns to one, or releases it.
use Rattle.std.proofs.Common.{◌≡◌, ℕ, List, [], ◌∷◌, ◌++◌, Some, false, slice_get, sym, ap, ◌∙◌, subst, inl, inr, append_assoc}
use Rattle.std.specs.Prelude.{Contains}
use Rattle.std.proofs.lemmas.List.{append-nil}
use Rattle.xid_circle.proofs.Members.{Contains-first, Contains-rest, Contains-cases, Contains-none}
use Rattle.commit_status.specs.Window.{Window, top_of}
use Rattle.snapshot.specs.Own.{Own, older, ArePrefixes, AreDistinct}
use Rattle.snapshot.proofs.Levels.{distinct-prefix}
use Rattle.sessions.specs.declared.session.Session.{Session}
use Rattle.session_steps.specs.Agrees.{SessionKeeps}
use Rattle.session_steps.proofs.StateLemmas.{with_own}

-- the ids stay
keeps-ids : (w : Window) (e : Session) (own : Own) → own.ids ≡ e.own.ids → ArePrefixes e.own.ids own.saved → SessionKeeps w e → SessionKeeps w (with_own e own)
keeps-ids w e own ids prefixes h = record {
  snapshot = h.snapshot;
  for_cursor = h.for_cursor;
  topmost = λ x mine. ap (λ xs. slice_get xs 0) ids ∙ h.topmost x (subst (λ xs. Contains xs x) ids mine);
  prefixes = subst (λ xs. ArePrefixes xs own.saved) (sym ids) prefixes;
  distinct = subst AreDistinct (sym ids) h.distinct;
}

-- there is one savepoint more, at which the ids are those that there are now
pub record SetsSavepoint (own own' : Own) : Type 0 where
  pub ids : own'.ids ≡ own.ids
  pub saved : own'.saved ≡ own.ids ∷ own.saved

-- the newest savepoint is forgotten, and the ids stay
pub record Releases (own own' : Own) : Type 0 where
  pub ids : own'.ids ≡ own.ids
  pub saved : own'.saved ≡ older own.saved

pub keeps-saved : (w : Window) (e : Session) (own : Own) → SetsSavepoint e.own own → SessionKeeps w e → SessionKeeps w (with_own e own)
keeps-saved w e own sets h = keeps-ids w e own sets.ids (subst (λ saved. ArePrefixes e.own.ids saved) (sym sets.saved) ([], sym (append-nil e.own.ids), h.prefixes)) h

-- what is a prefix of a prefix is one
prefixes-below : (ids before since : List ℕ) (saved : List (List ℕ)) → ids ≡ before ++ since → ArePrefixes before saved → ArePrefixes ids saved
prefixes-below ids before since [] is prefixes = tt
prefixes-below ids before since (prefix ∷ saved) is prefixes = (prefixes.0 ++ since, is ∙ (ap (λ xs. xs ++ since) prefixes.1 ∙ append_assoc prefix prefixes.0 since), prefixes.2)

pub keeps-released : (w : Window) (e : Session) (own : Own) → Releases e.own own → SessionKeeps w e → SessionKeeps w (with_own e own)
keeps-released w e own releases h = keeps-ids w e own releases.ids (subst (λ saved. ArePrefixes e.own.ids saved) (sym releases.saved) (below e.own.ids e.own.saved h.prefixes)) h
  where
    below : (ids : List ℕ) (saved : List (List ℕ)) → ArePrefixes ids saved → ArePrefixes ids (older saved)
    below ids [] prefixes = tt
    below ids (before ∷ saved) prefixes = prefixes-below ids before prefixes.0 saved prefixes.1 prefixes.2

-- Those since the savepoint go.

first-prefix : (ids xs : List ℕ) (top x : ℕ) → Contains ids x → slice_get (ids ++ xs) 0 ≡ Some top → slice_get ids 0 ≡ Some top
first-prefix [] xs top x among at = absurd (Contains-none x among)
first-prefix (y ∷ ids) xs top x among at = at

contains-prefix : (ids xs : List ℕ) (x : ℕ) → Contains ids x → Contains (ids ++ xs) x
contains-prefix [] xs x among = absurd (Contains-none x among)
contains-prefix (y ∷ ids) xs x among = elim (Contains-cases y x ids among) [
  | inl here ↦ subst (λ z. Contains (y ∷ (ids ++ xs)) z) here (Contains-first y (ids ++ xs))
  | inr there ↦ Contains-rest y x (ids ++ xs) (contains-prefix ids xs x there)
]

-- the session that has returned
abbrev pub returned : Session → Own → Session
returned e own = record e { own = own; failed = false }

pub keeps-returned : (w : Window) (e : Session) (own : Own) (before since : List ℕ) (saved : List (List ℕ)) → own.ids ≡ before → own.saved ≡ e.own.saved → e.own.ids ≡ own.ids ++ since → e.own.saved ≡ before ∷ saved → SessionKeeps w e
    → SessionKeeps w (returned e own)
keeps-returned w e own before since saved now same ids is h = record {
  snapshot = h.snapshot;
  for_cursor = h.for_cursor;
  topmost = λ x mine. first-prefix own.ids since (top_of w x) x mine (ap (λ xs. slice_get xs 0) (sym ids) ∙ h.topmost x (subst (λ xs. Contains xs x) (sym ids) (contains-prefix own.ids since x mine)));
  prefixes = let below : ArePrefixes e.own.ids (before ∷ saved) = subst (λ xs. ArePrefixes e.own.ids xs) is h.prefixes in
      rw (now, same, is) ([], sym (append-nil before), below.2);
  distinct = distinct-prefix e.own.ids own.ids since h.distinct ids;
}
