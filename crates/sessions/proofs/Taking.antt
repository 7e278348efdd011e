-- A snapshot is taken session by session.
use Rattle.std.proofs.Common.{◌≡◌, ℕ, ◌+◌, ◌<◌, ◌≤◌, List, [], ◌∷◌, ◌++◌, length, take, drop, arith, length-append, get_or, Option, Some, None, refl, sym, ap, ◌∙◌, subst, if◌then◌else◌}
use Rattle.std.proofs.lemmas.List.{take_more, take-append-drop}
use Rattle.std.proofs.lemmas.List.Sums.{fold-append}
use Rattle.std.specs.List.{fold}
use Rattle.snapshot.specs.Snap.{Snap, taken, listing, empty_at, are_many}
use Rattle.sessions.specs.declared.session.Session.{Session}
use Rattle.sessions.specs.Session.{owns_of}

owns-push_idle : (xs : List (Option Session)) → owns_of (xs ++ None ∷ []) ≡ owns_of xs
owns-push_idle [] = refl
owns-push_idle (None ∷ xs) = owns-push_idle xs
owns-push_idle (Some e ∷ xs) = ap (λ owns. e.own.ids ∷ owns) (owns-push_idle xs)

owns-push_open : (xs : List (Option Session)) (e : Session) → owns_of (xs ++ Some e ∷ []) ≡ owns_of xs ++ e.own.ids ∷ []
owns-push_open [] e = refl
owns-push_open (None ∷ xs) e = owns-push_open xs e
owns-push_open (Some f ∷ xs) e = ap (λ owns. f.own.ids ∷ owns) (owns-push_open xs e)

pub taken-idle : (next : ℕ) (xs : List (Option Session)) (i : ℕ) (o : Option Session) → i < length xs → get_or xs i o ≡ o → o ≡ None → taken next (owns_of (take (i + 1) xs)) ≡ taken next (owns_of (take i xs))
taken-idle next xs i o within read none =
    ap (λ xs. taken next (owns_of xs)) (take_more xs i o within ∙ ap (λ o. take i xs ++ o ∷ []) (read ∙ none)) ∙ ap (taken next) (owns-push_idle (take i xs))

pub taken-open : (next : ℕ) (xs : List (Option Session)) (i : ℕ) (o : Option Session) (e : Session) → i < length xs → get_or xs i o ≡ o → o ≡ Some e
    → taken next (owns_of (take (i + 1) xs)) ≡ listing (taken next (owns_of (take i xs))) e.own.ids
taken-open next xs i o e within read some =
    ap (λ xs. taken next (owns_of xs)) (take_more xs i o within ∙ ap (λ o. take i xs ++ o ∷ []) (read ∙ some))
    ∙ (ap (taken next) (owns-push_open (take i xs) e) ∙ fold-append listing (empty_at next) (owns_of (take i xs)) (e.own.ids ∷ []))

pub none-unless : {T : Type 0} (o : Option T) → ((x : T) → o ≡ Some x → ⊥) → o ≡ None
none-unless None h = refl
none-unless (Some x) h = absurd (h x refl)

-- A snapshot lists more and more.

list-longer : (s : Snap) (own : List ℕ) → length s.listed ≤ length (listing s own).listed
list-longer s [] = omega arith
list-longer s (top ∷ children) = omega (arith, length-append s.listed (top ∷ (if are_many children then [] else children)))

lists-longer : (s : Snap) (owns : List (List ℕ)) → length s.listed ≤ length (fold listing s owns).listed
lists-longer s [] = omega arith
lists-longer s (own ∷ owns) = let one = list-longer s own in let more = lists-longer (listing s own) owns in omega arith

owns-append : (xs ys : List (Option Session)) → owns_of (xs ++ ys) ≡ owns_of xs ++ owns_of ys
owns-append [] ys = refl
owns-append (None ∷ xs) ys = owns-append xs ys
owns-append (Some e ∷ xs) ys = ap (λ owns. e.own.ids ∷ owns) (owns-append xs ys)

-- what the first sessions list, all list
pub taken-longer : (next : ℕ) (xs : List (Option Session)) (i : ℕ) → length (taken next (owns_of (take i xs))).listed ≤ length (taken next (owns_of xs)).listed
taken-longer next xs i =
    let whole : taken next (owns_of xs) ≡ fold listing (taken next (owns_of (take i xs))) (owns_of (drop i xs)) =
    ap (λ xs. taken next (owns_of xs)) (sym (take-append-drop i xs)) ∙ (ap (taken next) (owns-append (take i xs) (drop i xs)) ∙ fold-append listing (empty_at next) (owns_of (take i xs)) (owns_of (drop i xs))) in
    subst (λ (s : Snap). length (taken next (owns_of (take i xs))).listed ≤ length s.listed) (sym whole) (lists-longer (taken next (owns_of (take i xs))) (owns_of (drop i xs)))
