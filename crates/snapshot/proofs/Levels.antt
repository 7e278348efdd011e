-- Levels of own ids: which of them lack an id, and what giving an id to the lowest of these changes.
use Rattle.std.proofs.Common.{◌≡◌, ◌≢◌, ℕ, zero, suc, ◌≤◌, ◌==◌, Bool, true, false, List, [], ◌∷◌, ◌++◌, length, Some, None, slice_get, arith, refl, sym, ap, ◌∙◌, subst, ⊎_elim, append_assoc, length-append}
use Rattle.std.proofs.lemmas.Bool.{cond-true, cond-false, eq-eqb, ne_eqb, eqb-true, eqb-false}
use Rattle.std.proofs.lemmas.List.{append-nil}
use Rattle.std.proofs.lemmas.List.Elements.{Contains-append_left, Contains-append_right}
use Rattle.std.specs.List.{Contains}
use Rattle.xid_circle.proofs.Members.{Contains-first, Contains-rest, Contains-cases, Contains-none}
use Rattle.snapshot.specs.Own.{unassigned_levels, current_xid, saved_with, saved_with_each, ArePrefixes, AreDistinct}

-- lists of numbers

get-after : (before since : List ℕ) (x : ℕ) → slice_get (before ++ x ∷ since) (length before) ≡ Some x
get-after [] since x = refl
get-after (y ∷ before) since x = get-after before since x

get-among : (ids : List ℕ) (i x : ℕ) → slice_get ids i ≡ Some x → Contains ids x
get-among [] i x e = absurd (cc)
get-among (y ∷ ids) zero x e = let same : y ≡ x = (let s : Some y ≡ Some x = e in cc) in subst (Contains (y ∷ ids)) same (Contains-first y ids)
get-among (y ∷ ids) (suc i) x e = Contains-rest y x ids (get-among ids i x e)

-- lists in which no number is twice

apart : (before since : List ℕ) (x : ℕ) → AreDistinct (before ++ since) → Contains since x → ¬ Contains before x
apart [] since x d c among = Contains-none x among
apart (b ∷ before) since x d c among =
    ⊎_elim (λ e. d.0 (subst (Contains (before ++ since)) (sym e) (Contains-append_right before since x c))) (λ t. apart before since x d.1 c t) (Contains-cases b x before among)

prefix : (before since : List ℕ) → AreDistinct (before ++ since) → AreDistinct before
prefix [] since d = tt
prefix (b ∷ before) since d = ((λ c. d.0 (Contains-append_left before since b c)), prefix before since d.1)

pub distinct-prefix : (ids before since : List ℕ) → AreDistinct ids → ids ≡ before ++ since → AreDistinct before
distinct-prefix ids before since d e = prefix before since (subst AreDistinct e d)

pub distinct-after : (ids before since : List ℕ) → AreDistinct ids → ids ≡ before ++ since → (x : ℕ) → Contains since x → ¬ Contains before x
distinct-after ids before since d e x c = apart before since x (subst AreDistinct e d) c

-- levels that lack an id

-- a level whose ids are those of the savepoint lacks one
pub unassigned_levels-more : (ids before : List ℕ) (saved : List (List ℕ)) → length ids ≡ length before → unassigned_levels ids (before ∷ saved) ≡ suc (unassigned_levels before saved)
unassigned_levels-more ids before saved e = cond-true (length ids == length before) (suc (unassigned_levels before saved)) 0 (eq-eqb (length ids) (length before) e)

pub unassigned_levels-nothing : (ids before : List ℕ) (saved : List (List ℕ)) → length ids ≢ length before → unassigned_levels ids (before ∷ saved) ≡ 0
unassigned_levels-nothing ids before saved e = cond-false (length ids == length before) (suc (unassigned_levels before saved)) 0 (ne_eqb (length ids) (length before) e)

unassigned_levels-less : (ids before : List ℕ) (saved : List (List ℕ)) (n : ℕ) → unassigned_levels ids (before ∷ saved) ≡ suc n → (length ids ≡ length before) × (unassigned_levels before saved ≡ n)
unassigned_levels-less ids before saved n e = cases (length ids == length before) refl
  where
    cases : (b : Bool) → (length ids == length before) ≡ b → (length ids ≡ length before) × (unassigned_levels before saved ≡ n)
    cases true t = let same = eqb-true (length ids) (length before) t in let more = unassigned_levels-more ids before saved same in (same, (omega arith))
    cases false t = let none = unassigned_levels-nothing ids before saved (eqb-false (length ids) (length before) t) in absurd (omega arith)

unassigned_levels-of_some : (x : ℕ) (ids : List ℕ) → unassigned_levels (x ∷ ids) [] ≡ 0
unassigned_levels-of_some x ids = cond-false (length (x ∷ ids) == 0) 1 0 (ne_eqb (length (x ∷ ids)) 0 (λ h. absurd (omega arith)))

unassigned_levels-first : (ids : List ℕ) (n : ℕ) → unassigned_levels ids [] ≡ suc n → ids ≡ []
unassigned_levels-first [] n e = refl
unassigned_levels-first (x ∷ ids) n e = absurd (let none = unassigned_levels-of_some x ids in omega arith)

unassigned_levels-of_one : (ids : List ℕ) (x : ℕ) → unassigned_levels (ids ++ x ∷ []) [] ≡ 0
unassigned_levels-of_one ids x = cond-false (length (ids ++ x ∷ []) == 0) 1 0 (ne_eqb (length (ids ++ x ∷ [])) 0 (λ h. absurd (let long = length-append ids (x ∷ []) in omega arith)))

pub unassigned_levels-within : (saved : List (List ℕ)) (ids : List ℕ) → unassigned_levels ids saved ≤ suc (length saved)
unassigned_levels-within [] [] = omega arith
unassigned_levels-within [] (x ∷ ids) = let none = unassigned_levels-of_some x ids in omega arith
unassigned_levels-within (before ∷ saved) ids = let rest = unassigned_levels-within saved before in cases (length ids == length before) refl rest
  where
    cases : (b : Bool) → (length ids == length before) ≡ b → unassigned_levels before saved ≤ suc (length saved) → unassigned_levels ids (before ∷ saved) ≤ suc (length (before ∷ saved))
    cases true t rest = let more = unassigned_levels-more ids before saved (eqb-true (length ids) (length before) t) in omega arith
    cases false t rest = let none = unassigned_levels-nothing ids before saved (eqb-false (length ids) (length before) t) in omega arith

-- the id of the newest level that has one

pub level-below : (ids before : List ℕ) (saved : List (List ℕ)) → length ids ≡ length before → current_xid ids (before ∷ saved) ≡ current_xid before saved
level-below ids before saved e = cond-true (length ids == length before) (current_xid before saved) (slice_get ids (length before)) (eq-eqb (length ids) (length before) e)

pub level-own : (ids before : List ℕ) (saved : List (List ℕ)) → length ids ≢ length before → current_xid ids (before ∷ saved) ≡ slice_get ids (length before)
level-own ids before saved e = cond-false (length ids == length before) (current_xid before saved) (slice_get ids (length before)) (ne_eqb (length ids) (length before) e)

-- it is that of the level below where the newest has none
level-same : (ids before : List ℕ) (saved : List (List ℕ)) → ids ≡ before ++ [] → current_xid ids (before ∷ saved) ≡ current_xid before saved
level-same ids before saved e = level-below ids before saved (ap length (e ∙ append-nil before))

-- else it is the first since the savepoint
level-first : (ids before since : List ℕ) (saved : List (List ℕ)) (y : ℕ) → ids ≡ before ++ y ∷ since → current_xid ids (before ∷ saved) ≡ Some y
level-first ids before since saved y e =
    let long = ap length e ∙ length-append before (y ∷ since) in
    level-own ids before saved (λ h. absurd (omega arith)) ∙ ap (λ l. slice_get l (length before)) e ∙ get-after before since y

pub level-among : (ids : List ℕ) (saved : List (List ℕ)) (x : ℕ) → ArePrefixes ids saved → current_xid ids saved ≡ Some x → Contains ids x
level-among ids [] x prefixes is = get-among ids 0 x is
level-among ids (before ∷ saved) x ([], e, prefixes) is =
    subst (λ l. Contains l x) (sym (e ∙ append-nil before)) (level-among before saved x prefixes (sym (level-same ids before saved e) ∙ is))
level-among ids (before ∷ saved) x (y ∷ since, e, prefixes) is =
    let same : y ≡ x = (let s : Some y ≡ Some x = sym (level-first ids before since saved y e) ∙ is in cc) in
    subst (λ l. Contains l x) (sym e) (Contains-append_right before (y ∷ since) x (subst (Contains (y ∷ since)) same (Contains-first y since)))

-- where the newest level has an id it is one of the ids, whatever there was at the savepoints
pub level-mine : (ids : List ℕ) (saved : List (List ℕ)) (x : ℕ) → unassigned_levels ids saved ≡ 0 → current_xid ids saved ≡ Some x → Contains ids x
level-mine ids [] x none is = get-among ids 0 x is
level-mine ids (before ∷ saved) x none is = cases (length ids == length before) refl
  where
    cases : (b : Bool) → (length ids == length before) ≡ b → Contains ids x
    cases true t = absurd (let more = unassigned_levels-more ids before saved (eqb-true (length ids) (length before) t) in omega arith)
    cases false t = get-among ids (length before) x (sym (level-own ids before saved (eqb-false (length ids) (length before) t)) ∙ is)

-- no level has an id where there is none, and else one has
pub level-none : (saved : List (List ℕ)) → ArePrefixes [] saved → current_xid [] saved ≡ None
level-none [] prefixes = refl
level-none ([] ∷ saved) (since, e, prefixes) = level-below [] [] saved refl ∙ level-none saved prefixes
level-none ((y ∷ before) ∷ saved) (since, e, prefixes) = absurd (let long = ap length e in omega arith)

pub level-some : (x : ℕ) (ids : List ℕ) (saved : List (List ℕ)) → ArePrefixes (x ∷ ids) saved → (y : ℕ) × (current_xid (x ∷ ids) saved ≡ Some y)
level-some x ids [] prefixes = (x, refl)
level-some x ids (before ∷ saved) (y ∷ since, e, prefixes) = (y, level-first (x ∷ ids) before since saved y e)
level-some x ids ([] ∷ saved) ([], e, prefixes) = absurd (let long = ap length e in omega arith)
level-some x ids ((z ∷ before) ∷ saved) ([], e, prefixes) =
    let below = level-some z before saved prefixes in (below.0, level-same (x ∷ ids) (z ∷ before) saved e ∙ below.1)

-- there is one where the newest level has one
pub unassigned_levels-level : (ids : List ℕ) (saved : List (List ℕ)) → ArePrefixes ids saved → unassigned_levels ids saved ≡ 0 → (x : ℕ) × (current_xid ids saved ≡ Some x)
unassigned_levels-level [] [] prefixes none = absurd (let more : unassigned_levels [] [] ≡ 1 = refl in omega arith)
unassigned_levels-level (y ∷ ids) [] prefixes none = (y, refl)
unassigned_levels-level ids (before ∷ saved) ([], e, prefixes) none =
    absurd (let same : length ids ≡ length before = ap length (e ∙ append-nil before) in let more = unassigned_levels-more ids before saved same in omega arith)
unassigned_levels-level ids (before ∷ saved) (y ∷ since, e, prefixes) none = (y, level-first ids before since saved y e)

-- it is the newest level's own then
pub level-newest : (ids : List ℕ) (saved : List (List ℕ)) (x : ℕ) → ArePrefixes ids saved → AreDistinct ids → unassigned_levels ids saved ≡ 0 → current_xid ids saved ≡ Some x
    → (before : List ℕ) → slice_get saved 0 ≡ Some before → ¬ Contains before x
level-newest ids [] x prefixes d none is before at = absurd (cc)
level-newest ids (b ∷ saved) x ([], e, prefixes) d none is before at =
    absurd (let same : length ids ≡ length b = ap length (e ∙ append-nil b) in let more = unassigned_levels-more ids b saved same in omega arith)
level-newest ids (b ∷ saved) x (y ∷ since, e, prefixes) d none is before at =
    let same : b ≡ before = (let s : Some b ≡ Some before = at in cc) in
    let it : y ≡ x = (let s : Some y ≡ Some x = sym (level-first ids b since saved y e) ∙ is in cc) in
    let there : Contains (y ∷ since) x = subst (Contains (y ∷ since)) it (Contains-first y since) in
    subst (λ l. ¬ Contains l x) same (distinct-after ids b (y ∷ since) d e x there)

-- an id is added to the lowest level that lacks one

same-prefix : (ids before since : List ℕ) → ids ≡ before ++ since → length ids ≡ length before → ids ≡ before
same-prefix ids before [] e same = e ∙ append-nil before
same-prefix ids before (y ∷ since) e same = absurd (let long = ap length e ∙ length-append before (y ∷ since) in omega arith)

pub unassigned_levels-added : (ids : List ℕ) (saved : List (List ℕ)) (x n : ℕ) → unassigned_levels ids saved ≡ suc n → unassigned_levels (ids ++ x ∷ []) (saved_with n x saved) ≡ n
unassigned_levels-added ids [] x zero e = unassigned_levels-of_one ids x
unassigned_levels-added ids [] x (suc n) e = absurd (let most = unassigned_levels-within [] ids in omega arith)
unassigned_levels-added ids (before ∷ saved) x zero e =
    let less = unassigned_levels-less ids before saved zero e in
    let same = less.0 in
    let long = length-append ids (x ∷ []) in
    unassigned_levels-nothing (ids ++ x ∷ []) before saved (λ h. absurd (omega arith))
unassigned_levels-added ids (before ∷ saved) x (suc n) e =
    let less = unassigned_levels-less ids before saved (suc n) e in
    let same = less.0 in
    let long = length-append ids (x ∷ []) in
    let long_before = length-append before (x ∷ []) in
    unassigned_levels-more (ids ++ x ∷ []) (before ++ x ∷ []) (saved_with n x saved) (omega arith) ∙ ap suc (unassigned_levels-added before saved x n less.1)

-- that id is then the one of the newest level that has one
pub level-added : (ids : List ℕ) (saved : List (List ℕ)) (x n : ℕ) → unassigned_levels ids saved ≡ suc n → current_xid (ids ++ x ∷ []) (saved_with n x saved) ≡ Some x
level-added ids [] x zero e = rw (unassigned_levels-first ids zero e) refl
level-added ids [] x (suc n) e = rw (unassigned_levels-first ids (suc n) e) refl
level-added ids (before ∷ saved) x zero e =
    let less = unassigned_levels-less ids before saved zero e in
    let same = less.0 in
    let long = length-append ids (x ∷ []) in
    level-own (ids ++ x ∷ []) before saved (λ h. absurd (omega arith)) ∙ ap (slice_get (ids ++ x ∷ [])) (sym same) ∙ get-after ids [] x
level-added ids (before ∷ saved) x (suc n) e =
    let less = unassigned_levels-less ids before saved (suc n) e in
    let same = less.0 in
    let long = length-append ids (x ∷ []) in
    let long_before = length-append before (x ∷ []) in
    level-below (ids ++ x ∷ []) (before ++ x ∷ []) (saved_with n x saved) (omega arith) ∙ level-added before saved x n less.1

pub prefixes-added : (ids : List ℕ) (saved : List (List ℕ)) (x n : ℕ) → ArePrefixes ids saved → unassigned_levels ids saved ≡ suc n → ArePrefixes (ids ++ x ∷ []) (saved_with n x saved)
prefixes-added ids [] x zero prefixes e = tt
prefixes-added ids [] x (suc n) prefixes e = tt
prefixes-added ids (before ∷ saved) x zero prefixes e =
    (prefixes.0 ++ x ∷ [], ap (λ l. l ++ x ∷ []) prefixes.1 ∙ append_assoc before prefixes.0 (x ∷ []), prefixes.2)
prefixes-added ids (before ∷ saved) x (suc n) prefixes e =
    let less = unassigned_levels-less ids before saved (suc n) e in
    let same = same-prefix ids before prefixes.0 prefixes.1 less.0 in
    ([], ap (λ l. l ++ x ∷ []) same ∙ sym (append-nil (before ++ x ∷ [])), prefixes-added before saved x n prefixes.2 less.1)

-- each level that lacks an id is given one

pub unassigned_levels-given : (given ids : List ℕ) (saved : List (List ℕ)) → length given ≡ unassigned_levels ids saved → unassigned_levels (ids ++ given) (saved_with_each given saved) ≡ 0
unassigned_levels-given [] ids saved e = subst (λ l. unassigned_levels l saved ≡ 0) (sym (append-nil ids)) (sym e)
unassigned_levels-given (x ∷ given) ids saved e =
    let added = unassigned_levels-added ids saved x (length given) (sym e) in
    let rest = unassigned_levels-given given (ids ++ x ∷ []) (saved_with (length given) x saved) (sym added) in
    subst (λ l. unassigned_levels l (saved_with_each (x ∷ given) saved) ≡ 0) (append_assoc ids (x ∷ []) given) rest

pub prefixes-given : (given ids : List ℕ) (saved : List (List ℕ)) → ArePrefixes ids saved → length given ≡ unassigned_levels ids saved → ArePrefixes (ids ++ given) (saved_with_each given saved)
prefixes-given [] ids saved prefixes e = subst (λ l. ArePrefixes l saved) (sym (append-nil ids)) prefixes
prefixes-given (x ∷ given) ids saved prefixes e =
    let added = unassigned_levels-added ids saved x (length given) (sym e) in
    let rest = prefixes-given given (ids ++ x ∷ []) (saved_with (length given) x saved) (prefixes-added ids saved x (length given) prefixes (sym e)) (sym added) in
    subst (λ l. ArePrefixes l (saved_with_each (x ∷ given) saved)) (append_assoc ids (x ∷ []) given) rest
