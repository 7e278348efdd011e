-- Statuses and children, as what is known of each id.
use Rattle.std.proofs.Common.{◌≡◌, ◌≢◌, ℕ, zero, suc, ◌+◌, ◌-◌, ◌<◌, ◌≤◌, ◌⊎◌, ◌==◌, if◌then◌else◌, false, true, List, [], ◌∷◌, ◌++◌, length, map, set, take, drop, Option, Some, None, get_or, nat_lt, arith, inl, inr, ⊎_elim, refl, sym, ap, ◌∙◌, subst, slice_get}
use Rattle.std.proofs.lemmas.List.{append-nil, take_all, drop_all}
use Rattle.std.proofs.lemmas.Option.{slice_get_read, slice_get_past, slice_get-get_or}
use Rattle.std.proofs.lemmas.Bool.{cases_eq, cases_lt}
use Rattle.std.proofs.lemmas.Bool.Decides.{nat_tests}
use Rattle.commit_status.specs.declared.status.Status.{Status}
use Rattle.commit_status.specs.declared.entries.Child.{Child}
use Rattle.commit_status.specs.declared.status.Status.TheVariants.{InProgress}
use Rattle.commit_status.specs.Window.{parent_in, parent_at}
use Rattle.commit_status.specs.Changes.{given_entry}
use Rattle.commit_status.specs.Entries.{EntriesView, known_with, parent_for, known_from, with_child, StandInOrder, AreWithin, AreChildren, placed_earlier}

-- What is known of one id after another.

pub entries-count : (at : ℕ) (ss : List Status) (cs : List Child) → length (known_from at ss cs) ≡ length ss
entries-count at [] cs = refl
entries-count at (s ∷ ss) cs = ap suc (entries-count (suc at) ss cs)

next-place : (at k : ℕ) → suc at + k ≡ at + suc k
next-place at k = omega arith

same-place : (at : ℕ) → at ≡ at + 0
same-place at = omega arith

pub from-first : (place : ℕ) → 0 + place ≡ place
from-first place = omega arith

pub entries-at : (at k : ℕ) (ss : List Status) (cs : List Child) (s : Status) → slice_get ss k ≡ Some s
    → slice_get (known_from at ss cs) k ≡ Some (known_with s (parent_for cs (at + k)))
entries-at at k [] cs s there = absurd (cc)
entries-at at zero (t ∷ ss) cs s there =
    let same : t ≡ s = cc in
    ap (λ u. Some (known_with u (parent_for cs at))) same ∙ ap (λ n. Some (known_with s (parent_for cs n))) (same-place at)
entries-at at (suc k) (t ∷ ss) cs s there =
    entries-at (suc at) k ss cs s there ∙ ap (λ n. Some (known_with s (parent_for cs n))) (next-place at k)

pub entries-push : (at : ℕ) (ss : List Status) (cs : List Child) (s : Status)
    → known_from at (ss ++ s ∷ []) cs ≡ known_from at ss cs ++ known_with s (parent_for cs (at + length ss)) ∷ []
entries-push at [] cs s = ap (λ n. known_with s (parent_for cs n) ∷ []) (same-place at)
entries-push at (t ∷ ss) cs s =
    ap (λ es. known_with t (parent_for cs at) ∷ es)
    (entries-push (suc at) ss cs s ∙ ap (λ n. known_from (suc at) ss cs ++ known_with s (parent_for cs n) ∷ []) (next-place at (length ss)))

pub entries-set : (at k : ℕ) (ss : List Status) (cs : List Child) (s : Status)
    → known_from at (set ss k s) cs ≡ set (known_from at ss cs) k (known_with s (parent_for cs (at + k)))
entries-set at k [] cs s = refl
entries-set at zero (t ∷ ss) cs s = ap (λ n. known_with s (parent_for cs n) ∷ known_from (suc at) ss cs) (same-place at)
entries-set at (suc k) (t ∷ ss) cs s =
    ap (λ es. known_with t (parent_for cs at) ∷ es)
    (entries-set (suc at) k ss cs s ∙ ap (λ n. set (known_from (suc at) ss cs) k (known_with s (parent_for cs n))) (next-place at k))

pub entries-drop : (n at : ℕ) (ss : List Status) (cs : List Child) → drop n (known_from at ss cs) ≡ known_from (at + n) (drop n ss) cs
entries-drop zero at ss cs = ap (λ m. known_from m ss cs) (same-place at)
entries-drop (suc n) at [] cs = refl
entries-drop (suc n) at (s ∷ ss) cs = entries-drop n (suc at) ss cs ∙ ap (λ m. known_from m (drop n ss) cs) (next-place at n)

pub entries-same : (at to : ℕ) (ss : List Status) (cs ds : List Child) → ((k : ℕ) → k < length ss → parent_for cs (at + k) ≡ parent_for ds (to + k))
    → known_from at ss cs ≡ known_from to ss ds
entries-same at to [] cs ds h = refl
entries-same at to (s ∷ ss) cs ds h =
    let head : parent_for cs at ≡ parent_for ds to =
    ap (parent_for cs) (same-place at) ∙ h 0 (omega arith) ∙ sym (ap (parent_for ds) (same-place to)) in
    let rest : known_from (suc at) ss cs ≡ known_from (suc to) ss ds =
    entries-same (suc at) (suc to) ss cs ds (λ k l. ap (parent_for cs) (next-place at k) ∙ h (suc k) (omega arith) ∙ sym (ap (parent_for ds) (next-place to k))) in
    ap (λ p. known_with s p ∷ known_from (suc at) ss cs) head ∙ ap (λ es. known_with s (parent_for ds to) ∷ es) rest

-- Which child is at a place.

pub child-here : (c : Child) (cs : List Child) (place : ℕ) → c.place ≡ place → parent_for (c ∷ cs) place ≡ Some c.parent
child-here c cs place same =
    let yes : (c.place == place) ≡ true = grind (arith, nat_tests) in
    ap (λ b. if b then Some c.parent else parent_for cs place) yes

pub child-other : (c : Child) (cs : List Child) (place : ℕ) → c.place ≢ place → parent_for (c ∷ cs) place ≡ parent_for cs place
child-other c cs place other =
    let no : (c.place == place) ≡ false = grind (arith, nat_tests) in
    ap (λ b. if b then Some c.parent else parent_for cs place) no

pub no-child : (cs : List Child) (place : ℕ) → ((i : ℕ) (c : Child) → slice_get cs i ≡ Some c → c.place ≢ place) → parent_for cs place ≡ None
no-child [] place h = refl
no-child (c ∷ cs) place h = child-other c cs place (h 0 c refl) ∙ no-child cs place (λ i d at. h (suc i) d at)

pub child-at : (cs : List Child) (m place : ℕ) (c : Child) → ((i : ℕ) (d : Child) → i < m → slice_get cs i ≡ Some d → d.place < place)
    → slice_get cs m ≡ Some c → c.place ≡ place → parent_for cs place ≡ Some c.parent
child-at [] m place c before at same = absurd (cc)
child-at (d ∷ cs) zero place c before at same =
    let is : d ≡ c = cc in
    subst (λ e. parent_for (e ∷ cs) place ≡ Some c.parent) (sym is) (child-here c cs place same)
child-at (d ∷ cs) (suc m) place c before at same =
    let low : d.place < place = before 0 d (omega arith) refl in
    child-other d cs place (λ e. let e = e in absurd (omega arith)) ∙ child-at cs m place c (λ i a l there. before (suc i) a (omega arith) there) at same

pub child-pushed : (cs : List Child) (place : ℕ) (c : Child) → AreWithin cs place → c.place ≡ place → parent_for (cs ++ c ∷ []) place ≡ Some c.parent
child-pushed [] place c below same = child-here c [] place same
child-pushed (d ∷ cs) place c below same =
    let low : d.place < place = below 0 d refl in
    child-other d (cs ++ c ∷ []) place (λ e. let e = e in absurd (omega arith)) ∙ child-pushed cs place c (λ i a at. below (suc i) a at) same

pub other-pushed : (cs : List Child) (place : ℕ) (c : Child) → c.place ≢ place → parent_for (cs ++ c ∷ []) place ≡ parent_for cs place
other-pushed [] place c other = child-other c [] place other
other-pushed (d ∷ cs) place c other = ap (λ p. if d.place == place then Some d.parent else p) (other-pushed cs place c other)

pub behind-dropped : (cs : List Child) (m place : ℕ) → ((i : ℕ) (d : Child) → i < m → slice_get cs i ≡ Some d → d.place < place)
    → parent_for (drop m cs) place ≡ parent_for cs place
behind-dropped cs zero place before = refl
behind-dropped [] (suc m) place before = refl
behind-dropped (c ∷ cs) (suc m) place before =
    let low : c.place < place = before 0 c (omega arith) refl in
    behind-dropped cs m place (λ i d l at. before (suc i) d (omega arith) at) ∙ sym (child-other c cs place (λ e. let e = e in absurd (omega arith)))

pub moved-up : (count : ℕ) (cs : List Child) (place : ℕ) → ((i : ℕ) (c : Child) → slice_get cs i ≡ Some c → count ≤ c.place)
    → parent_for (map (placed_earlier count) cs) place ≡ parent_for cs (count + place)
moved-up count [] place h = refl
moved-up count (c ∷ cs) place h =
    let low : count ≤ c.place = h 0 c refl in
    let rest = moved-up count cs place (λ i d at. h (suc i) d at) in
    ⊎_elim
    (λ here. let e = here in
    child-here (placed_earlier count c) (map (placed_earlier count) cs) place (omega arith) ∙ sym (child-here c cs (count + place) e))
    (λ other.
    child-other (placed_earlier count c) (map (placed_earlier count) cs) place (λ e. other (let e = e in omega arith)) ∙ rest ∙ sym (child-other c cs (count + place) other))
    (cases_eq c.place (count + place))

-- What stands where after children are dropped and moved up.

pub dropped-at : (m i : ℕ) (cs : List Child) → slice_get (drop m cs) i ≡ slice_get cs (m + i)
dropped-at zero i cs = ap (slice_get cs) (let e : i ≡ 0 + i = omega arith in e)
dropped-at (suc m) i [] = refl
dropped-at (suc m) i (c ∷ cs) = dropped-at m i cs ∙ ap (slice_get (c ∷ cs)) (let e : suc (m + i) ≡ suc m + i = omega arith in e)

pub moved-at : (count : ℕ) (cs : List Child) (i : ℕ) (a : Child) → slice_get (map (placed_earlier count) cs) i ≡ Some a
    → (c : Child) × (slice_get cs i ≡ Some c) × (a ≡ placed_earlier count c)
moved-at count [] i a at = absurd (cc)
moved-at count (c ∷ cs) zero a at = (c, refl, (let e : a ≡ placed_earlier count c = cc in e))
moved-at count (c ∷ cs) (suc i) a at = moved-at count cs i a at

pub pushed-at : (cs : List Child) (c : Child) (i : ℕ) (a : Child) → slice_get (cs ++ c ∷ []) i ≡ Some a → (slice_get cs i ≡ Some a) ⊎ ((i ≡ length cs) × (a ≡ c))
pushed-at [] c zero a at = inr (refl, (let e : a ≡ c = cc in e))
pushed-at [] c (suc i) a at = absurd (cc)
pushed-at (d ∷ cs) c zero a at = inl at
pushed-at (d ∷ cs) c (suc i) a at = ⊎_elim (λ old. inl old) (λ new. inr (ap suc new.0, new.1)) (pushed-at cs c i a at)

there-lt : (cs : List Child) (i : ℕ) (a : Child) → slice_get cs i ≡ Some a → i < length cs
there-lt [] i a at = absurd (cc)
there-lt (c ∷ cs) zero a at = omega arith
there-lt (c ∷ cs) (suc i) a at = let l = there-lt cs i a at in omega arith

-- Children that are in order stay so.

pub more-kept : (cs : List Child) (count more : ℕ) → count ≤ more → AreChildren cs count → AreChildren cs more
more-kept cs count more le are = record {
  in_order = are.in_order;
  within = λ i a at. let l = are.within i a at in omega arith;
}

pub push-kept : (cs : List Child) (c : Child) (count : ℕ) → AreChildren cs count → c.place ≡ count → AreChildren (cs ++ c ∷ []) (suc count)
push-kept cs c count are same = record {
  in_order = λ i j a b l at bt. order i j a b l (pushed-at cs c i a at) (pushed-at cs c j b bt);
  within = λ i a at. ⊎_elim (λ old. let l = are.within i a old in omega arith) (λ new. subst (λ d. d.place < suc count) (sym new.1) (let e = same in omega arith)) (pushed-at cs c i a at);
}
  where
    order : (i j : ℕ) (a b : Child) → i < j → (slice_get cs i ≡ Some a) ⊎ ((i ≡ length cs) × (a ≡ c)) → (slice_get cs j ≡ Some b) ⊎ ((j ≡ length cs) × (b ≡ c)) → a.place < b.place
    order i j a b l (inl old) (inl old2) = are.in_order i j a b l old old2
    order i j a b l (inl old) (inr new) =
        let low = are.within i a old in
        subst (λ d. a.place < d.place) (sym new.1) (let e = same in omega arith)
    order i j a b l (inr new) (inl old) = let past = there-lt cs j b old in let e = new.0 in absurd (omega arith)
    order i j a b l (inr new) (inr new2) = let e = new.0 in let f = new2.0 in absurd (omega arith)

pub forget-kept : (cs : List Child) (m count total : ℕ) → AreChildren cs total → ((i : ℕ) (c : Child) → m ≤ i → slice_get cs i ≡ Some c → count ≤ c.place)
    → AreChildren (map (placed_earlier count) (drop m cs)) (total - count)
forget-kept cs m count total are behind = record {
  in_order = λ i j a b l at bt.
      let from = old i a at in
      let to = old j b bt in
      let low : from.0.place < to.0.place = are.in_order (m + i) (m + j) from.0 to.0 (omega arith) from.1 to.1 in
      let past : count ≤ from.0.place = behind (m + i) from.0 (omega arith) from.1 in
      subst (λ d. d.place < b.place) (sym from.2) (subst (λ d. (placed_earlier count from.0).place < d.place) (sym to.2) (let e : from.0.place - count < to.0.place - count = omega arith in e));
  within = λ i a at.
      let from = old i a at in
      let low : from.0.place < total = are.within (m + i) from.0 from.1 in
      let past : count ≤ from.0.place = behind (m + i) from.0 (omega arith) from.1 in
      subst (λ d. d.place < total - count) (sym from.2) (let e : from.0.place - count < total - count = omega arith in e);
}
  where
    old : (i : ℕ) (a : Child) → slice_get (map (placed_earlier count) (drop m cs)) i ≡ Some a → (c : Child) × (slice_get cs (m + i) ≡ Some c) × (a ≡ placed_earlier count c)
    old i a at =
        let found = moved-at count (drop m cs) i a at in
        (found.0, sym (dropped-at m i cs) ∙ found.1, found.2)

-- What is known of the ids that are left.
pub forget-entries : (ss : List Status) (cs : List Child) (m count : ℕ) → ((i : ℕ) (c : Child) → i < m → slice_get cs i ≡ Some c → c.place < count)
    → ((i : ℕ) (c : Child) → m ≤ i → slice_get cs i ≡ Some c → count ≤ c.place)
    → known_from 0 (drop count ss) (map (placed_earlier count) (drop m cs)) ≡ drop count (known_from 0 ss cs)
forget-entries ss cs m count before behind =
    entries-same 0 (0 + count) (drop count ss) (map (placed_earlier count) (drop m cs)) cs
    (λ k l.
    moved-up count (drop m cs) (0 + k) (λ i c at. behind (m + i) c (omega arith) (sym (dropped-at m i cs) ∙ at))
    ∙ behind-dropped cs m (count + (0 + k)) (λ i d less at. let low = before i d less at in omega arith)
    ∙ ap (parent_for cs) (let e : count + (0 + k) ≡ 0 + count + k = omega arith in e))
    ∙ sym (entries-drop count 0 ss cs)

-- How many there are of which something is known.

pub count-known : (v : EntriesView) (ss : List Status) (cs : List Child) (spare n : ℕ) → record { items = known_from 0 ss cs; spare = spare } ≡ v → n ≡ length ss
    → length v.items ≡ n
count-known v ss cs spare n is same = ap (λ (u : EntriesView). length u.items) (sym is) ∙ entries-count 0 ss cs ∙ sym same

-- what is known of the id at a place whose status is read
pub known-at : (v : EntriesView) (ss : List Status) (cs : List Child) (spare n place : ℕ) (s : Status) → record { items = known_from 0 ss cs; spare = spare } ≡ v → n ≡ length ss
    → place < length v.items → s ≡ get_or ss place s → slice_get v.items place ≡ Some (known_with s (parent_for cs place))
known-at v ss cs spare n place s is same within read =
    let count = count-known v ss cs spare n is same in
    subst (λ (u : EntriesView). slice_get u.items place ≡ Some (known_with s (parent_for cs place))) is
    (entries-at 0 place ss cs s (slice_get_read ss n place s same (omega arith) read) ∙ ap (λ n. Some (known_with s (parent_for cs n))) (from-first place))

pub parent-known : (v : EntriesView) (ss : List Status) (cs : List Child) (spare n place : ℕ) → record { items = known_from 0 ss cs; spare = spare } ≡ v → n ≡ length ss
    → place < length v.items → parent_at v.items place ≡ parent_for cs place
parent-known v ss cs spare n place is same within =
    let count = count-known v ss cs spare n is same in
    let s : Status = get_or ss place InProgress in
    let there : slice_get ss place ≡ Some s = slice_get-get_or ss place InProgress (omega arith) in
    subst (λ (u : EntriesView). parent_at u.items place ≡ parent_for cs place) is (ap parent_in (entries-at 0 place ss cs s there) ∙ ap (parent_for cs) (from-first place))

-- A child is noted, or none.

pub child-noted : (cs : List Child) (count : ℕ) (parent : Option ℕ) → AreChildren cs count → AreChildren (with_child cs count parent) (suc count)
child-noted cs count None are = more-kept cs count (suc count) (omega arith) are
child-noted cs count (Some p) are = push-kept cs (record { place = count; parent = p }) count are refl

noted-at : (cs : List Child) (count : ℕ) (parent : Option ℕ) → AreWithin cs count → parent_for (with_child cs count parent) count ≡ parent
noted-at cs count None below = no-child cs count (λ i c at e. let l = below i c at in let same = e in absurd (omega arith))
noted-at cs count (Some p) below = child-pushed cs count (record { place = count; parent = p }) below refl

noted-other : (cs : List Child) (count place : ℕ) (parent : Option ℕ) → place < count → parent_for (with_child cs count parent) place ≡ parent_for cs place
noted-other cs count place None l = refl
noted-other cs count place (Some p) l = other-pushed cs place (record { place = count; parent = p }) (λ e. let same = e in absurd (omega arith))

pub noted-entries : (ss : List Status) (cs : List Child) (count : ℕ) (parent : Option ℕ) → AreWithin cs count → count ≡ length ss
    → known_from 0 (ss ++ InProgress ∷ []) (with_child cs count parent) ≡ known_from 0 ss cs ++ given_entry parent ∷ []
noted-entries ss cs count parent below same =
    entries-push 0 ss (with_child cs count parent) InProgress
    ∙ ap (λ es. es ++ known_with InProgress (parent_for (with_child cs count parent) (0 + length ss)) ∷ [])
    (entries-same 0 0 ss (with_child cs count parent) cs (λ k l. noted-other cs count (0 + k) parent (omega arith)))
    ∙ ap (λ p. known_from 0 ss cs ++ known_with InProgress p ∷ [])
    (ap (parent_for (with_child cs count parent)) (from-first (length ss) ∙ sym same) ∙ noted-at cs count parent below)

-- A child is found, or none.

pub none-at : (cs : List Child) (m place : ℕ) → StandInOrder cs → ((i : ℕ) (c : Child) → i < m → slice_get cs i ≡ Some c → c.place < place)
    → ((i : ℕ) (c : Child) → m ≤ i → slice_get cs i ≡ Some c → place ≤ c.place) → ((c : Child) → slice_get cs m ≡ Some c → c.place ≢ place) → parent_for cs place ≡ None
none-at cs m place order before behind other =
    no-child cs place (λ i c at. ⊎_elim (λ low e. let l = before i c low at in let same = e in absurd (omega arith))
    (λ high. ⊎_elim (λ same. other c (subst (λ k. slice_get cs k ≡ Some c) same at)) (λ ne e. beyond i c at (let n : m < i = less m i high ne in n) e) (cases_eq i m)) (cases_lt i m))
  where
    less : (m i : ℕ) → m ≤ i → i ≢ m → m < i
    less m i high ne = ⊎_elim (λ l. l) (λ h. absurd (ne (let e : i ≡ m = omega arith in e))) (cases_lt m i)

    beyond : (i : ℕ) (c : Child) → slice_get cs i ≡ Some c → m < i → c.place ≢ place
    beyond i c at l e =
        let long = there-lt cs i c at in
        let d : Child = get_or cs m c in
        let there : slice_get cs m ≡ Some d = slice_get-get_or cs m c (omega arith) in
        let low = order m i d c l there at in
        let past = behind m d (omega arith) there in
        let same = e in
        absurd (omega arith)

-- what is written over a whole list
pub written-back : (xs ys : List Child) (n : ℕ) → n ≡ length ys → length xs ≡ length ys → take n (xs ++ drop (length xs) ys) ≡ xs
written-back xs ys n whole same =
    let rest : drop (length xs) ys ≡ [] = drop_all (length xs) ys (omega arith) in
    ap (λ zs. take n (xs ++ zs)) rest ∙ ap (take n) (append-nil xs) ∙ take_all n xs (omega arith)

pub get_or_twice : (cs : List Child) (i : ℕ) (d : Child) → get_or cs i d ≡ get_or cs i (get_or cs i d)
get_or_twice [] i d = refl
get_or_twice (c ∷ cs) zero d = refl
get_or_twice (c ∷ cs) (suc i) d = get_or_twice cs i d

lt-from : (a b : ℕ) → true ≡ nat_lt a b → a < b
lt-from a b h = grind (arith, nat_tests)

le-from : (a b : ℕ) → false ≡ nat_lt a b → b ≤ a
le-from a b h = grind (arith, nat_tests)

-- what is read at a place is there
pub read-there : (ds cs : List Child) (at : ℕ) (c : Child) → ds ≡ cs → true ≡ nat_lt at (length ds) → c ≡ get_or ds at c → slice_get cs at ≡ Some c
read-there ds cs at c same within read =
    let l : at < length ds = lt-from at (length ds) within in
    subst (λ xs. slice_get xs at ≡ Some c) same (slice_get_read ds (length ds) at c refl l read)

pub nothing-there : (ds cs : List Child) (at : ℕ) → ds ≡ cs → false ≡ nat_lt at (length ds) → slice_get cs at ≡ None
nothing-there ds cs at same past =
    let l : length ds ≤ at = le-from at (length ds) past in
    subst (λ xs. slice_get xs at ≡ None) same (slice_get_past ds at l)
