-- What is read by where the transactions wrote a key.
use Rattle.std.proofs.Common.{◌≡◌, ℕ, zero, suc, ◌+◌, ◌-◌, ◌<◌, ◌≤◌, List, [], ◌∷◌, length, take, get_or, slice_get, Option, Some, None, refl, sym, ap, ◌∙◌, subst, arith}
use Rattle.std.specs.Prelude.{IsSome}
use Rattle.std.specs.Option.{option_or}
use Rattle.std.specs.BTreeMap.{BTreeMap}
use Rattle.std.proofs.lemmas.Option.{slice_get_read, slice_get_within, none-some, same_Some}
use Rattle.tuple_header.specs.declared.version.Row.{Row}
use Rattle.history.specs.History.{Write, Transaction, written, latest, IsLate}
use Rattle.keyed_history.specs.Spots.{noted_at}
use Rattle.keyed_history.specs.Places.{last_place, place_by, last_place_in, AreSpotsOf}
use Rattle.keyed_history.proofs.PlaceLemmas.{unplaced, Stands, placed, has_place}

-- the transaction that wrote the key
pub found : (history : List Transaction) (n key place : ℕ) → last_place_in history n key ≡ Some place → (t : Transaction) × (slice_get history n ≡ Some t) × (last_place t key ≡ Some place)
found history n key place is = by (slice_get history n) refl is
  where
    by : (o : Option Transaction) → slice_get history n ≡ o → place_by o key ≡ Some place → (t : Transaction) × (slice_get history n ≡ Some t) × (last_place t key ≡ Some place)
    by None at never = absurd (none-some place never)
    by (Some t) at here = (t, at, here)

pub found_within : (history : List Transaction) (n key place : ℕ) → last_place_in history n key ≡ Some place → n < length history
found_within history n key place is = let here = found history n key place is in slice_get_within history n here.0 here.1

pub found_at : (history : List Transaction) (n key place : ℕ) (x : Transaction) → last_place_in history n key ≡ Some place → x ≡ get_or history n x → last_place x key ≡ Some place
found_at history n key place x is read =
    let here = found history n key place is in
    subst (λ (t : Transaction). last_place t key ≡ Some place) (same_Some here.0 x (sym here.1 ∙ slice_get_read history (length history) n x refl (found_within history n key place is) read)) here.2

-- the write of the place
pub placed_within : (writes : List Write) (key i : ℕ) → last_place writes key ≡ Some i → i < length writes
placed_within writes key i is = let write = placed writes key i is in slice_get_within writes i write.0 write.1.at

pub placed_at : (writes : List Write) (key i : ℕ) (y : Write) → last_place writes key ≡ Some i → y ≡ get_or writes i y → Stands writes key i y
placed_at writes key i y is read =
    let write = placed writes key i is in
    subst (Stands writes key i) (same_Some write.0 y (sym write.1.at ∙ slice_get_read writes (length writes) i y refl (placed_within writes key i is) read)) write.1

-- What the first n transactions say.

latest-here : (history : List Transaction) (p key : ℕ) (t : Transaction) (row : Option Row) → slice_get history p ≡ Some t → written t key ≡ Some row → latest (take (suc p) history) key ≡ Some row
latest-here [] p key t row at is = absurd (none-some t at)
latest-here (u ∷ history) zero key t row at is = subst (λ (v : Transaction). written v key ≡ Some row) (sym (same_Some u t at)) is
latest-here (u ∷ history) (suc p) key t row at is = ap (λ o. option_or o (written u key)) (latest-here history p key t row at is)

latest-step : (history : List Transaction) (n key : ℕ) → last_place_in history n key ≡ None → latest (take (suc n) history) key ≡ latest (take n history) key
latest-step [] zero key none = refl
latest-step [] (suc n) key none = refl
latest-step (t ∷ history) zero key none = unplaced t key none
latest-step (t ∷ history) (suc n) key none = ap (λ o. option_or o (written t key)) (latest-step history n key none)

latest-on : (history : List Transaction) (p d key : ℕ) → ((m : ℕ) → p < m → m < suc (d + p) → last_place_in history m key ≡ None) → latest (take (suc (d + p)) history) key ≡ latest (take (suc p) history) key
latest-on history p zero key none = ap (λ n. latest (take (suc n) history) key) (let e : 0 + p ≡ p = omega arith in e)
latest-on history p (suc d) key none =
    ap (λ n. latest (take (suc n) history) key) (let e : suc d + p ≡ suc (d + p) = omega arith in e)
    ∙ (latest-step history (suc (d + p)) key (none (suc (d + p)) (omega arith) (omega arith))
    ∙ latest-on history p d key (λ m above below. none m above (omega (arith, below))))

pub latest-none : (history : List Transaction) (n key : ℕ) → ((m : ℕ) → m < n → last_place_in history m key ≡ None) → latest (take n history) key ≡ None
latest-none history zero key none = refl
latest-none history (suc n) key none = latest-step history n key (none n (omega arith)) ∙ latest-none history n key (λ m lt. none m (omega (arith, lt)))

-- the last that wrote the key
pub latest-found : (history : List Transaction) (n p key place : ℕ) (x : Transaction) (y : Write) → p < n → last_place_in history p key ≡ Some place → x ≡ get_or history p x → Stands x key place y
    → ((m : ℕ) → p < m → m < n → last_place_in history m key ≡ None) → latest (take n history) key ≡ Some y.row
latest-found history n p key place x y lt is read stands none =
    let e : suc ((n - suc p) + p) ≡ n = omega (arith, lt) in
    ap (λ k. latest (take k history) key) (sym e)
    ∙ (latest-on history p (n - suc p) key (λ m above below. none m above (subst (λ k. m < k) e below))
    ∙ latest-here history p key x y.row (slice_get_read history (length history) p x refl (found_within history p key place is) read) stands.last)

-- Who wrote the key since.

pub late_here : (history : List Transaction) (n key place : ℕ) → last_place_in history n key ≡ Some place → IsLate history n key
late_here history n key place is =
    let here = found history n key place is in let write = placed here.0 key place here.2 in (n, here.0, omega arith, here.1, subst IsSome (sym write.1.last) refl)

pub late_place : (history : List Transaction) (start key : ℕ) → IsLate history start key → (n : ℕ) × (start ≤ n) × (n < length history) × ((place : ℕ) × (last_place_in history n key ≡ Some place))
late_place history start key (n, t, le, at, wrote) =
    let here = has_place t key wrote in (n, le, slice_get_within history n t at, (here.0, ap (λ o. place_by o key) at ∙ here.1))

pub none_late : (history : List Transaction) (start key : ℕ) → ((m : ℕ) → start ≤ m → m < length history → last_place_in history m key ≡ None) → ¬ IsLate history start key
none_late history start key none late =
    let here = late_place history start key late in none-some here.3.0 (sym (none here.0 here.1 here.2) ∙ here.3.1)

-- The spots of a history.

pub spot_found : (spots : BTreeMap (ℕ × ℕ) ℕ) (history : List Transaction) (key n place : ℕ) → AreSpotsOf spots history → noted_at spots key n ≡ Some place → last_place_in history n key ≡ Some place
spot_found spots history key n place are is = sym (are key n) ∙ is

pub spot_none : (spots : BTreeMap (ℕ × ℕ) ℕ) (history : List Transaction) (key n : ℕ) → AreSpotsOf spots history → noted_at spots key n ≡ None → last_place_in history n key ≡ None
spot_none spots history key n are is = sym (are key n) ∙ is

-- what the last spot below n says
abbrev IsLastBelow : BTreeMap (ℕ × ℕ) ℕ → (key n p place : ℕ) → Type 0
IsLastBelow spots key n p place = (p < n) × (noted_at spots key p ≡ Some place) × ((m : ℕ) → p < m → m < n → noted_at spots key m ≡ None)

pub write_within : (spots : BTreeMap (ℕ × ℕ) ℕ) (history : List Transaction) (key n p place : ℕ) (x : Transaction) → AreSpotsOf spots history → IsLastBelow spots key n p place
    → x ≡ get_or history p x → place < length x
write_within spots history key n p place x are last read = placed_within x key place (found_at history p key place x (spot_found spots history key p place are last.1) read)

pub write_read : (spots : BTreeMap (ℕ × ℕ) ℕ) (history : List Transaction) (key n p place : ℕ) (x : Transaction) (y : Write) → AreSpotsOf spots history → IsLastBelow spots key n p place
    → x ≡ get_or history p x → y ≡ get_or x place y → (latest (take n history) key ≡ Some y.row) × (y.key ≡ key)
write_read spots history key n p place x y are last read read' =
    let at = spot_found spots history key p place are last.1 in
    let stands = placed_at x key place y (found_at history p key place x at read) read' in
    (latest-found history n p key place x y last.0 at read stands (λ m above below. spot_none spots history key m are (last.2 m above below)), stands.of_key)

pub nothing_read : (spots : BTreeMap (ℕ × ℕ) ℕ) (history : List Transaction) (key n : ℕ) → AreSpotsOf spots history → ((m : ℕ) → m < n → noted_at spots key m ≡ None) → latest (take n history) key ≡ None
nothing_read spots history key n are none = latest-none history n key (λ m lt. spot_none spots history key m are (none m lt))

pub last_late : (spots : BTreeMap (ℕ × ℕ) ℕ) (history : List Transaction) (key n p place : ℕ) → n ≡ length history → AreSpotsOf spots history → IsLastBelow spots key n p place
    → IsLate history p key × (¬ IsLate history (p + 1) key)
last_late spots history key n p place is are last = (
  late_here history p key place (spot_found spots history key p place are last.1),
  none_late history (p + 1) key (λ m ge lt. spot_none spots history key m are (last.2 m (omega (arith, ge)) (omega (arith, lt, is)))),
)

pub never_late : (spots : BTreeMap (ℕ × ℕ) ℕ) (history : List Transaction) (key n : ℕ) → n ≡ length history → AreSpotsOf spots history → ((m : ℕ) → m < n → noted_at spots key m ≡ None) → ¬ IsLate history 0 key
never_late spots history key n is are none = none_late history 0 key (λ m ge lt. spot_none spots history key m are (none m (omega (arith, lt, is))))
