-- How a cache is gone through from its end: the last leaves, or comes first.
use Rattle.std.proofs.Common.{◌≡◌, ℕ, zero, suc, ◌+◌, ◌-◌, ◌<◌, ◌⊎◌, List, [], ◌∷◌, ◌++◌, length, take, drop, append_assoc, true, false, not, nat_eq, slice_get, get_or, Option, Some, IsTrue, ◌↔◌, inl, inr, refl, sym, ap, ◌∙◌, subst, arith, length-append}
use Rattle.std.proofs.lemmas.Bool.Decides.{nat_tests}
use Rattle.std.proofs.lemmas.Bool.{cases_Bool}
use Rattle.std.proofs.lemmas.Option.{same_Some}
use Rattle.std.proofs.lemmas.List.{take_more}
use Rattle.std.proofs.lemmas.List.Elements.{filter-append}
use Rattle.std.proofs.lemmas.Map.Keys.{IsDistinct-head, IsDistinct-tail}
use Rattle.std.specs.List.{AllByRecursion, IsDistinct}
use Rattle.std.specs.Option.{option_map_or}
use Rattle.std.specs.Map.{keys_of, lookup_entry, remove_entry}
use Rattle.lru.specs.LruCache.{LruCache, lru_cache, last_entry, promoted}
use Rattle.xid_circle.specs.Circle.{Precedes}
use Rattle.commit_status.specs.declared.status.Status.{Status}
use Rattle.snapshot.specs.Snap.{is_before}
use Rattle.commit_status.specs.declared.status.Status.TheVariants.{InProgress}
use Rattle.snapshot.proofs.Earliest.{before-precedes, precedes-before}
use Rattle.status_cache.specs.Held.{held_from}
use Rattle.status_cache.proofs.HeldLemmas.{self-number}

at-end : (front : List (ℕ × Status)) (last : ℕ × Status) → slice_get (front ++ last ∷ []) (length front) ≡ Some last
at-end [] last = refl
at-end (e ∷ front) last = at-end front last

shorter : (front : List (ℕ × Status)) (last : ℕ × Status) → length (front ++ last ∷ []) - 1 ≡ length front
shorter front last = let long = length-append front (last ∷ []) in omega arith

take-all : (front rest : List (ℕ × Status)) → take (length front) (front ++ rest) ≡ front
take-all [] rest = refl
take-all (e ∷ front) rest = ap (λ (es : List (ℕ × Status)). e ∷ es) (take-all front rest)

pub last-is : (front : List (ℕ × Status)) (last : ℕ × Status) → last_entry (front ++ last ∷ []) ≡ Some last
last-is front last = ap (slice_get (front ++ last ∷ [])) (shorter front last) ∙ at-end front last

pub front-is : (front : List (ℕ × Status)) (last : ℕ × Status) → take (length (front ++ last ∷ []) - 1) (front ++ last ∷ []) ≡ front
front-is front last = ap (λ n. take n (front ++ last ∷ [])) (shorter front last) ∙ take-all front (last ∷ [])

all-end : (P : ℕ → Type 0) (front : List (ℕ × Status)) (last : ℕ × Status) → AllByRecursion P (keys_of (front ++ last ∷ [])) → P last.0
all-end P [] last all = all.0
all-end P (e ∷ front) last all = all-end P front last all.1

turned-number : (x y : ℕ) → nat_eq x y ≡ false → nat_eq y x ≡ false
turned-number x y h = grind (arith, nat_tests)

pub last-found : (front : List (ℕ × Status)) (last : ℕ × Status) → IsDistinct nat_eq (keys_of (front ++ last ∷ [])) → lookup_entry (nat_eq last.0) (front ++ last ∷ []) ≡ Some last
last-found [] last apart = rw (self-number last.0) refl
last-found (e ∷ front) last apart = rw (turned-number e.0 last.0 (all-end (λ y. nat_eq e.0 y ≡ false) front last (IsDistinct-head nat_eq e.0 (keys_of (front ++ last ∷ [])) apart))) (last-found front last (IsDistinct-tail nat_eq e.0 (keys_of (front ++ last ∷ [])) apart))

pub last-gone : (front : List (ℕ × Status)) (last : ℕ × Status) → IsDistinct nat_eq (keys_of (front ++ last ∷ [])) → remove_entry (nat_eq last.0) (front ++ last ∷ []) ≡ front
last-gone [] last apart = rw (self-number last.0) refl
last-gone (e ∷ front) last apart = rw (turned-number e.0 last.0 (all-end (λ y. nat_eq e.0 y ≡ false) front last (IsDistinct-head nat_eq e.0 (keys_of (front ++ last ∷ [])) apart)))
    (ap (λ (es : List (ℕ × Status)). e ∷ es) (last-gone front last (IsDistinct-tail nat_eq e.0 (keys_of (front ++ last ∷ [])) apart)))

-- the last comes first
pub last-promoted : (front : List (ℕ × Status)) (last : ℕ × Status) → IsDistinct nat_eq (keys_of (front ++ last ∷ [])) → promoted (nat_eq last.0) (front ++ last ∷ []) ≡ last ∷ front
last-promoted front last apart =
    ap (λ (o : Option (ℕ × Status)). option_map_or (λ e. e ∷ remove_entry (nat_eq last.0) (front ++ last ∷ [])) o (front ++ last ∷ [])) (last-found front last apart)
    ∙ ap (λ (es : List (ℕ × Status)). last ∷ es) (last-gone front last apart)

-- one that is alone stays or leaves
pub alone-leaves : (x : ℕ) (last : ℕ × Status) → is_before last.0 x ≡ true → held_from x (last ∷ []) ≡ []
alone-leaves x last h = rw h refl

pub alone-stays : (x : ℕ) (last : ℕ × Status) → is_before last.0 x ≡ false → held_from x (last ∷ []) ≡ last ∷ []
alone-stays x last h = rw h refl

drop-more : (held : List (ℕ × Status)) (i : ℕ) (d : ℕ × Status) → i < length held → drop i held ≡ get_or held i d ∷ drop (i + 1) held
drop-more [] i d h = absurd (omega arith)
drop-more (e ∷ held) zero d h = refl
drop-more (e ∷ held) (suc i) d h = drop-more held i d (omega arith) ∙ (let same : suc (i + 1) ≡ suc i + 1 = omega arith in ap (λ n. get_or held i d ∷ drop n (e ∷ held)) same)

-- the front, of which the last is still to come
pub one-left : (held : List (ℕ × Status)) (x i : ℕ) (d : ℕ × Status) → i < length held
    → held_from x (drop (i + 1) held) ++ take (i + 1) held ≡ (held_from x (drop (i + 1) held) ++ take i held) ++ get_or held i d ∷ []
one-left held x i d h = ap (λ (es : List (ℕ × Status)). held_from x (drop (i + 1) held) ++ es) (take_more held i d h) ∙ joined
  where
    joined : held_from x (drop (i + 1) held) ++ (take i held ++ get_or held i d ∷ []) ≡ (held_from x (drop (i + 1) held) ++ take i held) ++ get_or held i d ∷ []
    joined = sym (append_assoc (held_from x (drop (i + 1) held)) (take i held) (get_or held i d ∷ []))

pub one-passed : (held : List (ℕ × Status)) (x i : ℕ) (d : ℕ × Status) → i < length held
    → held_from x (get_or held i d ∷ []) ++ (held_from x (drop (i + 1) held) ++ take i held) ≡ held_from x (drop i held) ++ take i held
one-passed held x i d h =
    sym (append_assoc (held_from x (get_or held i d ∷ [])) (held_from x (drop (i + 1) held)) (take i held))
    ∙ ap (λ (es : List (ℕ × Status)). es ++ take i held)
    (sym (filter-append (λ (e : ℕ × Status). not (is_before e.0 x)) (get_or held i d ∷ []) (drop (i + 1) held)) ∙ ap (held_from x) (sym (drop-more held i d h)))

-- the step of the loop
pub passed-on : (held now new : List (ℕ × Status)) (x n k : ℕ) → n ≡ length held → k < n → now ≡ held_from x (drop (n - k) held) ++ take (n - k) held
    → ((front : List (ℕ × Status)) (last : ℕ × Status) → now ≡ front ++ last ∷ [] → new ≡ held_from x (last ∷ []) ++ front)
    → new ≡ held_from x (drop (n - (k + 1)) held) ++ take (n - (k + 1)) held
passed-on held now new x n k all within is pass =
    let i : ℕ = n - (k + 1) in
    let more : n - k ≡ i + 1 = omega arith in
    let short : i < length held = omega arith in
    let front : List (ℕ × Status) = held_from x (drop (i + 1) held) ++ take i held in
    pass front (get_or held i (0, InProgress)) (is ∙ ap (λ m. held_from x (drop m held) ++ take m held) more ∙ one-left held x i (0, InProgress) short)
    ∙ one-passed held x i (0, InProgress) short

last-same : (entries front : List (ℕ × Status)) (last shown : ℕ × Status) → Some shown ≡ last_entry entries → entries ≡ front ++ last ∷ [] → last.0 ≡ shown.0
last-same entries front last shown is at = sym (ap (λ (e : ℕ × Status). e.0) (same_Some shown last (is ∙ ap (λ (es : List (ℕ × Status)). last_entry es) at ∙ last-is front last)))

pub passed-leaves : (c new : LruCache ℕ Status) (x : ℕ) (shown : ℕ × Status) → Some shown ≡ last_entry c.entries → Precedes shown.0 x
    → new ≡ lru_cache (take (length c.entries - 1) c.entries) c.cap
    → (front : List (ℕ × Status)) (last : ℕ × Status) → c.entries ≡ front ++ last ∷ [] → new.entries ≡ held_from x (last ∷ []) ++ front
passed-leaves c new x shown is before done front last at =
    let gone : held_from x (last ∷ []) ≡ [] = alone-leaves x last (ap (λ n. is_before n x) (last-same c.entries front last shown is at) ∙ precedes-before shown.0 x before) in
    ap (λ (d : LruCache ℕ Status). d.entries) done ∙ ap (λ (es : List (ℕ × Status)). take (length es - 1) es) at ∙ front-is front last
    ∙ ap (λ (es : List (ℕ × Status)). es ++ front) (sym gone)

pub passed-stays : (c new : LruCache ℕ Status) (x : ℕ) (shown : ℕ × Status) → Some shown ≡ last_entry c.entries → (IsTrue false ↔ Precedes shown.0 x) → IsDistinct nat_eq (keys_of c.entries)
    → new ≡ lru_cache (promoted (nat_eq shown.0) c.entries) c.cap
    → (front : List (ℕ × Status)) (last : ℕ × Status) → c.entries ≡ front ++ last ∷ [] → new.entries ≡ held_from x (last ∷ []) ++ front
passed-stays c new x shown is other apart done front last at =
    let same = last-same c.entries front last shown is at in
    let stays : held_from x (last ∷ []) ≡ last ∷ [] = alone-stays x last (ap (λ n. is_before n x) same ∙ not-before (cases_Bool (is_before shown.0 x))) in
    ap (λ (d : LruCache ℕ Status). d.entries) done ∙ ap (λ k. promoted (nat_eq k) c.entries) (sym same) ∙ ap (λ (es : List (ℕ × Status)). promoted (nat_eq last.0) es) at
    ∙ last-promoted front last (subst (λ (es : List (ℕ × Status)). IsDistinct nat_eq (keys_of es)) at apart) ∙ ap (λ (es : List (ℕ × Status)). es ++ front) (sym stays)
  where
    not-before : (is_before shown.0 x ≡ true) ⊎ (is_before shown.0 x ≡ false) → is_before shown.0 x ≡ false
    not-before (inl before) = absurd (let t : false ≡ true = other.1 (before-precedes shown.0 x before) in cc)
    not-before (inr late) = late
