-- Rows are written to places one after another.
use Rattle.std.proofs.Common.{◌≡◌, ℕ, zero, suc, ◌+◌, ◌<◌, ◌≤◌, List, [], ◌∷◌, ◌++◌, length, set, get_or, take, refl, sym, ap, ◌∙◌, subst, arith}
use Rattle.std.proofs.lemmas.List.{take_more}
use Rattle.tuple_header.specs.declared.row_place.RowPlace.{RowPlace}
use Rattle.tuple_header.specs.declared.version.Row.{Row}
use Rattle.tuple_header.specs.Places.{place_with, places_with}
use Rattle.tuple_header.proofs.PlaceLemmas.{places-length, places-push}

-- within a list it doesn't matter what would be behind it
get_or-same : {A : Type 0} (xs : List A) (i : ℕ) (d d' : A) → i < length xs → get_or xs i d ≡ get_or xs i d'
get_or-same [] i d d' within = absurd (omega arith)
get_or-same (x ∷ xs) zero d d' within = refl
get_or-same (x ∷ xs) (suc i) d d' within = get_or-same xs i d d' (omega arith)

length-taken : {A : Type 0} (xs : List A) (n : ℕ) → n ≤ length xs → length (take n xs) ≡ n
length-taken xs zero within = refl
length-taken [] (suc n) within = absurd (omega arith)
length-taken (x ∷ xs) (suc n) within = ap suc (length-taken xs n (omega arith))

-- one row more
pub places-next : (rows : List Row) (places now : List RowPlace) (n : ℕ) (row r : Row) (d new : RowPlace) → n < length rows → length rows ≤ length places → now ≡ places_with (take n rows) places
    → row ≡ get_or rows n r → new ≡ place_with row (get_or now n d) → set now n new ≡ places_with (take (n + 1) rows) places
places-next rows places now n row r d new within enough is at wrote =
    let first : List Row = take n rows in
    let old = places_with first places in
    let place = get_or old n d in
    let count : length first ≡ n = length-taken rows n (omega arith) in
    let room : length first < length places = omega (arith, count, within, enough) in
    let there : n < length old = omega (arith, count, room, places-length first places) in
    let pushed : set old (length first) (place_with row place) ≡ places_with (first ++ row ∷ []) places =
    places-push first places row place room (subst (λ m. place ≡ get_or old m place) (sym count) (get_or-same old n d place there)) in
    ap (set now n) wrote
    ∙ (ap (λ ps. set ps n (place_with row (get_or ps n d))) is
    ∙ (ap (λ m. set old m (place_with row place)) (sym count)
    ∙ (pushed ∙ (ap (λ r. places_with (first ++ r ∷ []) places) at ∙ ap (λ rs. places_with rs places) (sym (take_more rows n r within))))))
