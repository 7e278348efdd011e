-- What an edit of both columns does to the entries.
use Rattle.std.proofs.Common.{◌≡◌, ◌∙◌, ◌<ℤ◌, is_lt, ℕ, zero, suc, ◌<◌, ◌≤◌, min, inl, inr, ℤ, List, [], ◌∷◌, ◌++◌, length, get_or, take, drop, set, true, false, Some, slice_get, sym, ap, refl, arith}
use Rattle.std.specs.List.{insert, remove}
use Rattle.std.specs.Cmp.{int_cmp_is}
use Rattle.std.specs.declared.cmp.Ordering.TheVariants.{Less, Greater}
use Rattle.std.proofs.lemmas.Bool.{cases_lt}
use Rattle.std.proofs.lemmas.Option.{get_or_from_slice_get}
use Rattle.std.proofs.lemmas.List.Edits.{length-insert, length-remove}
use Rattle.std.proofs.lemmas.List.{length-take-le}
use Rattle.xid_circle.specs.declared.Tid.{Tid}
use Rattle.index_entries.specs.declared.entry.Entry.{Entry}
use Rattle.index_entries.specs.Order.{comparison}
use Rattle.entry_columns.specs.declared.short_tid.ShortTid.{ShortTid}
use Rattle.entry_columns.specs.Columns.{long, entry_with, entries_with, AreColumns}

none_left : {L : Type 0} (value : L → ℤ) (key : L → ℕ) (ls : List L) → entries_with value key ls [] ≡ []
none_left value key [] = refl
none_left value key (l ∷ ls) = refl

pub entries_with-length : {L : Type 0} (value : L → ℤ) (key : L → ℕ) (ls : List L) (ps : List ShortTid) → length ls ≡ length ps → length (entries_with value key ls ps) ≡ length ps
entries_with-length value key [] [] alike = refl
entries_with-length value key [] (p ∷ ps) alike = absurd (omega (arith, alike))
entries_with-length value key (l ∷ ls) [] alike = refl
entries_with-length value key (l ∷ ls) (p ∷ ps) alike = ap suc (entries_with-length value key ls ps (omega (arith, alike)))

pub counts : {L : Type 0} (value : L → ℤ) (key : L → ℕ) (ls : List L) (ps : List ShortTid) (xs : List Entry) → length ls ≡ length ps → entries_with value key ls ps ≡ xs
    → (length ls ≡ length xs) × (length ps ≡ length xs)
counts value key ls ps xs alike is =
    let long = entries_with-length value key ls ps alike in
    let same = ap length is in
    (omega arith, omega arith)

pub entries_with-take : {L : Type 0} (value : L → ℤ) (key : L → ℕ) (n : ℕ) (ls : List L) (ps : List ShortTid) → entries_with value key (take n ls) (take n ps) ≡ take n (entries_with value key ls ps)
entries_with-take value key zero ls ps = refl
entries_with-take value key (suc n) [] ps = refl
entries_with-take value key (suc n) (l ∷ ls) [] = refl
entries_with-take value key (suc n) (l ∷ ls) (p ∷ ps) = ap (λ rest. entry_with value key l p ∷ rest) (entries_with-take value key n ls ps)

pub entries_with-drop : {L : Type 0} (value : L → ℤ) (key : L → ℕ) (n : ℕ) (ls : List L) (ps : List ShortTid) → entries_with value key (drop n ls) (drop n ps) ≡ drop n (entries_with value key ls ps)
entries_with-drop value key zero ls ps = refl
entries_with-drop value key (suc n) [] ps = refl
entries_with-drop value key (suc n) (l ∷ ls) [] = none_left value key (drop n ls)
entries_with-drop value key (suc n) (l ∷ ls) (p ∷ ps) = entries_with-drop value key n ls ps

entries_with-append : {L : Type 0} (value : L → ℤ) (key : L → ℕ) (ls ms : List L) (ps qs : List ShortTid) → length ls ≡ length ps
    → entries_with value key (ls ++ ms) (ps ++ qs) ≡ entries_with value key ls ps ++ entries_with value key ms qs
entries_with-append value key [] ms [] qs alike = refl
entries_with-append value key [] ms (p ∷ ps) qs alike = absurd (omega (arith, alike))
entries_with-append value key (l ∷ ls) ms [] qs alike = absurd (omega (arith, alike))
entries_with-append value key (l ∷ ls) ms (p ∷ ps) qs alike = ap (λ rest. entry_with value key l p ∷ rest) (entries_with-append value key ls ms ps qs (omega (arith, alike)))

pub entries_with-at : {L : Type 0} (value : L → ℤ) (key : L → ℕ) (ls : List L) (ps : List ShortTid) (i : ℕ) (l : L) (p : ShortTid) → i < length ls → length ls ≡ length ps
    → slice_get (entries_with value key ls ps) i ≡ Some (entry_with value key (get_or ls i l) (get_or ps i p))
entries_with-at value key [] ps i l p within alike = absurd (omega (arith, within))
entries_with-at value key (m ∷ ls) [] i l p within alike = absurd (omega (arith, alike))
entries_with-at value key (m ∷ ls) (q ∷ ps) zero l p within alike = refl
entries_with-at value key (m ∷ ls) (q ∷ ps) (suc i) l p within alike = entries_with-at value key ls ps i l p (omega (arith, within)) (omega (arith, alike))

-- what is read at a place of both columns is the entry there
pub read_at : {L : Type 0} (value : L → ℤ) (key : L → ℕ) (ls : List L) (ps : List ShortTid) (xs : List Entry) (i : ℕ) (l : L) (p : ShortTid) (v : ℤ) (k : ℕ) (t : Tid) → length ls ≡ length ps
    → entries_with value key ls ps ≡ xs → i < length xs → l ≡ get_or ls i l → p ≡ get_or ps i p → v ≡ value l → k ≡ key l → t ≡ long p → slice_get xs i ≡ Some (record { value = v; key = k; tid = t })
read_at value key ls ps xs i l p v k t alike is within at_l at_p of_v of_k of_t =
    ap (λ ys. slice_get ys i) (sym is)
    ∙ entries_with-at value key ls ps i l p (omega (arith, within, (counts value key ls ps xs alike is).0)) alike
    ∙ ap (λ m. Some (entry_with value key m (get_or ps i p))) (sym at_l)
    ∙ ap (λ q. Some (entry_with value key l q)) (sym at_p)
    ∙ ap Some (entry_is (value l) v (key l) k (long p) t (sym of_v) (sym of_k) (sym of_t))
  where
    entry_is : (v w : ℤ) (k m : ℕ) (t u : Tid) → v ≡ w → k ≡ m → t ≡ u → (let e : Entry = record { value = v; key = k; tid = t } in e) ≡ record { value = w; key = m; tid = u }
    entry_is v w k m t u a b c = rw (a, b, c) refl

pub entries_with-set : {L : Type 0} (value : L → ℤ) (key : L → ℕ) (ls : List L) (ps : List ShortTid) (i : ℕ) (l : L) (p : ShortTid)
    → entries_with value key (set ls i l) (set ps i p) ≡ set (entries_with value key ls ps) i (entry_with value key l p)
entries_with-set value key [] ps i l p = refl
entries_with-set value key (m ∷ ls) [] zero l p = refl
entries_with-set value key (m ∷ ls) [] (suc i) l p = refl
entries_with-set value key (m ∷ ls) (q ∷ ps) zero l p = refl
entries_with-set value key (m ∷ ls) (q ∷ ps) (suc i) l p = ap (λ rest. entry_with value key m q ∷ rest) (entries_with-set value key ls ps i l p)

pub entries_with-insert : {L : Type 0} (value : L → ℤ) (key : L → ℕ) (ls : List L) (ps : List ShortTid) (i : ℕ) (l : L) (p : ShortTid) → i ≤ length ls → length ls ≡ length ps
    → entries_with value key (insert ls i l) (insert ps i p) ≡ insert (entries_with value key ls ps) i (entry_with value key l p)
entries_with-insert value key ls ps i l p within alike =
    entries_with-append value key (take i ls) (l ∷ drop i ls) (take i ps) (p ∷ drop i ps)
    (length-take-le i ls within ∙ sym (length-take-le i ps (omega (arith, within, alike))))
    ∙ ap (λ front. front ++ entry_with value key l p ∷ entries_with value key (drop i ls) (drop i ps)) (entries_with-take value key i ls ps)
    ∙ ap (λ back. take i (entries_with value key ls ps) ++ entry_with value key l p ∷ back) (entries_with-drop value key i ls ps)

-- an entry is put into both columns

pub entry_put : {L : Type 0} (value : L → ℤ) (key : L → ℕ) (ls ls' : List L) (ps ps' : List ShortTid) (xs : List Entry) (i : ℕ) (l : L) (p : ShortTid) (e : Entry) → length ls ≡ length ps
    → entries_with value key ls ps ≡ xs → i ≤ length xs → ls' ≡ insert ls i l → ps' ≡ insert ps i p → value l ≡ e.value → key l ≡ e.key → long p ≡ e.tid → entries_with value key ls' ps' ≡ insert xs i e
entry_put value key ls ls' ps ps' xs i l p e alike is within at_l at_p of_v of_k of_t =
    ap (λ ms. entries_with value key ms ps') at_l
    ∙ ap (λ qs. entries_with value key (insert ls i l) qs) at_p
    ∙ entries_with-insert value key ls ps i l p (omega (arith, within, (counts value key ls ps xs alike is).0)) alike
    ∙ ap (λ ys. insert ys i (entry_with value key l p)) is
    ∙ ap (λ f. insert xs i f) (entry_same (value l) (key l) (long p) e of_v of_k of_t)
  where
    entry_same : (v : ℤ) (k : ℕ) (t : Tid) (e : Entry) → v ≡ e.value → k ≡ e.key → t ≡ e.tid → (let f : Entry = record { value = v; key = k; tid = t } in f) ≡ e
    entry_same v k t e a b c = rw (a, b, c) refl

pub still_columns : {L : Type 0} (ls ls' : List L) (ps ps' : List ShortTid) (i : ℕ) (l : L) (p : ShortTid) (label_room place_room label_room' place_room' : ℕ)
    → AreColumns (length ls) (length ps) label_room place_room → i ≤ length ls → length ls < 128 → (64 ≤ length ls → 128 ≤ min label_room place_room) → ls' ≡ insert ls i l → ps' ≡ insert ps i p → label_room ≤ label_room' → place_room ≤ place_room'
    → AreColumns (length ls') (length ps') label_room' place_room'
still_columns ls ls' ps ps' i l p label_room place_room label_room' place_room' are within few room at_l at_p more_l more_p =
    let one = ap length at_l ∙ length-insert ls i l within in
    let two = ap length at_p ∙ length-insert ps i p (omega (arith, within, are.alike)) in
    record {
      alike = omega (arith, one, two, are.alike);
      few = omega (arith, one, few);
      labels_reserved = omega (arith, more_l, are.labels_reserved);
      places_reserved = omega (arith, more_p, are.places_reserved);
      large = λ many. let both = room (omega (arith, many, one)) in (omega (arith, both, more_l), omega (arith, both, more_p));
    }

-- there is room for one more
pub room_for : (n label_room place_room : ℕ) → n < 128 → 64 ≤ label_room → 64 ≤ place_room → (64 ≤ n → 128 ≤ min label_room place_room) → (n < label_room) × (n < place_room)
room_for n label_room place_room few labels places large = elim (cases_lt n 64) [
  | inl less ↦ (omega (arith, less, labels), omega (arith, less, places))
  | inr more ↦ let both = large more in (omega (arith, few, both), omega (arith, few, both))
]

-- An entry is taken out of both columns.

pub entries_with-remove : {L : Type 0} (value : L → ℤ) (key : L → ℕ) (ls : List L) (ps : List ShortTid) (i : ℕ) → length ls ≡ length ps → i < length ls
    → entries_with value key (remove ls i) (remove ps i) ≡ remove (entries_with value key ls ps) i
entries_with-remove value key [] ps i alike within = absurd (omega (arith, within))
entries_with-remove value key (l ∷ ls) [] i alike within = absurd (omega (arith, alike))
entries_with-remove value key (l ∷ ls) (p ∷ ps) zero alike within = refl
entries_with-remove value key (l ∷ ls) (p ∷ ps) (suc i) alike within = ap (λ rest. entry_with value key l p ∷ rest) (entries_with-remove value key ls ps i (omega (arith, alike)) (omega (arith, within)))

pub entry_out : {L : Type 0} (value : L → ℤ) (key : L → ℕ) (ls ls' : List L) (ps ps' : List ShortTid) (xs : List Entry) (i : ℕ) → length ls ≡ length ps → i < length ls
    → entries_with value key ls ps ≡ xs → ls' ≡ remove ls i → ps' ≡ remove ps i → entries_with value key ls' ps' ≡ remove xs i
entry_out value key ls ls' ps ps' xs i alike within is of_ls of_ps =
    ap (λ ms. entries_with value key ms ps') of_ls ∙ ap (λ qs. entries_with value key (remove ls i) qs) of_ps ∙ entries_with-remove value key ls ps i alike within ∙ ap (λ ys. remove ys i) is

pub fewer_columns : {L : Type 0} (ls ls' : List L) (ps ps' : List ShortTid) (i : ℕ) (label_room place_room label_room' place_room' : ℕ) → AreColumns (length ls) (length ps) label_room place_room → i < length ls
    → ls' ≡ remove ls i → ps' ≡ remove ps i → label_room ≤ label_room' → place_room ≤ place_room' → AreColumns (length ls') (length ps') label_room' place_room'
fewer_columns ls ls' ps ps' i label_room place_room label_room' place_room' are within of_ls of_ps same_l same_p =
    let one = length-remove ls i within in
    let two = length-remove ps i (omega (arith, within, are.alike)) in
    let labels = ap length of_ls in
    let places = ap length of_ps in
    record {
      alike = omega (arith, one, two, labels, places, are.alike);
      few = omega (arith, one, labels, are.few);
      labels_reserved = omega (arith, same_l, are.labels_reserved);
      places_reserved = omega (arith, same_p, are.places_reserved);
      large = λ many. let both = are.large (omega (arith, many, one, labels)) in (omega (arith, both.0, same_l), omega (arith, both.1, same_p));
    }

-- Both columns are parted.

pub entries_with-front : {L : Type 0} (value : L → ℤ) (key : L → ℕ) (ls ls' : List L) (ps ps' : List ShortTid) (xs : List Entry) (n : ℕ) → entries_with value key ls ps ≡ xs → ls' ≡ take n ls → ps' ≡ take n ps
    → entries_with value key ls' ps' ≡ take n xs
entries_with-front value key ls ls' ps ps' xs n is of_ls of_ps =
    ap (λ ms. entries_with value key ms ps') of_ls ∙ ap (λ qs. entries_with value key (take n ls) qs) of_ps ∙ entries_with-take value key n ls ps ∙ ap (λ ys. take n ys) is

pub entries_with-back : {L : Type 0} (value : L → ℤ) (key : L → ℕ) (ls ls' : List L) (ps ps' : List ShortTid) (xs : List Entry) (n : ℕ) → entries_with value key ls ps ≡ xs → ls' ≡ drop n ls → ps' ≡ drop n ps
    → entries_with value key ls' ps' ≡ drop n xs
entries_with-back value key ls ls' ps ps' xs n is of_ls of_ps =
    ap (λ ms. entries_with value key ms ps') of_ls ∙ ap (λ qs. entries_with value key (drop n ls) qs) of_ps ∙ entries_with-drop value key n ls ps ∙ ap (λ ys. drop n ys) is

-- Which value comes first.

pub value_at : {L : Type 0} (value : L → ℤ) (key : L → ℕ) (ls : List L) (ps : List ShortTid) (xs : List Entry) (i : ℕ) (l : L) (d : Entry) → length ls ≡ length ps
    → entries_with value key ls ps ≡ xs → i < length xs → l ≡ get_or ls i l → (get_or xs i d).value ≡ value l
value_at value key ls ps xs i l d alike is within at_l =
    let p : ShortTid = record { number = 0 } in
    let at = entries_with-at value key ls ps i l p (omega (arith, within, (counts value key ls ps xs alike is).0)) alike in
    ap (λ (e : Entry). e.value) (get_or_from_slice_get xs i (entry_with value key (get_or ls i l) (get_or ps i p)) d (ap (λ ys. slice_get ys i) (sym is) ∙ at))
    ∙ ap value (sym at_l)

pub lower_first : (a b : Entry) → a.value <ℤ b.value → true ≡ is_lt (comparison a b)
lower_first a b low = rw (sym (int_cmp_is a.value b.value Less low)) refl

pub higher_last : (a b : Entry) → b.value <ℤ a.value → false ≡ is_lt (comparison a b)
higher_last a b high = rw (sym (int_cmp_is a.value b.value Greater high)) refl
