-- Places by their numbers, and what lies in a gap.
use Rattle.std.proofs.Common.{◌≡◌, ◌∙◌, ℕ, ◌+◌, ◌-◌, ◌*◌, ◌/◌, ◌%◌, ◌<◌, ◌≤◌, ◌^◌, inl, inr, ℤ, List, [], ◌∷◌, length, get_or, take, drop, Some, Option, IfSome, slice_get, sym, ap, subst, arith, Contains}
use Rattle.std.specs.List.{All}
use Rattle.std.specs.Ordering.{nat_cmp}
use Rattle.std.specs.declared.cmp.Ordering.TheVariants.{Less, Equal}
use Rattle.std.proofs.lemmas.Bool.{cases_lt}
use Rattle.std.proofs.lemmas.Cmp.{ranked}
use Rattle.std.proofs.lemmas.List.{length-take, length-drop, get_or-take, get_or-drop}
use Rattle.std.proofs.lemmas.List.Elements.{All-cons, All-head, All-tail, All-weaker, All-more}
use Rattle.std.proofs.lemmas.Option.{slice_get-get_or}
use Rattle.xid_circle.specs.declared.Tid.{Tid}
use Rattle.dead_places.specs.Places.{PlacePrecedes, AreAscending}
use Rattle.dead_places.proofs.PlaceLemmas.{less_both, ascending-at, same_number}
use Rattle.index_entries.specs.declared.entry.Entry.{Entry}
use Rattle.entry_columns.specs.declared.gap.Gap.{Gap}
use Rattle.entry_columns.specs.declared.short_tid.ShortTid.{ShortTid}
use Rattle.entry_columns.specs.Columns.{long, entry_with, entries_with}
use Rattle.entry_columns.specs.Gaps.{IsInside, AreOutside, AreOutsideFrom}

-- A later place is on no earlier page.

page_up : (a b : Tid) → PlacePrecedes a b → a.page ≤ b.page
page_up a b before = elim (less_both (nat_cmp a.page b.page) (nat_cmp a.slot b.slot) before) [
  | inl less ↦ let lower : a.page < b.page = ranked a.page b.page Less (sym less) in omega (arith, lower)
  | inr both ↦ let same : a.page ≡ b.page = ranked a.page b.page Equal (sym both.0) in omega (arith, same)
]

-- All of ascending places.

number_in : (xs : List Tid) (t : Tid) → Contains xs t → (k : ℕ) × (k < length xs) × (slice_get xs k ≡ Some t)
number_in xs t (k, within, is) = (k, within, slice_get-get_or xs k t within ∙ ap Some is)

pub all_from : (xs : List Tid) (first : Tid) (page : ℕ) → AreAscending xs → slice_get xs 0 ≡ Some first → page ≤ first.page → (t : Tid) → Contains xs t → page ≤ t.page
all_from xs first page up at from t there =
    let p = number_in xs t there in
    elim (cases_lt 0 p.0) [
      | inl later ↦ let on = page_up first t (ascending-at xs 0 p.0 first t up later at p.2) in omega (arith, from, on)
      | inr other ↦ subst (λ (u : Tid). page ≤ u.page) (same_number xs 0 p.0 first t (omega arith) at p.2) from
    ]

pub all_before : (xs : List Tid) (last : Tid) (page : ℕ) → AreAscending xs → slice_get xs (length xs - 1) ≡ Some last → last.page < page → (t : Tid) → Contains xs t → t.page < page
all_before xs last page up at before t there =
    let p = number_in xs t there in
    elim (cases_lt p.0 (length xs - 1)) [
      | inl earlier ↦ let on = page_up t last (ascending-at xs p.0 (length xs - 1) t last up earlier p.2 at) in omega (arith, before, on)
      | inr other ↦ subst (λ (u : Tid). u.page < page) (same_number xs (length xs - 1) p.0 last t (omega (arith, other, p.1)) at p.2) before
    ]

-- Numbers ahead of one.

abbrev pub AreAhead : ℕ → ℕ → List ShortTid → Type 0
AreAhead from ahead places = All (λ (p : ShortTid). from ≤ p.number → from + ahead ≤ p.number) places

pub ahead_more : (from ahead ahead' : ℕ) (ps : List ShortTid) (i : ℕ) (d : ShortTid) → i < length ps → AreAhead from ahead (take i ps) → ahead' ≤ ahead
    → (from ≤ (get_or ps i d).number → from + ahead' ≤ (get_or ps i d).number) → AreAhead from ahead' (take (i + 1) ps)
ahead_more from ahead ahead' ps i d within so_far less here =
    All-more (λ (q : ShortTid). from ≤ q.number → from + ahead' ≤ q.number) ps i d within
    (All-weaker (λ (q : ShortTid). from ≤ q.number → from + ahead ≤ q.number) (λ (q : ShortTid). from ≤ q.number → from + ahead' ≤ q.number) (λ q is le. let was = is le in omega (arith, was, less)) (take i ps) so_far)
    here

-- Of the places from a page on none is before the first, and none of the others before the second.
pub not_inside : (gap : Gap) (p : ShortTid) (ahead behind more : ℕ) → gap.but.number ≤ gap.from * 65536 + ahead → behind ≤ gap.but.number + 1 → gap.to * 65536 ≤ behind + more
    → (gap.from * 65536 ≤ p.number → gap.from * 65536 + ahead ≤ p.number) → (behind ≤ p.number → behind + more ≤ p.number) → ¬ IsInside gap (long p)
not_inside gap p ahead behind more first second to far far_too inside =
    let here : gap.but.number ≤ p.number = let past = far (omega (arith, inside.from)) in omega (arith, past, first) in
    elim (cases_lt gap.but.number p.number) [
      | inl later ↦ absurd (let past = far_too (omega (arith, later, second)) in omega (arith, past, to, inside.to))
      | inr other ↦ inside.other (ap (λ n. record { page = n / 65536; slot = n % 65536 }) (omega (arith, here, other)))
    ]

pub outside : {L : Type 0} (value : L → ℤ) (key : L → ℕ) (gap : Gap) (ls : List L) (ps : List ShortTid) → All (λ (p : ShortTid). ¬ IsInside gap (long p)) ps
    → AreOutside gap (entries_with value key ls ps)
outside value key gap [] ps out = λ k d within. absurd (omega (arith, within))
outside value key gap (l ∷ ls) [] out = λ k d within. absurd (omega (arith, within))
outside value key gap (l ∷ ls) (p ∷ ps) out =
    All-cons (λ (e : Entry). ¬ IsInside gap e.tid) (entry_with value key l p) (entries_with value key ls ps)
    (All-head (λ (p : ShortTid). ¬ IsInside gap (long p)) p ps out)
    (outside value key gap ls ps (All-tail (λ (p : ShortTid). ¬ IsInside gap (long p)) p ps out))

-- Of ascending places the first has the least number, and the last the greatest.

ahead_of : (a : Tid) (p : ShortTid) → a.slot < 65536 → PlacePrecedes a (long p) → a.page * 65536 + a.slot ≤ p.number
ahead_of a p small before = elim (less_both (nat_cmp a.page (p.number / 65536)) (nat_cmp a.slot (p.number % 65536)) before) [
  | inl less ↦ let lower : a.page < p.number / 65536 = ranked a.page (p.number / 65536) Less (sym less) in omega arith
  | inr both ↦
      let same : a.page ≡ p.number / 65536 = ranked a.page (p.number / 65536) Equal (sym both.0) in
      let lower : a.slot < p.number % 65536 = ranked a.slot (p.number % 65536) Less (sym both.1) in
      omega arith
]

behind_of : (a : Tid) (p : ShortTid) → PlacePrecedes (long p) a → p.number ≤ a.page * 65536 + a.slot
behind_of a p before = elim (less_both (nat_cmp (p.number / 65536) a.page) (nat_cmp (p.number % 65536) a.slot) before) [
  | inl less ↦ let lower : p.number / 65536 < a.page = ranked (p.number / 65536) a.page Less (sym less) in omega arith
  | inr both ↦
      let same : p.number / 65536 ≡ a.page = ranked (p.number / 65536) a.page Equal (sym both.0) in
      let lower : p.number % 65536 < a.slot = ranked (p.number % 65536) a.slot Less (sym both.1) in
      omega arith
]

number_is : (a : Tid) (p : ShortTid) → a ≡ long p → a.page * 65536 + a.slot ≡ p.number
number_is a p same =
    let page : a.page ≡ p.number / 65536 = ap (λ (t : Tid). t.page) same in
    let slot : a.slot ≡ p.number % 65536 = ap (λ (t : Tid). t.slot) same in
    omega arith

pub from_least : (xs : List Tid) (first : Tid) (p : ShortTid) → AreAscending xs → slice_get xs 0 ≡ Some first → first.slot < 65536 → Contains xs (long p) → first.page * 65536 + first.slot ≤ p.number
from_least xs first p up at small there =
    let q = number_in xs (long p) there in
    elim (cases_lt 0 q.0) [
      | inl later ↦ ahead_of first p small (ascending-at xs 0 q.0 first (long p) up later at q.2)
      | inr other ↦ let same = number_is first p (same_number xs 0 q.0 first (long p) (omega arith) at q.2) in omega (arith, same)
    ]

pub to_greatest : (xs : List Tid) (last : Tid) (p : ShortTid) → AreAscending xs → slice_get xs (length xs - 1) ≡ Some last → Contains xs (long p) → p.number ≤ last.page * 65536 + last.slot
to_greatest xs last p up at there =
    let q = number_in xs (long p) there in
    elim (cases_lt q.0 (length xs - 1)) [
      | inl earlier ↦ behind_of last p (ascending-at xs q.0 (length xs - 1) (long p) last up earlier q.2 at)
      | inr other ↦ let same = number_is last p (same_number xs (length xs - 1) q.0 last (long p) (omega (arith, other, q.1)) at q.2) in omega (arith, same)
    ]

-- Eight places more are outside.

pub outside_more : (ps : List ShortTid) (from place many least more ahead : ℕ) → place + many ≤ length ps → more < ahead → AreOutsideFrom ps from place least more
    → All (λ (p : ShortTid). p.number < 2 ^ 32) (take (place + many - place) (drop place ps)) → AreAhead least ahead (take (place + many - place) (drop place ps))
    → AreOutsideFrom ps from (place + many) least more
outside_more ps from place many least more ahead end past so_far small far = λ i first last. elim (cases_lt i place) [
  | inl before ↦ so_far i first before
  | inr after ↦
      let none : ShortTid = record { number = 0 } in
      let part = take (place + many - place) (drop place ps) in
      let k = i - place in
      let within : k < length part = omega (arith, after, last, end, length-take (place + many - place) (drop place ps), length-drop place ps) in
      let same : get_or part k none ≡ get_or ps i none =
      get_or-take (place + many - place) (drop place ps) k none (omega (arith, after, last)) ∙ get_or-drop place ps k none ∙ ap (λ j. get_or ps j none) (omega (arith, after)) in
      let at : slice_get ps i ≡ Some (get_or part k none) = slice_get-get_or ps i none (omega (arith, last, end)) ∙ ap Some (sym same) in
      subst (λ (o : Option ShortTid). IfSome o (λ (p : ShortTid). (p.number < 2 ^ 32) × (least ≤ p.number → least + more < p.number))) (sym at)
      (small k none within, λ least_first. let far_too = far k none within least_first in omega (arith, far_too, past))
]
