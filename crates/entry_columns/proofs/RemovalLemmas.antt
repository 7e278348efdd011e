-- A removal goes over the entries, one after another: those so far that stay stand in front.
use Rattle.std.proofs.Common.{◌≡◌, ◌↔◌, ◌∙◌, ℕ, zero, suc, ◌+◌, ◌-◌, ◌<◌, ◌≤◌, ◌^◌, Some, ℤ, List, [], ◌∷◌, ◌++◌, length, get_or, take, drop, set, cond, not, Bool, true, false, IsTrue, Option, IfSome, slice_get, pos, sym, ap, refl, subst, arith, Contains}
use Rattle.std.specs.List.{filter, remove}
use Rattle.std.proofs.lemmas.List.{append_assoc, append-nil, length-set, take_all, take_more, take_more_set, drop-set-lt, drop_more, drop_all}
use Rattle.std.proofs.lemmas.Option.{get_or_from_slice_get, slice_get-get_or}
use Rattle.xid_circle.specs.declared.Tid.{Tid}
use Rattle.index_entries.specs.declared.entry.Entry.{Entry}
use Rattle.index_entries.specs.Lists.{stays}
use Rattle.index_entries.proofs.SetLemmas.{dead-is}
use Rattle.entry_columns.specs.declared.short_tid.ShortTid.{ShortTid}
use Rattle.entry_columns.specs.Columns.{long, entry_with, entries_with}
use Rattle.entry_columns.specs.Gaps.{AreNumberedWithin, AreOutsideFrom}
use Rattle.entry_columns.proofs.ColumnLemmas.{counts, entries_with-at, entries_with-set}

-- One entry.

tid_in : {L : Type 0} (value : L → ℤ) (key : L → ℕ) (ls : List L) (ps : List ShortTid) (i : ℕ) (d : Entry) (p : ShortTid) → i < length ls → length ls ≡ length ps
    → (get_or (entries_with value key ls ps) i d).tid ≡ long (get_or ps i p)
tid_in value key [] ps i d p within alike = absurd (omega (arith, within))
tid_in value key (l ∷ ls) [] i d p within alike = absurd (omega (arith, alike))
tid_in value key (l ∷ ls) (q ∷ ps) zero d p within alike = refl
tid_in value key (l ∷ ls) (q ∷ ps) (suc i) d p within alike = tid_in value key ls ps i d p (omega (arith, within)) (omega (arith, alike))

stays_from : (b s : Bool) → b ≡ not s → b ≡ false → s ≡ true
stays_from b true is unlike = refl
stays_from b false is unlike = absurd (cc (is, unlike))

goes_from : (b s : Bool) → b ≡ not s → b ≡ true → s ≡ false
goes_from b true is alike = absurd (cc (is, alike))
goes_from b false is alike = refl

-- what is said of the place is said of the entry there
fate_at : {L : Type 0} (value : L → ℤ) (key : L → ℕ) (ls : List L) (ps : List ShortTid) (i : ℕ) (d : Entry) (p : ShortTid) (dead : List Tid) (b : Bool) → i < length ls → length ls ≡ length ps
    → p ≡ get_or ps i p → (IsTrue b ↔ Contains dead (long p)) → b ≡ not (stays dead (get_or (entries_with value key ls ps) i d))
fate_at value key ls ps i d p dead b within alike at says =
    let tid = tid_in value key ls ps i d p within alike ∙ ap long (sym at) in
    dead-is dead (get_or (entries_with value key ls ps) i d) b (subst (λ t. IsTrue b ↔ Contains dead t) (sym tid) says)

-- The entries from a place on.

kept_there : (test : Entry → Bool) (xs : List Entry) (place : ℕ) (d : Entry) → place < length xs → test (get_or xs place d) ≡ true
    → take (place + 1) xs ++ filter test (drop (place + 1) xs) ≡ take place xs ++ filter test (drop place xs)
kept_there test xs place d within stays =
    let x = get_or xs place d in
    let rest = filter test (drop (place + 1) xs) in
    ap (λ front. front ++ rest) (take_more xs place d within)
    ∙ append_assoc (take place xs) (x ∷ []) rest
    ∙ ap (λ ys. take place xs ++ ys) (sym (ap (λ ys. filter test ys) (drop_more xs place d within) ∙ ap (λ b. cond b (x ∷ rest) rest) stays))

passed_over : (test : Entry → Bool) (xs : List Entry) (kept place : ℕ) (d : Entry) → place < length xs → test (get_or xs place d) ≡ false
    → take kept xs ++ filter test (drop (place + 1) xs) ≡ take kept xs ++ filter test (drop place xs)
passed_over test xs kept place d within goes =
    let x = get_or xs place d in
    let rest = filter test (drop (place + 1) xs) in
    ap (λ ys. take kept xs ++ ys) (sym (ap (λ ys. filter test ys) (drop_more xs place d within) ∙ ap (λ b. cond b (x ∷ rest) rest) goes))

moved_up : (test : Entry → Bool) (xs : List Entry) (kept place : ℕ) (d : Entry) → kept ≤ place → place < length xs → test (get_or xs place d) ≡ true
    → take (kept + 1) (set xs kept (get_or xs place d)) ++ filter test (drop (place + 1) (set xs kept (get_or xs place d))) ≡ take kept xs ++ filter test (drop place xs)
moved_up test xs kept place d order within stays =
    let x = get_or xs place d in
    let rest = filter test (drop (place + 1) xs) in
    ap (λ front. front ++ filter test (drop (place + 1) (set xs kept x))) (take_more_set xs kept x (omega (arith, order, within)))
    ∙ ap (λ ys. (take kept xs ++ x ∷ []) ++ filter test ys) (drop-set-lt (place + 1) xs kept x (omega (arith, order)))
    ∙ append_assoc (take kept xs) (x ∷ []) rest
    ∙ ap (λ ys. take kept xs ++ ys) (sym (ap (λ ys. filter test ys) (drop_more xs place d within) ∙ ap (λ b. cond b (x ∷ rest) rest) stays))

-- at the end all stay
pub at_end : (test : Entry → Bool) (xs : List Entry) (kept place : ℕ) → length xs ≤ place → take kept xs ++ filter test (drop place xs) ≡ take kept xs
at_end test xs kept place past = ap (λ ys. take kept xs ++ filter test ys) (drop_all place xs past) ∙ append-nil (take kept xs)

pub all_stay : (test : Entry → Bool) (xs : List Entry) (place : ℕ) → length xs ≤ place → take place xs ++ filter test (drop place xs) ≡ xs
all_stay test xs place past = at_end test xs place place past ∙ take_all place xs past

-- One entry to a dead place is taken out.

taken : (test : Entry → Bool) (xs : List Entry) (i : ℕ) (d : Entry) → i < length xs → test (get_or xs i d) ≡ false
    → take i (remove xs i) ++ filter test (drop i (remove xs i)) ≡ take i xs ++ filter test (drop i xs)
taken test [] i d within goes = absurd (omega (arith, within))
taken test (x ∷ xs) zero d within goes = sym (ap (λ b. cond b (x ∷ filter test xs) (filter test xs)) goes)
taken test (x ∷ xs) (suc i) d within goes = ap (λ rest. x ∷ rest) (taken test xs i d (omega (arith, within)) goes)

pub taken_out : (dead : List Tid) (xs : List Entry) (i : ℕ) → i < length xs → IfSome (slice_get xs i) (λ e. Contains dead e.tid)
    → take i (remove xs i) ++ filter (stays dead) (drop i (remove xs i)) ≡ take i xs ++ filter (stays dead) (drop i xs)
taken_out dead xs i within gone =
    let d : Entry = record { value = pos 0; key = 0; tid = record { page = 0; slot = 0 } } in
    let e = get_or xs i d in
    let there : Contains dead e.tid = subst (λ (o : Option Entry). IfSome o (λ f. Contains dead f.tid)) (slice_get-get_or xs i d within) gone in
    let fate = dead-is dead e true ((λ yes. there), (λ yes. refl)) in
    taken (stays dead) xs i d within (goes_from true (stays dead e) fate refl)

-- The next dead place is looked for.

pub none_yet : {L : Type 0} (value : L → ℤ) (key : L → ℕ) (ls : List L) (ps : List ShortTid) (xs : List Entry) (place from : ℕ) (p : ShortTid) (dead : List Tid) (b : Bool) (d : Entry)
    → length ls ≡ length ps → entries_with value key ls ps ≡ xs → place < length xs → p ≡ get_or ps place p → (IsTrue b ↔ Contains dead (long p)) → b ≡ false
    → take place xs ++ filter (stays dead) (drop place xs) ≡ take from xs ++ filter (stays dead) (drop from xs)
    → take (place + 1) xs ++ filter (stays dead) (drop (place + 1) xs) ≡ take from xs ++ filter (stays dead) (drop from xs)
none_yet value key ls ps xs place from p dead b d alike is within at says alive so_far =
    let fate = subst (λ ys. b ≡ not (stays dead (get_or ys place d))) is (fate_at value key ls ps place d p dead b (omega (arith, within, (counts value key ls ps xs alike is).0)) alike at says) in
    kept_there (stays dead) xs place d within (stays_from b (stays dead (get_or xs place d)) fate alive) ∙ so_far

-- a place outside of all numbers of dead places is none of these
not_dead : (ps : List ShortTid) (i from to least more : ℕ) (p : ShortTid) (dead : List Tid) → AreNumberedWithin dead least more → AreOutsideFrom ps from to least more
    → from ≤ i → i < to → slice_get ps i ≡ Some p → ¬ Contains dead (long p)
not_dead ps i from to least more p dead within outside first last at there =
    let here = subst (λ (o : Option ShortTid). IfSome o (λ (q : ShortTid). (q.number < 2 ^ 32) × (least ≤ q.number → least + more < q.number))) at (outside i first last) in
    let inside = within p here.0 there in
    absurd (let past = here.1 inside.0 in omega (arith, past, inside.1))

-- so the entries there stay
none_among : {L : Type 0} (value : L → ℤ) (key : L → ℕ) (ls : List L) (ps : List ShortTid) (xs : List Entry) (from many least more : ℕ) (dead : List Tid)
    → length ls ≡ length ps → entries_with value key ls ps ≡ xs → from + many ≤ length ps → AreNumberedWithin dead least more → AreOutsideFrom ps from (from + many) least more
    → take (from + many) xs ++ filter (stays dead) (drop (from + many) xs) ≡ take from xs ++ filter (stays dead) (drop from xs)
none_among value key ls ps xs from zero least more dead alike is end within outside = ap (λ n. take n xs ++ filter (stays dead) (drop n xs)) (omega arith)
none_among value key ls ps xs from (suc many) least more dead alike is end within outside =
    let place = from + many in
    let none : ShortTid = record { number = 0 } in
    let entry : Entry = record { value = pos 0; key = 0; tid = record { page = 0; slot = 0 } } in
    let p = get_or ps place none in
    let at : slice_get ps place ≡ Some p = slice_get-get_or ps place none (omega (arith, end)) in
    let here = get_or_from_slice_get ps place p p at in
    let long_too = counts value key ls ps xs alike is in
    let alive = not_dead ps place from (from + suc many) least more p dead within outside (omega arith) (omega arith) at in
    ap (λ n. take n xs ++ filter (stays dead) (drop n xs)) (omega arith)
    ∙ none_yet value key ls ps xs place from p dead false entry alike is (omega (arith, end, long_too.1)) (sym here) ((λ no. absurd (cc no)), (λ there. absurd (alive there))) refl
    (none_among value key ls ps xs from many least more dead alike is (omega (arith, end)) within (λ i first last. outside i first (omega (arith, last))))

pub none_between : {L : Type 0} (value : L → ℤ) (key : L → ℕ) (ls : List L) (ps : List ShortTid) (xs : List Entry) (from to least more : ℕ) (dead : List Tid)
    → length ls ≡ length ps → entries_with value key ls ps ≡ xs → from ≤ to → to ≤ length ps → AreNumberedWithin dead least more → AreOutsideFrom ps from to least more
    → take to xs ++ filter (stays dead) (drop to xs) ≡ take from xs ++ filter (stays dead) (drop from xs)
none_between value key ls ps xs from to least more dead alike is order end within outside =
    let whole : from + (to - from) ≡ to = omega (arith, order) in
    ap (λ n. take n xs ++ filter (stays dead) (drop n xs)) (sym whole)
    ∙ none_among value key ls ps xs from (to - from) least more dead alike is (omega (arith, order, end)) within (subst (λ n. AreOutsideFrom ps from n least more) (sym whole) outside)

-- there is one
pub dead_there : {L : Type 0} (value : L → ℤ) (key : L → ℕ) (ls : List L) (ps : List ShortTid) (xs : List Entry) (place : ℕ) (p : ShortTid) (dead : List Tid) (d : Entry)
    → length ls ≡ length ps → entries_with value key ls ps ≡ xs → place < length xs → p ≡ get_or ps place p → Contains dead (long p)
    → IfSome (slice_get xs place) (λ e. Contains dead e.tid)
dead_there value key ls ps xs place p dead d alike is within at there =
    let tid = tid_in value key ls ps place d p (omega (arith, within, (counts value key ls ps xs alike is).0)) alike ∙ ap long (sym at) in
    let same : (get_or xs place d).tid ≡ long p = subst (λ ys. (get_or ys place d).tid ≡ long p) is tid in
    subst (λ (o : Option Entry). IfSome o (λ e. Contains dead e.tid)) (sym (slice_get-get_or xs place d within)) (subst (Contains dead) (sym same) there)

-- Those to dead places are removed.

-- of the entries there were at first, the first places were looked at, and so many from the beginning on are kept
pub record IsRemoving {L : Type 0} (value : L → ℤ) (key : L → ℕ) (dead : List Tid) (first : List Entry) (room from kept place : ℕ) (ls : List L) (ps : List ShortTid) (label_room place_room : ℕ) : Type 0 where
  pub entries : take kept (entries_with value key ls ps) ++ filter (stays dead) (drop place (entries_with value key ls ps)) ≡ take from first ++ filter (stays dead) (drop from first)
  pub order : kept ≤ place
  pub labels : length ls ≡ length first
  pub places : length ps ≡ length first
  pub few : length first ≤ 128
  pub half : 64 ≤ room
  pub large : 64 < length first → 128 ≤ room
  pub labels_reserved : room ≤ label_room
  pub places_reserved : room ≤ place_room

module _ {L : Type 0} (value : L → ℤ) (key : L → ℕ) (dead : List Tid) (first : List Entry) (room from kept place : ℕ) (ls : List L) (ps : List ShortTid) (label_room place_room : ℕ)
    (so_far : IsRemoving value key dead first room from kept place ls ps label_room place_room) (p : ShortTid) (b : Bool) (d : Entry)
    (within : place < length first) (at : p ≡ get_or ps place p) (says : IsTrue b ↔ Contains dead (long p)) where
  fate : b ≡ not (stays dead (get_or (entries_with value key ls ps) place d))
  fate = fate_at value key ls ps place d p dead b (omega (arith, within, so_far.labels)) (so_far.labels ∙ sym so_far.places) at says

  inside : place < length (entries_with value key ls ps)
  inside = omega (arith, within, so_far.labels, (counts value key ls ps (entries_with value key ls ps) (so_far.labels ∙ sym so_far.places) refl).0)

  pub removing_one : b ≡ true → IsRemoving value key dead first room from kept (place + 1) ls ps label_room place_room
  removing_one gone = record {
    entries = passed_over (stays dead) (entries_with value key ls ps) kept place d inside (goes_from b (stays dead (get_or (entries_with value key ls ps) place d)) fate gone) ∙ so_far.entries;
    order = omega (arith, so_far.order);
    labels = so_far.labels;
    places = so_far.places;
    few = so_far.few;
    half = so_far.half;
    large = so_far.large;
    labels_reserved = so_far.labels_reserved;
    places_reserved = so_far.places_reserved;
  }

  pub keeping_one : (l : L) (ls' : List L) (ps' : List ShortTid) (label_room' place_room' : ℕ) → b ≡ false → l ≡ get_or ls place l → ls' ≡ set ls kept l → ps' ≡ set ps kept p
      → label_room ≤ label_room' → place_room ≤ place_room' → IsRemoving value key dead first room from (kept + 1) (place + 1) ls' ps' label_room' place_room'
  keeping_one l ls' ps' label_room' place_room' alive at_l of_ls of_ps more_l more_p =
      let xs = entries_with value key ls ps in
      let e = entry_with value key l p in
      let here : e ≡ get_or xs place d =
      ap (λ q. entry_with value key l q) at ∙ ap (λ m. entry_with value key m (get_or ps place p)) at_l
      ∙ sym (get_or_from_slice_get xs place (entry_with value key (get_or ls place l) (get_or ps place p)) d
      (entries_with-at value key ls ps place l p (omega (arith, within, so_far.labels)) (so_far.labels ∙ sym so_far.places))) in
      let made : entries_with value key ls' ps' ≡ set xs kept (get_or xs place d) =
      ap (λ ms. entries_with value key ms ps') of_ls ∙ ap (λ qs. entries_with value key (set ls kept l) qs) of_ps ∙ entries_with-set value key ls ps kept l p ∙ ap (λ f. set xs kept f) here in
      record {
        entries = ap (λ ys. take (kept + 1) ys ++ filter (stays dead) (drop (place + 1) ys)) made
            ∙ moved_up (stays dead) xs kept place d so_far.order inside (stays_from b (stays dead (get_or xs place d)) fate alive) ∙ so_far.entries;
        order = omega (arith, so_far.order);
        labels = ap length of_ls ∙ length-set ls kept l ∙ so_far.labels;
        places = ap length of_ps ∙ length-set ps kept p ∙ so_far.places;
        few = so_far.few;
        half = so_far.half;
        large = so_far.large;
        labels_reserved = omega (arith, so_far.labels_reserved, more_l);
        places_reserved = omega (arith, so_far.places_reserved, more_p);
      }
