-- What a sweep does to the set of all entries.
use Rattle.std.proofs.Common.{◌≡◌, ◌∙◌, ℕ, zero, suc, ◌+◌, ◌-◌, ◌^◌, ◌<◌, ◌≤◌, ◌⊎◌, inl, inr, ⊎_elim, ◌↔◌, List, [], ◌∷◌, ◌++◌, length, max, get_or, Bool, true, false, Option, Some, slice_get, sym, ap, refl, subst, arith, Contains}
use Rattle.std.specs.List.{filter, All}
use Rattle.std.proofs.lemmas.Bool.{cases_lt}
use Rattle.std.proofs.lemmas.List.{length-append}
use Rattle.std.proofs.lemmas.List.Elements.{Contains-get_or, All-contains, All-filter, All-contains_itself, filter_passes, Contains-append_left, Contains-append_right, Contains-append_cases}
use Rattle.std.proofs.lemmas.List.Kept.{AllPairs-cons}
use Rattle.std.proofs.lemmas.Option.{slice_get_within}
use Rattle.xid_circle.specs.declared.Tid.{Tid}
use Rattle.xid_circle.proofs.Members.{Contains-none}
use Rattle.index_entries.specs.declared.entry.Entry.{Entry}
use Rattle.index_entries.specs.declared.node.Swept.{Swept}
use Rattle.root_index.specs.declared.progress.Progress.{Progress}
use Rattle.root_index.specs.declared.progress.Progress.TheVariants.{More, Done}
use Rattle.index_nodes.specs.declared.nodes.TreePosition.{TreePosition}
use Rattle.index_entries.specs.Order.{EntryPrecedes, IsAscending}
use Rattle.index_entries.specs.Sets.{IsAfter, IsStart}
use Rattle.index_entries.specs.Lists.{stays}
use Rattle.index_nodes.specs.Nodes.{all, rank_in, AreNeat, IsStartIn}
use Rattle.index_nodes.specs.Rows.{none_without}
use Rattle.index_entries.specs.Sweeps.{IsSwept}
use Rattle.root_index.specs.Trees.{Tree, tree_entries, among, long_among, IsNeatTree, SetAside, IsSoundIndex}
use Rattle.root_index.specs.Pieces.{RemovesPiece}
use Rattle.root_index.specs.View.{free_places}
use Rattle.index_entries.proofs.OrderLemmas.{Precedes-not_back, not_before_itself, ascending-tail, ascending-head}
use Rattle.index_nodes.proofs.RowEditLemmas.{get_front, get_behind}
use Rattle.index_entries.proofs.SetLemmas.{place_of, ascending-at, same_place, kept, stays-is, Contains-from_place}

ascending_back : (xs ys : List Entry) → IsAscending (xs ++ ys) → IsAscending ys
ascending_back [] ys up = up
ascending_back (x ∷ xs) ys up = ascending_back xs ys (ascending-tail x (xs ++ ys) up)

all-from : (P : Entry → Type 0) (xs : List Entry) → ((e : Entry) → Contains xs e → P e) → All P xs
all-from P xs h k d within = h (get_or xs k d) (Contains-get_or xs k d within)

filtered : (test : Entry → Bool) (xs : List Entry) (e : Entry) → Contains (filter test xs) e → Contains xs e × (test e ≡ true)
filtered test xs e h = (
  All-contains (Contains xs) (filter test xs) e (All-filter test (Contains xs) xs (All-contains_itself xs)) h,
  All-contains (λ x. test x ≡ true) (filter test xs) e (filter_passes test xs) h,
)

among_both : (xs xs' ys : List Entry) → ((e : Entry) → Contains xs e → Contains xs' e) → (e : Entry) → Contains (xs ++ ys) e → Contains (xs' ++ ys) e
among_both xs xs' ys more e h =
    ⊎_elim (λ first. Contains-append_left xs' ys e (more e first)) (λ second. Contains-append_right xs' ys e second) (Contains-append_cases xs ys e h)

ascending_filtered : (test : Entry → Bool) (piece back : List Entry) → IsAscending (piece ++ back) → IsAscending (filter test piece ++ back)
ascending_filtered test [] back up = up
ascending_filtered test (x ∷ piece) back up = by_case (test x) refl (ascending_filtered test piece back (ascending-tail x (piece ++ back) up))
  where
    later : All (EntryPrecedes x) (filter test piece ++ back)
    later = all-from (EntryPrecedes x) (filter test piece ++ back)
        (λ e h. ascending-head x e (piece ++ back) up (among_both (filter test piece) piece back (λ e there. (filtered test piece e there).0) e h))

    by_case : (b : Bool) → test x ≡ b → IsAscending (filter test piece ++ back) → IsAscending (filter test (x ∷ piece) ++ back)
    by_case true is rest = rw is (AllPairs-cons EntryPrecedes x (filter test piece ++ back) later rest)
    by_case false is rest = rw is rest

ascending_front : (prefix xs ys : List Entry) → IsAscending (prefix ++ xs) → IsAscending ys → ((e : Entry) → Contains ys e → Contains xs e) → IsAscending (prefix ++ ys)
ascending_front [] xs ys up up_ys more = up_ys
ascending_front (x ∷ prefix) xs ys up up_ys more =
    AllPairs-cons EntryPrecedes x (prefix ++ ys)
    (all-from (EntryPrecedes x) (prefix ++ ys) (λ e h. ascending-head x e (prefix ++ xs) up
    (⊎_elim (λ first. Contains-append_left prefix xs e first) (λ second. Contains-append_right prefix xs e (more e second)) (Contains-append_cases prefix ys e h))))
    (ascending_front prefix xs ys (ascending-tail x (prefix ++ xs) up) up_ys more)

module _ (prefix piece back : List Entry) (dead : List Tid) (up : IsAscending (prefix ++ (piece ++ back))) where
  up_rest : IsAscending (piece ++ back)
  up_rest = ascending_back prefix (piece ++ back) up

  pub ascending_left : IsAscending (prefix ++ (filter (stays dead) piece ++ back))
  ascending_left =
      ascending_front prefix (piece ++ back) (filter (stays dead) piece ++ back) up (ascending_filtered (stays dead) piece back up_rest)
      (λ e h. among_both (filter (stays dead) piece) piece back (λ e there. (filtered (stays dead) piece e there).0) e h)

  module _ (from : Option Entry) (start : IsStart (prefix ++ (piece ++ back)) (IsAfter from) (length prefix)) where
    in_front : (e : Entry) → Contains prefix e → ¬ IsAfter from e
    in_front e there =
        let p = place_of prefix e there in
        let within = slice_get_within prefix p.0 e p.1 in
        start.before p.0 e within (get_front prefix (piece ++ back) p.0 within ∙ p.1)

    in_rest : (e : Entry) → Contains (piece ++ back) e → IsAfter from e
    in_rest e there =
        let p = place_of (piece ++ back) e there in
        start.from (length prefix + p.0) e (omega arith) (get_behind prefix (piece ++ back) p.0 ∙ p.1)

    pub members_left : (IsUp : Entry → Type 0) → ((e : Entry) → Contains piece e → IsUp e) → ((e : Entry) → Contains back e → ¬ IsUp e) → (e : Entry)
        → Contains (prefix ++ (filter (stays dead) piece ++ back)) e ↔ (Contains (prefix ++ (piece ++ back)) e × (¬ (IsAfter from e × IsUp e × Contains dead e.tid)))
    members_left IsUp here behind e = (
      λ h. ⊎_elim (λ first. (Contains-append_left prefix (piece ++ back) e first, λ gone. in_front e first gone.0))
          (λ rest. ⊎_elim
          (λ looked. let both = filtered (stays dead) piece e looked in
          (Contains-append_right prefix (piece ++ back) e (Contains-append_left piece back e both.0), λ gone. (stays-is dead e).0 both.1 gone.2))
          (λ last. (Contains-append_right prefix (piece ++ back) e (Contains-append_right piece back e last), λ gone. behind e last gone.1))
          (Contains-append_cases (filter (stays dead) piece) back e rest))
          (Contains-append_cases prefix (filter (stays dead) piece ++ back) e h),
      λ h. ⊎_elim (λ first. Contains-append_left prefix (filter (stays dead) piece ++ back) e first)
          (λ rest. Contains-append_right prefix (filter (stays dead) piece ++ back) e (⊎_elim
          (λ looked. Contains-append_left (filter (stays dead) piece) back e
          (kept (stays dead) piece e looked ((stays-is dead e).1 (λ gone. h.1 (in_rest e rest, here e looked, gone)))))
          (λ last. Contains-append_right (filter (stays dead) piece) back e last)
          (Contains-append_cases piece back e rest)))
          (Contains-append_cases prefix (piece ++ back) e h.0),
    )

    module _ (last : Entry) (at : slice_get piece (length piece - 1) ≡ Some last) where
      at_rest : slice_get (piece ++ back) (length piece - 1) ≡ Some last
      at_rest = get_front piece back (length piece - 1) (slice_get_within piece (length piece - 1) last at) ∙ at

      in_piece : (e : Entry) → Contains piece e → ¬ EntryPrecedes last e
      in_piece e there =
          let p = place_of piece e there in
          let within = slice_get_within piece p.0 e p.1 in
          let there = get_front piece back p.0 within ∙ p.1 in
          elim (cases_lt p.0 (length piece - 1)) [
            | inl below ↦ Precedes-not_back e last (ascending-at (piece ++ back) p.0 (length piece - 1) e last up_rest below there at_rest)
            | inr same ↦ λ after. not_before_itself last
                (subst (λ y. EntryPrecedes last y) (same_place (piece ++ back) p.0 (length piece - 1) e last (omega (arith, same, within)) there at_rest) after)
          ]

      in_back : (e : Entry) → Contains back e → EntryPrecedes last e
      in_back e there =
          let p = place_of back e there in
          let within = slice_get_within piece (length piece - 1) last at in
          ascending-at (piece ++ back) (length piece - 1) (length piece + p.0) last e up_rest (omega (arith, within)) at_rest (get_behind piece back p.0 ∙ p.1)

      next_of : 0 < length back → (next : Entry) × Contains (prefix ++ (piece ++ back)) next × EntryPrecedes last next
      next_of some =
          let d = get_or back 0 last in
          let there = Contains-get_or back 0 last some in
          (d, Contains-append_right prefix (piece ++ back) d (Contains-append_right piece back d there), in_back d there)

      there : Contains (piece ++ back) last
      there = Contains-from_place (piece ++ back) last (length piece - 1) at_rest

      pub removes_more : 0 < length back → RemovesPiece (prefix ++ (piece ++ back)) (prefix ++ (filter (stays dead) piece ++ back)) dead from (More last)
      removes_more some = record {
        ascending = ascending_left;
        members = members_left (λ e. ¬ EntryPrecedes last e) in_piece (λ e behind up. up (in_back e behind));
        goes_on = (Contains-append_right prefix (piece ++ back) last there, in_rest last there, next_of some);
      }

    pub removes_last : back ≡ [] → RemovesPiece (prefix ++ (piece ++ back)) (prefix ++ (filter (stays dead) piece ++ back)) dead from Done
    removes_last none = record {
      ascending = ascending_left;
      members = members_left (λ e. Unit {0}) (λ e there. tt) (λ e there. absurd (Contains-none e (subst (λ (xs : List Entry). Contains xs e) none there)));
      goes_on = tt;
    }

empty_back : (xs : List Entry) → ¬ (0 < length xs) → xs ≡ []
empty_back [] none = refl
empty_back (x ∷ xs) none = absurd (none (omega arith))

pub removes_swept : {S : Type 0} (old new : List Entry) (rank : ℕ) (dead : List Tid) (swept : Swept S) (from : Option Entry) (progress : Progress) → IsAscending old → IsStart old (IsAfter from) rank
    → IsSwept old new rank dead swept → (swept.more ≡ true → progress ≡ More swept.last) → (swept.more ≡ false → progress ≡ Done) → RemovesPiece old new dead from progress
removes_swept old new rank dead swept from progress up start s more done =
    let up_parts = subst IsAscending s.was up in
    let start_parts = subst (λ (xs : List Entry). IsStart xs (IsAfter from) (length s.prefix)) s.was (subst (IsStart old (IsAfter from)) (sym s.begins) start) in
    subst (λ (xs : List Entry). RemovesPiece xs new dead from progress) (sym s.was)
    (subst (λ (xs : List Entry). RemovesPiece (s.prefix ++ (s.piece ++ s.back)) xs dead from progress) (sym s.is) (by_case swept.more refl up_parts start_parts))
  where
    by_case : (b : Bool) → swept.more ≡ b → IsAscending (s.prefix ++ (s.piece ++ s.back)) → IsStart (s.prefix ++ (s.piece ++ s.back)) (IsAfter from) (length s.prefix)
        → RemovesPiece (s.prefix ++ (s.piece ++ s.back)) (s.prefix ++ (filter (stays dead) s.piece ++ s.back)) dead from progress
    by_case true is up start =
        subst (RemovesPiece (s.prefix ++ (s.piece ++ s.back)) (s.prefix ++ (filter (stays dead) s.piece ++ s.back)) dead from) (sym (more is))
        (removes_more s.prefix s.piece s.back dead up from start swept.last s.last (s.more.0 is))
    by_case false is up start =
        subst (RemovesPiece (s.prefix ++ (s.piece ++ s.back)) (s.prefix ++ (filter (stays dead) s.piece ++ s.back)) dead from) (sym (done is))
        (removes_last s.prefix s.piece s.back dead up from start (empty_back s.back (λ some. let yes = s.more.1 some in absurd (cc (yes, is)))))

-- what a look-up found through a reference
pub start_there : {N S : Type 0} (entries : N → List Entry) (rank : N → S → ℕ) (IsPosition : N → S → Type 0) (nodes seen : List N) (P : Entry → Type 0) (position : TreePosition S) → seen ≡ nodes
    → IsStartIn entries rank IsPosition seen P position → IsStart (all entries nodes) P (rank_in entries rank nodes position)
start_there {N} entries rank IsPosition nodes seen P position is start = (subst (λ (ns : List N). IsStartIn entries rank IsPosition ns P position) is start).start

-- where no entry follows
pub removes_none : (old new : List Entry) (rank : ℕ) (dead : List Tid) (from : Option Entry) → IsAscending old → IsStart old (IsAfter from) rank → length old ≤ rank → new ≡ old
    → RemovesPiece old new dead from Done
removes_none old new rank dead from up start past same = subst (λ (xs : List Entry). RemovesPiece old xs dead from Done) (sym same) (record {
  ascending = up;
  members = λ e. (
    λ h. (h, λ gone. let p = place_of old e h in start.before p.0 e (omega (arith, slice_get_within old p.0 e p.1)) p.1 gone.0),
    λ h. h.0,
  );
  goes_on = tt;
})

-- what is left of the entries
module _ {S : Type 0} (old new : List Entry) (rank : ℕ) (dead : List Tid) (swept : Swept S) (is : IsSwept old new rank dead swept) where
  pub some_swept : 0 < length old
  some_swept =
      let within = slice_get_within is.piece (length is.piece - 1) swept.last is.last in
      let was = ap length is.was ∙ length-append is.prefix (is.piece ++ is.back) ∙ ap (λ n. length is.prefix + n) (length-append is.piece is.back) in
      omega (arith, within, was)

  pub fewer_swept : swept.removed + length new ≡ length old
  fewer_swept =
      let stay = filter (stays dead) is.piece in
      let was : length old ≡ length is.prefix + (length is.piece + length is.back) =
      ap length is.was ∙ length-append is.prefix (is.piece ++ is.back) ∙ ap (λ n. length is.prefix + n) (length-append is.piece is.back) in
      let left : length new ≡ length is.prefix + (length stay + length is.back) =
      ap length is.is ∙ length-append is.prefix (stay ++ is.back) ∙ ap (λ n. length is.prefix + n) (length-append stay is.back) in
      omega (arith, was, left, is.removed)

pub some_nodes : {N : Type 0} (entries : N → List Entry) (nodes : List N) → 0 < length (all entries nodes) → 0 < length nodes
some_nodes entries [] some = absurd (omega (arith, some))
some_nodes entries (n ∷ nodes) some = omega arith

-- how many inserts are promised then: as many as before, or one where no node is left
abbrev pub IsPromisedAfter : ℕ → ℕ → ℕ → Type 0
IsPromisedAfter nodes promised promised' = (0 < nodes → promised' ≡ promised) × (nodes ≡ 0 → promised' ≡ max promised 1)

none_long : (trees : List Tree) → length trees ≡ 0 → long_among trees ≡ 0
none_long [] none = refl
none_long (tree ∷ trees) none = absurd (omega (arith, none))

pub sound_swept : {S : Type 0} (old new : List Tree) (aside aside' : SetAside) (count count' promised promised' rank : ℕ) (dead : List Tid) (swept : Swept S) → IsSoundIndex old aside count promised
    → IsSwept (among old) (among new) rank dead swept → AreNeat IsNeatTree (λ tree. length tree) new → aside.places ≤ aside'.places → aside.trees ≤ aside'.trees
    → ((k : ℕ) → aside.HasLeft k → aside'.HasLeft k) → (aside.HasPlaces → aside'.HasPlaces) → (aside.HasReserve → aside'.HasReserve) → (aside.HasPlaces → aside'.HasReserve ⊎ (long_among old ≤ long_among new))
    → (length new ≡ 0 → aside.HasPlaces → aside'.HasReserve → (1 ≤ aside'.places) × (1 ≤ aside'.trees) × aside'.HasLeft 1)
    → count' ≡ count - swept.removed → IsPromisedAfter (length new) promised promised' → IsSoundIndex new aside' count' promised'
sound_swept old new aside aside' count count' promised promised' rank dead swept sound s neat in_room in_spare kept places reserve returned emptied counted after = elim (cases_lt 0 (length new)) [
  | inl left ↦ of_promised promised' (inl (after.0 left)) (omega (arith, after.0 left, list, in_room)) (omega (arith, after.0 left, trees, in_spare)) (omega (arith, after.0 left, bound, whole, before, counted))
  | inr none ↦
      let empty : length new ≡ 0 = omega (arith, none) in
      let one = emptied empty (sound.places some) (⊎_elim (λ has. has) (λ long. absurd (omega (arith, long, none_long new empty))) ready) in
      let is = after.1 empty in
      let no_entry = ap length (none_without tree_entries new empty) in
      elim (cases_lt 0 promised) [
        | inl more ↦ of_promised promised' (inl (omega (arith, is, more))) (omega (arith, is, more, list, in_room)) (omega (arith, is, more, trees, in_spare))
            (omega (arith, is, more, bound, whole, before, counted))
        | inr less ↦ of_promised promised' (inr (omega (arith, is, less), one.2)) (omega (arith, is, less, one.0)) (omega (arith, is, less, one.1)) (omega (arith, is, less, whole, before, counted, no_entry))
      ]
]
  where
    before : count ≡ length (among old)
    before = sound.counted

    list : promised ≤ aside.places
    list = sound.in_list

    trees : promised ≤ aside.trees
    trees = sound.in_trees

    bound : count + promised < 2 ^ 64
    bound = sound.countable

    whole : swept.removed + length (among new) ≡ length (among old)
    whole = fewer_swept (among old) (among new) rank dead swept s

    some : 0 < count
    some = omega (arith, before, some_swept (among old) (among new) rank dead swept s)

    ready : aside'.HasReserve ⊎ (0 < long_among new)
    ready = ⊎_elim (λ has. inl (reserve has)) (λ long. ⊎_elim (λ has. inl has) (λ kept. inr (omega (arith, long, kept))) (returned (sound.places some))) (sound.ready some)

    of_promised : (p : ℕ) → (p ≡ promised) ⊎ ((p ≡ 1) × aside'.HasLeft 1) → p ≤ aside'.places → p ≤ aside'.trees → count' + p < 2 ^ 64
        → IsSoundIndex new aside' count' p
    of_promised p which fits enough countable = record {
      ascending = subst IsAscending (sym s.is) (ascending_left s.prefix s.piece s.back dead (subst IsAscending s.was sound.ascending));
      neat = neat;
      counted = omega (arith, counted, whole, before);
      in_list = fits;
      in_trees = enough;
      below = ⊎_elim (λ is. subst aside'.HasLeft (sym is) (kept promised sound.below)) (λ one. subst aside'.HasLeft (sym one.0) one.1) which;
      places = λ left. places (sound.places some);
      ready = λ left. ready;
      countable = countable;
    }

-- fewer entries leave more places free
places_more : (m n promised promised' : ℕ) → n ≤ m → promised ≤ promised' → (n ≡ 0 → 1 ≤ promised') → free_places m promised ≤ free_places n promised'
places_more zero zero zero promised' le more some = omega arith
places_more zero zero (suc promised) zero le more some = absurd (omega (arith, more))
places_more zero zero (suc promised) (suc promised') le more some = omega arith
places_more zero (suc n) promised promised' le more some = absurd (omega (arith, le))
places_more (suc m) zero promised zero le more some = absurd (omega (arith, some refl))
places_more (suc m) zero promised (suc promised') le more some = omega arith
places_more (suc m) (suc n) promised promised' le more some = omega (arith, le)

pub room_swept : {S : Type 0} (old new : List Entry) (rank : ℕ) (dead : List Tid) (swept : Swept S) (nodes promised promised' : ℕ) → IsSwept old new rank dead swept
    → (0 < nodes → 0 < length new) → IsPromisedAfter nodes promised promised'
    → (promised ≤ promised') × (max promised (free_places (length old) promised) ≤ max promised' (free_places (length new) promised'))
room_swept old new rank dead swept nodes promised promised' is some after =
    let whole = fewer_swept old new rank dead swept is in
    elim (cases_lt 0 nodes) [
      | inl left ↦
          let same = after.0 left in
          let more = places_more (length old) (length new) promised promised' (omega (arith, whole)) (omega (arith, same)) (λ none. absurd (omega (arith, none, some left))) in
          (omega (arith, same), omega (arith, same, more))
      | inr none ↦
          let one = after.1 (omega (arith, none)) in
          let more = places_more (length old) (length new) promised promised' (omega (arith, whole)) (omega (arith, one)) (λ empty. omega (arith, one)) in
          (omega (arith, one), omega (arith, one, more))
    ]
