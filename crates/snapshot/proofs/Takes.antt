-- What a snapshot that is taken now lists.
use Rattle.std.proofs.Common.{◌≡◌, ℕ, ◌≤◌, ◌||◌, Bool, true, false, if◌then◌else◌, List, [], ◌∷◌, ◌++◌, Some, None, slice_get, length, arith, ⊎_elim, refl, sym, ap, ◌∙◌, subst, append_assoc}
use Rattle.std.proofs.lemmas.List.{append-nil}
use Rattle.std.specs.List.{Contains, fold}
use Rattle.std.proofs.lemmas.List.Elements.{Contains-append_left, Contains-append_right, Contains-append_cases}
use Rattle.std.proofs.lemmas.Bool.{or_parts}
use Rattle.xid_circle.proofs.Members.{Contains-first, Contains-rest, Contains-cases, Contains-none, Contains-one}
use Rattle.commit_status.specs.Window.{Window, IsWindow, IsUpToNext, turns, place, next_id, top_of}
use Rattle.commit_status.proofs.Turns.{turns-given}
use Rattle.commit_status.proofs.Places.{at-from_place, some-from_is, upto-place, upto-next}
use Rattle.commit_status.proofs.Ancestors.{top-before}
use Rattle.snapshot.specs.Snap.{Snap, earlier, empty_at, are_many, listing, taken}
use Rattle.snapshot.specs.Laws.{AreOpen, IsBetween, IsInWindow}
use Rattle.snapshot.proofs.Earliest.{earlier-is}

-- the snapshot that lists these open transactions
pub record Lists (w : Window) (next : ℕ) (owns : List (List ℕ)) (s : Snap) : Type 0 where
  pub xmax : s.xmax ≡ next
  pub upto : IsUpToNext w s.xmin
  pub below : turns w.first s.xmin ≤ turns w.first next
  pub low : (own : List ℕ) (top : ℕ) → Contains owns own → slice_get own 0 ≡ Some top → turns w.first s.xmin ≤ turns w.first top
  pub tops : (own : List ℕ) (top : ℕ) → Contains owns own → slice_get own 0 ≡ Some top → Contains s.listed top
  pub children : s.overflowed ≡ false → (own : List ℕ) (x : ℕ) → Contains owns own → Contains own x → Contains s.listed x
  pub only : (x : ℕ) → Contains s.listed x → (own : List ℕ) × Contains owns own × Contains own x

made : Snap → ℕ → List ℕ → Bool → Snap
made s top children many = record {
  xmin = earlier s.xmin top;
  xmax = s.xmax;
  listed = s.listed ++ top ∷ (if many then [] else children);
  overflowed = s.overflowed || many;
}

kept-in : (top : ℕ) (children : List ℕ) (many : Bool) (x : ℕ) → Contains (top ∷ (if many then [] else children)) x → Contains (top ∷ children) x
kept-in top children true x c = ⊎_elim (λ e. subst (Contains (top ∷ children)) e (Contains-first top children)) (λ t. absurd (Contains-none x t)) (Contains-cases top x [] c)
kept-in top children false x c = c

all-in : (top : ℕ) (children : List ℕ) (many : Bool) (x : ℕ) → many ≡ false → Contains (top ∷ children) x → Contains (top ∷ (if many then [] else children)) x
all-in top children true x e c = absurd (cc)
all-in top children false x e c = c

lists-none : (w : Window) (next : ℕ) → IsUpToNext w next → Lists w next [] (empty_at next)
lists-none w next up = record {
  xmax = refl;
  upto = up;
  below = omega arith;
  low = λ own top c at. absurd (Contains-none own c);
  tops = λ own top c at. absurd (Contains-none own c);
  children = λ e own x c m. absurd (Contains-none own c);
  only = λ x c. absurd (Contains-none x c);
}

lists-made : (w : Window) (next : ℕ) (owns : List (List ℕ)) (s : Snap) (top : ℕ) (children : List ℕ) (many : Bool) → IsWindow w → IsUpToNext w top
    → Lists w next owns s → Lists w next (owns ++ (top ∷ children) ∷ []) (made s top children many)
unfolding made
lists-made w next owns s top children many is up l =
    let e = earlier-is w s.xmin top is l.upto up in
    let left = e.left in
    let right = e.right in
    let below = l.below in
    record {
      xmax = l.xmax;
      upto = e.upto;
      below = omega arith;
      low = λ own t c at. ⊎_elim
          (λ old. let lo = l.low own t old at in omega arith)
          (λ new. let same : top ≡ t = (let i = Contains-one (top ∷ children) own new in let s : Some top ≡ Some t = ap (λ o. slice_get o 0) i ∙ at in cc) in
          subst (λ v. turns w.first (earlier s.xmin top) ≤ turns w.first v) same right)
          (Contains-append_cases owns ((top ∷ children) ∷ []) own c);
      tops = λ own t c at. ⊎_elim
          (λ old. Contains-append_left s.listed _ t (l.tops own t old at))
          (λ new. let same : top ≡ t = (let i = Contains-one (top ∷ children) own new in let s : Some top ≡ Some t = ap (λ o. slice_get o 0) i ∙ at in cc) in
          Contains-append_right s.listed _ t (subst (Contains (top ∷ (if many then [] else children))) same (Contains-first top _)))
          (Contains-append_cases owns ((top ∷ children) ∷ []) own c);
      children = λ none own x c m. ⊎_elim
          (λ old. Contains-append_left s.listed _ x (l.children (or_parts s.overflowed many none).0 own x old m))
          (λ new. Contains-append_right s.listed _ x (all-in top children many x (or_parts s.overflowed many none).1
          (subst (λ o. Contains o x) (sym (Contains-one (top ∷ children) own new)) m)))
          (Contains-append_cases owns ((top ∷ children) ∷ []) own c);
      only = λ x c. ⊎_elim
          (λ old. let found = l.only x old in (found.0, Contains-append_left owns ((top ∷ children) ∷ []) found.0 found.1, found.2))
          (λ new. (top ∷ children, Contains-append_right owns ((top ∷ children) ∷ []) (top ∷ children) (Contains-first (top ∷ children) []), kept-in top children many x new))
          (Contains-append_cases s.listed (top ∷ (if many then [] else children)) x c);
    }

lists-more : (w : Window) (next : ℕ) (owns : List (List ℕ)) (s : Snap) (own : List ℕ) → IsWindow w → ((top : ℕ) → slice_get own 0 ≡ Some top → IsUpToNext w top)
    → Lists w next owns s → Lists w next (owns ++ own ∷ []) (listing s own)
unfolding made
lists-more w next owns s (top ∷ children) is up l = lists-made w next owns s top children (are_many children) is (up top refl) l
lists-more w next owns s [] is up l = record {
  xmax = l.xmax;
  upto = l.upto;
  below = l.below;
  low = λ own t c at. ⊎_elim (λ old. l.low own t old at) (λ new. absurd (let i = Contains-one [] own new in let s : None ≡ Some t = ap (λ o. slice_get o 0) i ∙ at in cc))
      (Contains-append_cases owns ([] ∷ []) own c);
  tops = λ own t c at. ⊎_elim (λ old. l.tops own t old at) (λ new. absurd (let i = Contains-one [] own new in let s : None ≡ Some t = ap (λ o. slice_get o 0) i ∙ at in cc))
      (Contains-append_cases owns ([] ∷ []) own c);
  children = λ none own x c m. ⊎_elim (λ old. l.children none own x old m) (λ new. absurd (Contains-none x (subst (λ o. Contains o x) (sym (Contains-one [] own new)) m)))
      (Contains-append_cases owns ([] ∷ []) own c);
  only = λ x c. let found = l.only x c in (found.0, Contains-append_left owns ([] ∷ []) found.0 found.1, found.2);
}

lists-all : (rest : List (List ℕ)) (w : Window) (next : ℕ) (owns : List (List ℕ)) (s : Snap) → IsWindow w
    → ((own : List ℕ) (top : ℕ) → Contains rest own → slice_get own 0 ≡ Some top → IsUpToNext w top)
    → Lists w next owns s → Lists w next (owns ++ rest) (fold listing s rest)
lists-all [] w next owns s is up l = subst (λ os. Lists w next os s) (sym (append-nil owns)) l
lists-all (own ∷ rest) w next owns s is up l =
    subst (λ os. Lists w next os (fold listing s (own ∷ rest))) (append_assoc owns (own ∷ []) rest)
    (lists-all rest w next (owns ++ own ∷ []) (listing s own) is (λ o t c. up o t (Contains-rest own o rest c))
    (lists-more w next owns s own is (λ t. up own t (Contains-first own rest)) l))

-- an own id is in the window
pub own-upto : (w : Window) (owns : List (List ℕ)) (own : List ℕ) (x : ℕ) → AreOpen w owns → Contains owns own → Contains own x → IsUpToNext w x
own-upto w owns own x open_ c m =
    let found = some-from_is (place w x) (open_.active own x c m).is_given in
    upto-place w x found.0 found.1

pub first-in : (own : List ℕ) (t : ℕ) → slice_get own 0 ≡ Some t → Contains own t
first-in [] t at = absurd (cc)
first-in (x ∷ own) t at = let e : x ≡ t = (let s : Some x ≡ Some t = at in cc) in subst (Contains (x ∷ own)) e (Contains-first x own)

-- what is taken lists them all
pub taken-lists : (w : Window) (owns : List (List ℕ)) → IsWindow w → AreOpen w owns → Lists w (next_id w) owns (taken (next_id w) owns)
taken-lists w owns is open_ =
    lists-all owns w (next_id w) [] (empty_at (next_id w)) is (λ own t c at. own-upto w owns own t open_ c (first-in own t at))
    (lists-none w (next_id w) (upto-next w is))

-- what it lists stands from xmin on, and before the next id: no id is before its topmost parent, and none is given yet from the next on
listed-between : (w : Window) (owns : List (List ℕ)) (x : ℕ) → IsWindow w → AreOpen w owns → Contains (taken (next_id w) owns).listed x → IsBetween w (taken (next_id w) owns) x
listed-between w owns x is open_ among =
    let s = taken (next_id w) owns in
    let l = taken-lists w owns is open_ in
    let by = l.only x among in
    let top = top_of w x in
    let at = open_.topmost by.0 x by.1 by.2 in
    let px = some-from_is (place w x) (open_.active by.0 x by.1 by.2).is_given in
    let pt = some-from_is (place w top) (open_.active by.0 top by.1 (first-in by.0 top at)).is_given in
    let low : turns w.first s.xmin ≤ turns w.first top = l.low by.0 top by.1 at in
    let order = top-before w x px.0 pt.0 is px.1 pt.1 in
    let ax = at-from_place w.first (length w.entries) x px.0 px.1 in
    let turn = ax.turn in
    let given_now = ax.within in
    let top_turn = (at-from_place w.first (length w.entries) top pt.0 pt.1).turn in
    let short = is.short in
    let limit = is.limit in
    let next : turns w.first (next_id w) ≡ length w.entries = turns-given w.first (length w.entries) is.normal is.fits (omega arith) in
    let last : turns w.first s.xmax ≡ length w.entries = ap (turns w.first) l.xmax ∙ next in
    record { upto = own-upto w owns by.0 x open_ by.1 by.2; from_xmin = omega arith; before_xmax = omega arith }

pub taken-in_window : (w : Window) (owns : List (List ℕ)) → IsWindow w → AreOpen w owns → IsInWindow w (taken (next_id w) owns)
taken-in_window w owns is open_ =
    let l = taken-lists w owns is open_ in
    record {
      bounds = record {
        xmin = l.upto;
        xmax = subst (IsUpToNext w) (sym l.xmax) (upto-next w is);
        ordered = subst (λ n. turns w.first (taken (next_id w) owns).xmin ≤ turns w.first n) (sym l.xmax) l.below;
      };
      listed = λ x among. listed-between w owns x is open_ among;
    }
