-- What a sweep over all indexes has behind it.
use Rattle.std.proofs.Common.{◌≡◌, ◌≢◌, ℕ, ◌<◌, ◌≤◌, List, [], Option, Some, None, arith, refl, sym, ap, subst, ⊎_elim, inl, inr}
use Rattle.std.specs.Prelude.{Contains, unwrap_or}
use Rattle.std.proofs.lemmas.Bool.{cases_lt}
use Rattle.xid_circle.specs.declared.Tid.{Tid}
use Rattle.index_entries.specs.declared.entry.Entry.{Entry}
use Rattle.table_indexes.specs.Indexes.{entries_in, IsInUse}
use Rattle.heap_write.specs.Heap.{HeapView, slots_of}
use Rattle.root_index.specs.declared.progress.Progress.{Progress}
use Rattle.root_index.specs.declared.progress.Progress.TheVariants.{More, Done}
use Rattle.root_index.specs.Pieces.{IsUpTo}
use Rattle.sound_vacuum.specs.Sweeping.{AreDead, IsSweptTo}
use Rattle.sound_vacuum.specs.Between.{StepsBetween}
use Rattle.heap_write.specs.Cleaning.{SweepsAt}
use Rattle.sound_vacuum.specs.Indexes.{AreSwept, AllAreSwept}
use Rattle.sound_vacuum.proofs.Swept.{piece-goes_on, unled-stays}
use Rattle.sound_vacuum.proofs.Collected.{steps-keep}
use Rattle.sound_vacuum.proofs.Growing.{steps-grow}

pub nothing-behind : (h : HeapView) (dead : List Tid) → AreSwept h dead 0 None
nothing-behind h dead n e used there behind among = ⊎_elim (λ below. absurd (omega arith)) (λ here. here.1 tt) behind

-- A piece.

module _ (h h' : HeapView) (dead : List Tid) (i : ℕ) (from : Option Entry) (progress : Progress) (swept : AreSwept h dead i from) (s : SweepsAt h h' i dead from progress) where
  -- in the index itself
  here-swept : IsInUse h.indexes i → IsSweptTo (entries_in h'.indexes i) dead progress
  here-swept used = piece-goes_on (entries_in h.indexes i) (entries_in h'.indexes i) dead from progress (λ e there before. swept i e used there (inr (refl, before))) s.removes

  -- in those before it
  before-swept : (n : ℕ) (e : Entry) → n < i → IsInUse h'.indexes n → Contains (entries_in h'.indexes n) e → ¬ Contains dead e.tid
  before-swept n e below used there =
      let off : n ≢ i = λ same. omega (arith, same) in
      swept n e ((s.in_use n).1 used)
      (subst (λ (es : List Entry). Contains es e) (ap (λ (o : Option (List Entry)). unwrap_or o []) (s.others n off)) there) (inl below)

  -- in all up to it
  upto-swept : progress ≡ Done → (n : ℕ) (e : Entry) → n ≤ i → IsInUse h'.indexes n → Contains (entries_in h'.indexes n) e → ¬ Contains dead e.tid
  upto-swept end n e le used there = ⊎_elim
      (λ below. before-swept n e below used there)
      (λ ge.
      let same : n ≡ i = omega (arith, le, ge) in
      here-swept (subst (λ k. IsInUse h.indexes k) same ((s.in_use n).1 used)) e (subst (λ k. Contains (entries_in h'.indexes k) e) same there)
      (subst (λ (o : Progress). IsUpTo o e) (sym end) tt))
      (cases_lt n i)

pub piece-behind : (h h' : HeapView) (dead : List Tid) (i : ℕ) (from : Option Entry) (last : Entry) → AreDead (slots_of h) dead → IsInUse h.indexes i → AreSwept h dead i from
    → SweepsAt h h' i dead from (More last) → AreSwept h' dead i (Some last)
piece-behind h h' dead i from last are in_use swept s n e used there behind = ⊎_elim
    (λ below. before-swept h h' dead i from (More last) swept s n e below used there)
    (λ here. here-swept h h' dead i from (More last) swept s in_use e (subst (λ k. Contains (entries_in h'.indexes k) e) here.0 there) here.1)
    behind

pub index-behind : (h h' : HeapView) (dead : List Tid) (i j : ℕ) (from : Option Entry) → AreDead (slots_of h) dead → AreSwept h dead i from → SweepsAt h h' i dead from Done
    → ((n : ℕ) → i < n → n < j → ¬ IsInUse h.indexes n) → AreSwept h' dead j None
index-behind h h' dead i j from are swept s between n e used there behind = ⊎_elim
    (λ below. ⊎_elim
    (λ past. absurd (between n past below ((s.in_use n).1 used)))
    (λ le. upto-swept h h' dead i from Done swept s refl n e le used there)
    (cases_lt i n))
    (λ here. absurd (here.1 tt))
    behind

pub all-behind : (h h' : HeapView) (dead : List Tid) (i : ℕ) (from : Option Entry) → AreDead (slots_of h) dead → AreSwept h dead i from → SweepsAt h h' i dead from Done
    → ((n : ℕ) → i < n → ¬ IsInUse h.indexes n) → AllAreSwept h' dead
all-behind h h' dead i from are swept s over n used e there upto = ⊎_elim
    (λ past. absurd (over n past ((s.in_use n).1 used)))
    (λ le. upto-swept h h' dead i from Done swept s refl n e le used there)
    (cases_lt i n)

-- Other steps. What is behind in one index is so by its number, or before an entry.

pub steps-behind : (h h' : HeapView) (dead : List Tid) (i : ℕ) (from : Option Entry) → StepsBetween h h' → AreDead (slots_of h) dead → AreSwept h dead i from
    → AreDead (slots_of h') dead × AreSwept h' dead i from
steps-behind h h' dead i from step are swept = (
  λ p among. (steps-keep h h' step 0).dead p (are p among),
  λ n e used there behind among. (steps-keep h h' step n).fresh e there (λ old. swept n e (((steps-grow h h' step).used n).1 used) old behind among) (are e.tid among),
)

pub steps-all : (h h' : HeapView) (dead : List Tid) → StepsBetween h h' → AreDead (slots_of h) dead → AllAreSwept h dead → AreDead (slots_of h') dead × AllAreSwept h' dead
steps-all h h' dead step are swept = (
  λ p among. (steps-keep h h' step 0).dead p (are p among),
  λ n used. (unled-stays (slots_of h) (slots_of h') (entries_in h.indexes n) (entries_in h'.indexes n) dead (steps-keep h h' step n) are
      (swept n (((steps-grow h h' step).used n).1 used))).1,
)
