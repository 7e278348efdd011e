-- The ids of a write: where there is more memory for them, and while they are given.
use Rattle.std.proofs.Common.{◌≡◌, ◌≢◌, ℕ, suc, ◌+◌, ◌-◌, ◌<◌, ◌≤◌, List, [], ◌∷◌, ◌++◌, length, Option, Some, None, sym, ap, subst, refl, ◌∙◌, arith, append_assoc}
use Rattle.std.proofs.lemmas.Option.{same_Some}
use Rattle.commit_status.specs.Window.{Window, IsWindow, IsGiven, next_id, place_in, status_of}
use Rattle.commit_status.specs.Changes.{given_entry, Gives, CanGive}
use Rattle.commit_status.proofs.Giving.{gives-length, gives-place_next}
use Rattle.commit_status.proofs.Places.{is-from_some}
use Rattle.snapshot.specs.Own.{Own, unassigned_levels, current_xid, saved_with, saved_with_each, ArePrefixes}
use Rattle.snapshot.proofs.Levels.{level-added, unassigned_levels-level, unassigned_levels-added, prefixes-added}
use Rattle.write_ids.specs.Ids.{SameIds, NewestIsGiven, GivesUnder, TakesIds, SameOwn, HasIds}

-- More memory.

pub same-ids : (w : Window) → SameIds w w
same-ids w = record { first = refl; stop_age = refl; entries = refl }

pub same-back : (w v : Window) → SameIds w v → SameIds v w
same-back w v same = record { first = sym same.first; stop_age = sym same.stop_age; entries = sym same.entries }

pub same-then : (u v w : Window) → SameIds u v → SameIds v w → SameIds u w
same-then u v w a b = record { first = b.first ∙ a.first; stop_age = b.stop_age ∙ a.stop_age; entries = b.entries ∙ a.entries }

same-next : (w v : Window) → SameIds w v → next_id v ≡ next_id w
same-next w v same = rw (same.first, same.entries) refl

pub same-status : (w v : Window) (x : ℕ) → SameIds w v → status_of v x ≡ status_of w x
same-status w v x same = rw (same.first, same.entries) refl

level-same : (own grown : Own) → SameOwn own grown → current_xid grown.ids grown.saved ≡ current_xid own.ids own.saved
level-same own grown same = rw (same.ids, same.saved) refl

pub unassigned_levels-same : (own grown : Own) → SameOwn own grown → unassigned_levels grown.ids grown.saved ≡ unassigned_levels own.ids own.saved
unassigned_levels-same own grown same = rw (same.ids, same.saved) refl

gives-grown : (w v u : Window) (parent : Option ℕ) (ids : List ℕ) → SameIds w v → (length ids ≡ 0 → v ≡ w) → GivesUnder v parent ids u → GivesUnder w parent ids u
gives-grown w v u parent [] same none gives = gives ∙ none refl
gives-grown w v u parent (x ∷ xs) same none (between, is, gives, rest) = (
  between,
  is ∙ same-next w v same,
  record { first = gives.first ∙ same.first; stop_age = gives.stop_age ∙ same.stop_age; entries = gives.entries ∙ ap (λ es. es ++ given_entry parent ∷ []) same.entries },
  rest,
)

-- what takes the ids after there is more memory takes them from the start
pub takes-grown : (w v u : Window) (own grown own' : Own) (x : ℕ) → SameIds w v → SameOwn own grown → (unassigned_levels own.ids own.saved ≡ 0 → v ≡ w)
    → TakesIds v u grown own' x → TakesIds w u own own' x
takes-grown w v u own grown own' x same same_own none takes =
    let count = takes.count ∙ unassigned_levels-same own grown same_own in
    record {
      given = takes.given;
      count = count;
      gives = gives-grown w v u (current_xid own.ids own.saved) takes.given same (λ empty. none (sym count ∙ empty))
          (subst (λ parent. GivesUnder v parent takes.given u) (level-same own grown same_own) takes.gives);
      ids = takes.ids ∙ ap (λ ids. ids ++ takes.given) same_own.ids;
      saved = takes.saved ∙ ap (λ saved. saved_with_each takes.given saved) same_own.saved;
      newest = takes.newest;
    }

-- Giving.

-- What holds while the ids are given, after so many: what takes the rest takes them all.
pub record Giving (w0 : Window) (own0 : Own) (w : Window) (own : Own) (count : ℕ) : Type 0 where
  pub more : unassigned_levels own.ids own.saved + count ≡ unassigned_levels own0.ids own0.saved
  pub prefixes : ArePrefixes own.ids own.saved
  pub can : CanGive w (unassigned_levels own.ids own.saved)
  pub room : HasIds w own
  pub newest : NewestIsGiven w own
  pub window : IsWindow w
  pub whole : (w' : Window) (own' : Own) (x : ℕ) → TakesIds w w' own own' x → TakesIds w0 w' own0 own' x

-- one id was given, to the lowest level that had none
pub record GivesOne (w v : Window) (own next : Own) (n : ℕ) : Type 0 where
  pub lacked : unassigned_levels own.ids own.saved ≡ suc n
  pub gives : Gives w v (current_xid own.ids own.saved)
  pub ids : next.ids ≡ own.ids ++ next_id w ∷ []
  pub saved : next.saved ≡ saved_with n (next_id w) own.saved

level-one : (w v : Window) (own next : Own) (n : ℕ) → GivesOne w v own next n → current_xid next.ids next.saved ≡ Some (next_id w)
level-one w v own next n one = rw (one.ids, one.saved) (level-added own.ids own.saved (next_id w) n one.lacked)

unassigned_levels-one : (w v : Window) (own next : Own) (n : ℕ) → GivesOne w v own next n → unassigned_levels next.ids next.saved ≡ n
unassigned_levels-one w v own next n one = rw (one.ids, one.saved) (unassigned_levels-added own.ids own.saved (next_id w) n one.lacked)

takes-one : (w v u : Window) (own next own' : Own) (n x : ℕ) → GivesOne w v own next n → TakesIds v u next own' x → TakesIds w u own own' x
takes-one w v u own next own' n x one takes =
    let count : length takes.given ≡ n = takes.count ∙ unassigned_levels-one w v own next n one in
    record {
      given = next_id w ∷ takes.given;
      count = ap suc count ∙ sym one.lacked;
      gives = (v, refl, one.gives, subst (λ parent. GivesUnder v parent takes.given u) (level-one w v own next n one) takes.gives);
      ids = takes.ids ∙ ap (λ ids. ids ++ takes.given) one.ids ∙ append_assoc own.ids (next_id w ∷ []) takes.given;
      saved = takes.saved ∙ ap (λ saved. saved_with_each takes.given saved) (one.saved ∙ ap (λ m. saved_with m (next_id w) own.saved) (sym count));
      newest = takes.newest;
    }

can-one : (w v : Window) (own next : Own) (n : ℕ) → GivesOne w v own next n → CanGive w (suc n) → CanGive v n
can-one w v own next n one can i lt =
    let at : length v.entries + i ≡ length w.entries + suc i = let long = gives-length w v (current_xid own.ids own.saved) one.gives in omega (arith, long) in
    rw (one.gives.first, one.gives.stop_age, at) (can (suc i) (omega (arith, lt)))

pub giving-one : (w0 : Window) (own0 : Own) (w : Window) (own : Own) (count : ℕ) (v : Window) (next : Own) → Giving w0 own0 w own count → 0 < unassigned_levels own.ids own.saved
    → Gives w v (current_xid own.ids own.saved) → next.ids ≡ own.ids ++ next_id w ∷ [] → next.saved ≡ saved_with (unassigned_levels own.ids own.saved - 1) (next_id w) own.saved
    → w.spare ≤ v.spare + 1 → own.spare ≡ next.spare + 1 → IsWindow v → Giving w0 own0 v next (count + 1)
giving-one w0 own0 w own count v next now lacking gives ids saved spare own_spare window =
    let n = unassigned_levels own.ids own.saved - 1 in
    let lacked : unassigned_levels own.ids own.saved ≡ suc n = omega (arith, lacking) in
    let one : GivesOne w v own next n = record { lacked = lacked; gives = gives; ids = ids; saved = saved } in
    let left = unassigned_levels-one w v own next n one in
    let more = now.more in
    let in_table = now.room.in_table in
    let in_own = now.room.in_own in
    record {
      more = omega (arith, left, lacked, more);
      prefixes = rw (ids, saved) (prefixes-added own.ids own.saved (next_id w) n now.prefixes lacked);
      can = subst (λ m. CanGive v m) (sym left) (can-one w v own next n one (subst (λ m. CanGive w m) lacked now.can));
      room = record { in_table = omega (arith, left, lacked, spare, in_table); in_own = omega (arith, left, lacked, own_spare, in_own) };
      newest = λ x is.
          let same : next_id w ≡ x = same_Some (next_id w) x (sym (level-one w v own next n one) ∙ is) in
          subst (λ y. IsGiven v y) same (is-from_some (place_in v.first (length v.entries) (next_id w)) (length w.entries) (gives-place_next w v (current_xid own.ids own.saved) window gives));
      window = window;
      whole = λ w' own' x takes. now.whole w' own' x (takes-one w v w' own next own' n x one takes);
    }

-- while there are turns, a level lacks an id; after them none does
pub giving-lacking : (w0 : Window) (own0 : Own) (w : Window) (own : Own) (count : ℕ) → Giving w0 own0 w own count → count < unassigned_levels own0.ids own0.saved → 0 < unassigned_levels own.ids own.saved
giving-lacking w0 own0 w own count now lt = let more = now.more in omega (arith, more, lt)

pub giving-over : (w0 : Window) (own0 : Own) (w : Window) (own : Own) (count : ℕ) → Giving w0 own0 w own count → unassigned_levels own0.ids own0.saved ≤ count → unassigned_levels own.ids own.saved ≡ 0
giving-over w0 own0 w own count now le = let more = now.more in omega (arith, more, le)

-- the newest level has one then
pub giving-newest : (w0 : Window) (own0 : Own) (w : Window) (own : Own) (count : ℕ) → Giving w0 own0 w own count → unassigned_levels own0.ids own0.saved ≤ count → None ≢ current_xid own.ids own.saved
giving-newest w0 own0 w own count now le none =
    let newest = unassigned_levels-level own.ids own.saved now.prefixes (giving-over w0 own0 w own count now le) in
    let e : None ≡ Some newest.0 = none ∙ newest.1 in absurd (cc)
