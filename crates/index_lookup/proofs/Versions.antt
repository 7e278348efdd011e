-- What the versions in some slots have, of what a session has to know: one, and one after another.
use Rattle.std.proofs.Common.{◌≡◌, ℕ, ◌+◌, ◌<◌, ◌≤◌, false, List, [], ◌∷◌, length, get_or, map, Option, Some, None, refl, sym, ap, ◌∙◌, subst, ⊎_elim, inl, inr, arith, slice_get}
use Rattle.std.specs.List.{Contains}
use Rattle.std.specs.Prelude.{MatchOption}
use Rattle.std.specs.Option.{option_or}
use Rattle.xid_circle.specs.declared.Tid.{Tid}
use Rattle.xid_circle.specs.declared.Xid.{Xid}
use Rattle.tuple_header.specs.declared.version.Header.{Header}
use Rattle.tuple_header.specs.Marks.{is_hot_updated}
use Rattle.page_sheet.specs.declared.slot.Slot.{Slot}
use Rattle.page_sheet.specs.Slots.{version_at, header_at}
use Rattle.page_slots.specs.View.{PageView}
use Rattle.commit_status.specs.Window.{Window}
use Rattle.commit_status.specs.declared.status.Status.TheVariants.{InProgress, Committed}
use Rattle.snapshot.specs.Snap.{Sees}
use Rattle.visibility.specs.Seeing.{Reads, HasCommitted, IsRunning}
use Rattle.visibility.specs.Visible.{ReadsIn, state_of}
use Rattle.visibility.proofs.Makers.{visible-of}
use Rattle.hot_chain.specs.Chain.{has_aborted, IsSeenIn}
use Rattle.hot_chain.proofs.Alone.{alone-chain}
use Rattle.hot_chain.proofs.Seen.{seen-here}
use Rattle.visibility.specs.declared.reader.Reader.{Reader}
use Rattle.index_lookup.specs.declared.write_check.WriteCheck.{WriteCheck}
use Rattle.visibility.specs.Reading.{IsSeenBy, IsNewerCommitFor, IsOtherWriterFor, IsPlainFor}
use Rattle.index_lookup.specs.Looking.{SomeAmong, SeenAt, IsIdIn, IsIdAmong, IsIdAt, IsPlaceIn, IsPlaceAmong, IsKept}
use Rattle.index_lookup.proofs.Among.{NoneTo, none-touched, none-yet, none-more, none-here, none-other, some-here, at-page}
use Rattle.index_lookup.proofs.Searching.{kept-same, kept-map, place-on_page}

-- A plain version.

pub plain-seen : (r : Reader) (h : Header) → IsPlainFor r h → IsSeenBy r h
plain-seen r h p =
    visible-of (ReadsIn r.statuses.now r.snapshot.now r.own.now.ids) h (⊎_elim (λ frozen. inl frozen) (λ reads. inr (Reads.by_others reads.1 reads.0)) p.made)
    (λ some. absurd (some p.undeleted))

pub plain-no_newer_commit : (r : Reader) (h : Header) → IsPlainFor r h → (x : ℕ) → ¬ IsNewerCommitFor r x h
plain-no_newer_commit r h p x newer =
    let P : ℕ → Type 0 = λ x. HasCommitted (state_of r.statuses.now) x × (Sees r.snapshot.now r.statuses.now x → ⊥) in
    none-touched h P (⊎_elim (λ frozen. inl frozen) (λ reads. inr (λ missed. missed.1 reads.1)) p.made) (inl p.undeleted) x newer.0 (newer.1, newer.2)

pub plain-no_other_writer : (r : Reader) (h : Header) → IsPlainFor r h → (x : ℕ) → ¬ IsOtherWriterFor r x h
plain-no_other_writer r h p x other =
    let P : ℕ → Type 0 = λ x. IsRunning (state_of r.statuses.now) x × (Contains r.own.now.ids x → ⊥) in
    none-touched h P
    (⊎_elim (λ frozen. inl frozen) (λ reads. inr (λ runs. absurd (let both : Some InProgress ≡ Some Committed = sym runs.0 ∙ reads.0 in cc))) p.made)
    (inl p.undeleted) x other.touch (other.active, other.foreign)

pub kept-seen : (seen : Header → Type 0) (before : Option Tid) (place : Tid) (h : Header) → seen h → IsKept before (IsPlaceIn seen place h) (option_or before (Some place))
kept-seen seen None place h has = (refl, has)
kept-seen seen (Some q) place h has = refl

-- A version that is its whole chain.

one-only : (n j : ℕ) → j < length (n ∷ []) → get_or (n ∷ []) j 0 ≡ n
one-only n j within = let first : j ≡ 0 = omega arith in ap (λ k. get_or (n ∷ []) k 0) first

none-in_one : (P : Header → Type 0) (slots : List Slot) (n : ℕ) (h : Header) → header_at slots n ≡ Some h → ¬ P h → NoneTo P slots (n ∷ []) (length (n ∷ []))
none-in_one P slots n h is none j u within at has = none-here P slots n h is none u (sym (ap (version_at slots) (one-only n j within)) ∙ at) has

place-of_one : (seen : Header → Type 0) (place : Tid) (slots : List Slot) (h : Header) (answer : Option Tid) → header_at slots place.slot ≡ Some h → IsPlaceIn seen place h answer
    → IsPlaceAmong seen place.page slots (place.slot ∷ []) answer
place-of_one seen place slots h None is none = none-in_one seen slots place.slot h is none
place-of_one seen place slots h (Some q) is found = (
  ap (λ (t : Tid). t.page) found.0,
  subst (IsSeenIn seen slots (place.slot ∷ [])) (sym (ap (λ (t : Tid). t.slot) found.0))
      (seen-here seen slots (place.slot ∷ []) 0 (Some h) h (omega arith) (sym is) refl found.1 (none-yet seen slots (place.slot ∷ []))),
)

id-of_one : (P : ℕ → Header → Type 0) (slots : List Slot) (n : ℕ) (h : Header) (answer : Option Xid) → header_at slots n ≡ Some h → IsIdIn P h answer → IsIdAmong P slots (n ∷ []) answer
id-of_one P slots n h None is none = λ x some. none-in_one (P x) slots n h is (none x) some.place some.version some.within some.there some.has
id-of_one P slots n h (Some x) is has = some-here (P x.0) slots (n ∷ []) 0 h (omega arith) is has

pub place-alone : (w : Window) (seen : Header → Type 0) (pages : List PageView) (p : Tid) (page : PageView) (h : Header) (answer : Option Tid) → slice_get pages p.page ≡ Some page
    → header_at page.slots p.slot ≡ Some h → is_hot_updated h ≡ false → IsPlaceIn seen p h answer → SeenAt w seen (map (λ (q : PageView). q.slots) pages) p answer
place-alone w seen pages p page h answer at is off place =
    place-on_page w seen pages p page (p.slot ∷ []) answer at (alone-chain (has_aborted w) page.slots p.slot h is off) (place-of_one seen p page.slots h answer is place)

pub id-alone : (w : Window) (P : ℕ → Header → Type 0) (pages : List PageView) (p : Tid) (page : PageView) (h : Header) (answer : Option Xid) → slice_get pages p.page ≡ Some page
    → header_at page.slots p.slot ≡ Some h → is_hot_updated h ≡ false → IsIdIn P h answer → IsIdAt w P (map (λ (q : PageView). q.slots) pages) p answer
id-alone w P pages p page h answer at is off id =
    at-page w P pages p page (p.slot ∷ []) answer at (alone-chain (has_aborted w) page.slots p.slot h is off) (id-of_one P page.slots p.slot h answer is id)

-- Versions one after another.

abbrev PlaceTo : (Header → Type 0) → ℕ → List Slot → List ℕ → ℕ → Option Tid → Type 0
PlaceTo seen number slots chain i answer = MatchOption answer (NoneTo seen slots chain i) (λ q. (q.page ≡ number) × IsSeenIn seen slots chain q.slot)

abbrev IdTo : (ℕ → Header → Type 0) → List Slot → List ℕ → ℕ → Option Xid → Type 0
IdTo P slots chain i answer = MatchOption answer ((x : ℕ) → NoneTo (P x) slots chain i) (λ x. SomeAmong (P x.0) slots chain)

-- what was found before, or else in the first i of these slots
pub record CheckTo (seen : Header → Type 0) (Newer Other : ℕ → Header → Type 0) (number : ℕ) (slots : List Slot) (chain : List ℕ) (before : WriteCheck) (i : ℕ) (check : WriteCheck) : Type 0 where
  pub place : IsKept before.place (PlaceTo seen number slots chain i) check.place
  pub newer_commit : IsKept before.newer_commit (IdTo Newer slots chain i) check.newer_commit
  pub other_writer : IsKept before.other_writer (IdTo Other slots chain i) check.other_writer

pub check-yet : (seen : Header → Type 0) (Newer Other : ℕ → Header → Type 0) (number : ℕ) (slots : List Slot) (chain : List ℕ) (before : WriteCheck)
    → CheckTo seen Newer Other number slots chain before 0 before
check-yet seen Newer Other number slots chain before = record {
  place = kept-same before.place (PlaceTo seen number slots chain 0) (none-yet seen slots chain);
  newer_commit = kept-same before.newer_commit (IdTo Newer slots chain 0) (λ x. none-yet (Newer x) slots chain);
  other_writer = kept-same before.other_writer (IdTo Other slots chain 0) (λ x. none-yet (Other x) slots chain);
}

-- what was found so far stays; where nothing was, it goes by this version
kept-then : {A : Type 0} (before old new : Option A) (To Next Here : Option A → Type 0) → ((answer : Option A) → To None → Here answer → Next answer) → ((x : A) → To (Some x) → Next (Some x))
    → IsKept before To old → IsKept old Here new → IsKept before Next new
kept-then None None new To Next Here first later so_far here = first new so_far here
kept-then None (Some x) new To Next Here first later so_far here = subst Next (sym here) (later x so_far)
kept-then (Some y) None new To Next Here first later so_far here = absurd (cc)
kept-then (Some y) (Some x) new To Next Here first later so_far here = here ∙ so_far

place-more : (seen : Header → Type 0) (number : ℕ) (slots : List Slot) (chain : List ℕ) (i : ℕ) (h : Header) (answer : Option Tid) → i < length chain → header_at slots (get_or chain i 0) ≡ Some h
    → NoneTo seen slots chain i → IsPlaceIn seen (record { page = number; slot = get_or chain i 0 }) h answer → PlaceTo seen number slots chain (i + 1) answer
place-more seen number slots chain i h None within is before none = none-more seen slots chain i before (none-here seen slots (get_or chain i 0) h is none)
place-more seen number slots chain i h (Some q) within is before found = (
  ap (λ (t : Tid). t.page) found.0,
  subst (IsSeenIn seen slots chain) (sym (ap (λ (t : Tid). t.slot) found.0)) (seen-here seen slots chain i (Some h) h within (sym is) refl found.1 before),
)

id-more : (P : ℕ → Header → Type 0) (slots : List Slot) (chain : List ℕ) (i : ℕ) (h : Header) (answer : Option Xid) → i < length chain → header_at slots (get_or chain i 0) ≡ Some h
    → ((x : ℕ) → NoneTo (P x) slots chain i) → IsIdIn P h answer → IdTo P slots chain (i + 1) answer
id-more P slots chain i h None within is before none = λ x. none-more (P x) slots chain i (before x) (none-here (P x) slots (get_or chain i 0) h is (none x))
id-more P slots chain i h (Some x) within is before has = some-here (P x.0) slots chain i h within is has

kept-id : (P : ℕ → Header → Type 0) (slots : List Slot) (chain : List ℕ) (i : ℕ) (h : Header) (before old new : Option Xid) → i < length chain → header_at slots (get_or chain i 0) ≡ Some h
    → IsKept before (IdTo P slots chain i) old → IsKept old (IsIdIn P h) new → IsKept before (IdTo P slots chain (i + 1)) new
kept-id P slots chain i h before old new within is =
    kept-then before old new (IdTo P slots chain i) (IdTo P slots chain (i + 1)) (IsIdIn P h) (λ answer. id-more P slots chain i h answer within is) (λ x some. some)

pub check-more : (seen : Header → Type 0) (Newer Other : ℕ → Header → Type 0) (number : ℕ) (slots : List Slot) (chain : List ℕ) (before : WriteCheck) (i : ℕ) (h : Header) (old new : WriteCheck)
    → i < length chain → header_at slots (get_or chain i 0) ≡ Some h → CheckTo seen Newer Other number slots chain before i old
    → IsKept old.place (IsPlaceIn seen (record { page = number; slot = get_or chain i 0 }) h) new.place → IsKept old.newer_commit (IsIdIn Newer h) new.newer_commit
    → IsKept old.other_writer (IsIdIn Other h) new.other_writer → CheckTo seen Newer Other number slots chain before (i + 1) new
check-more seen Newer Other number slots chain before i h old new within is s place newer_commit other_writer = record {
  place = kept-then before.place old.place new.place (PlaceTo seen number slots chain i) (PlaceTo seen number slots chain (i + 1)) (IsPlaceIn seen (record { page = number; slot = get_or chain i 0 }) h)
      (λ answer. place-more seen number slots chain i h answer within is) (λ q found. found) s.place place;
  newer_commit = kept-id Newer slots chain i h before.newer_commit old.newer_commit new.newer_commit within is s.newer_commit newer_commit;
  other_writer = kept-id Other slots chain i h before.other_writer old.other_writer new.other_writer within is s.other_writer other_writer;
}

place-past : (seen : Header → Type 0) (number : ℕ) (slots : List Slot) (chain : List ℕ) (i : ℕ) (answer : Option Tid) → header_at slots (get_or chain i 0) ≡ None
    → PlaceTo seen number slots chain i answer → PlaceTo seen number slots chain (i + 1) answer
place-past seen number slots chain i None is none = none-more seen slots chain i none (none-other seen slots (get_or chain i 0) is)
place-past seen number slots chain i (Some q) is found = found

id-past : (P : ℕ → Header → Type 0) (slots : List Slot) (chain : List ℕ) (i : ℕ) (answer : Option Xid) → header_at slots (get_or chain i 0) ≡ None → IdTo P slots chain i answer → IdTo P slots chain (i + 1) answer
id-past P slots chain i None is none = λ x. none-more (P x) slots chain i (none x) (none-other (P x) slots (get_or chain i 0) is)
id-past P slots chain i (Some x) is some = some

pub check-past : (seen : Header → Type 0) (Newer Other : ℕ → Header → Type 0) (number : ℕ) (slots : List Slot) (chain : List ℕ) (before : WriteCheck) (i : ℕ) (check : WriteCheck)
    → header_at slots (get_or chain i 0) ≡ None → CheckTo seen Newer Other number slots chain before i check → CheckTo seen Newer Other number slots chain before (i + 1) check
check-past seen Newer Other number slots chain before i check is s = record {
  place = kept-map before.place check.place (PlaceTo seen number slots chain i) (PlaceTo seen number slots chain (i + 1)) (place-past seen number slots chain i check.place is) s.place;
  newer_commit = kept-map before.newer_commit check.newer_commit (IdTo Newer slots chain i) (IdTo Newer slots chain (i + 1)) (id-past Newer slots chain i check.newer_commit is) s.newer_commit;
  other_writer = kept-map before.other_writer check.other_writer (IdTo Other slots chain i) (IdTo Other slots chain (i + 1)) (id-past Other slots chain i check.other_writer is) s.other_writer;
}

-- all of these slots

all-places : (seen : Header → Type 0) (number : ℕ) (slots : List Slot) (chain : List ℕ) (i : ℕ) (answer : Option Tid) → length chain ≤ i → PlaceTo seen number slots chain i answer
    → IsPlaceAmong seen number slots chain answer
all-places seen number slots chain i None all none = λ j u within. none j u (omega (arith, all, within))
all-places seen number slots chain i (Some q) all found = found

pub kept-place : (seen : Header → Type 0) (number : ℕ) (slots : List Slot) (chain : List ℕ) (i : ℕ) (before answer : Option Tid) → length chain ≤ i
    → IsKept before (PlaceTo seen number slots chain i) answer → IsKept before (IsPlaceAmong seen number slots chain) answer
kept-place seen number slots chain i before answer all =
    kept-map before answer (PlaceTo seen number slots chain i) (IsPlaceAmong seen number slots chain) (all-places seen number slots chain i answer all)

all-ids : (P : ℕ → Header → Type 0) (slots : List Slot) (chain : List ℕ) (i : ℕ) (answer : Option Xid) → length chain ≤ i → IdTo P slots chain i answer → IsIdAmong P slots chain answer
all-ids P slots chain i None all none = λ x some. let within = some.within in none x some.place some.version (omega (arith, all, within)) some.there some.has
all-ids P slots chain i (Some x) all some = some

pub kept-ids : (P : ℕ → Header → Type 0) (slots : List Slot) (chain : List ℕ) (i : ℕ) (before answer : Option Xid) → length chain ≤ i
    → IsKept before (IdTo P slots chain i) answer → IsKept before (IsIdAmong P slots chain) answer
kept-ids P slots chain i before answer all = kept-map before answer (IdTo P slots chain i) (IsIdAmong P slots chain) (all-ids P slots chain i answer all)
