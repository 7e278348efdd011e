-- The entries of a key and the versions of a chain, one more, and at their end.
use Rattle.std.proofs.Common.{◌≡◌, ℕ, zero, suc, ◌+◌, ◌<◌, ◌≤◌, ◌⊎◌, ⊎_elim, List, [], ◌∷◌, ◌++◌, length, map, take, get_or, Option, Some, None, Result, Ok, Err, IfOk, refl, sym, ap, subst, ◌∙◌, arith, slice_get, length-append}
use Rattle.std.specs.Prelude.{pos}
use Rattle.std.specs.Option.{option_map}
use Rattle.std.specs.List.{AllByRecursion}
use Rattle.std.proofs.lemmas.Bool.{cases_lt}
use Rattle.std.proofs.lemmas.List.{append-nil, map-append, take_more, take_all}
use Rattle.std.proofs.lemmas.Option.{none-some, same_Some, slice_get_within, slice_get_past}
use Rattle.xid_circle.specs.declared.Tid.{Tid}
use Rattle.page_sheet.specs.declared.slot.Slot.{Slot}
use Rattle.hot_chain.specs.Chain.{has_aborted}
use Rattle.hot_chain.proofs.Chains.{chain-one}
use Rattle.hot_chain.proofs.SeenWalks.{has-chain}
use Rattle.index_entries.specs.Order.{IsAscending}
use Rattle.index_entries.specs.declared.entry.Entry.{Entry}
use Rattle.index_lookup.specs.Pages.{slots_on}
use Rattle.index_lookup.proofs.PageLists.{slots-none}
use Rattle.index_lookup.proofs.Turns.{Looked, looked-next}
use Rattle.table_indexes.specs.Indexes.{entries_in}
use Rattle.heap_write.specs.Heap.{slots_of}
use Rattle.explanations.specs.declared.versions.ShownVersion.{ShownVersion}
use Rattle.explanations.specs.Shown.{entry_to}
use Rattle.calls.specs.declared.step.TheConstants.{MOST_SESSIONS}
use Rattle.calls.specs.declared.reply.Refusal.{Refusal}
use Rattle.calls.specs.declared.reply.Refusal.TheVariants as refusal
use Rattle.calls.specs.Bars.{BarsOpen}
use Rattle.history.proofs.Places.{slice_get-push_new}
use Rattle.session_steps.specs.State.{State, session_at, engine_sessions}
use Rattle.sessions.specs.declared.session.Session.{Session}
use Rattle.session_looks.specs.Explaining.{IsNextEntry, IsExplained}
use Rattle.view_text.specs.declared.versions.VersionLook.{VersionLook}
use Rattle.view_text.specs.declared.versions.EntryLook.{EntryLook}
use Rattle.viewing.specs.Showing.{AreOwners, AreVersions, IsEntryLook, AreEntryPlaces, IsExplanation}
use Rattle.viewing.specs.Steps.{AreEntryLooks}

-- Lists.

get-front : {A : Type 0} (xs ys : List A) (n : ℕ) → n < length xs → slice_get (xs ++ ys) n ≡ slice_get xs n
get-front [] ys n h = absurd (omega arith)
get-front (x ∷ xs) ys zero h = refl
get-front (x ∷ xs) ys (suc n) h = get-front xs ys n (omega arith)

get-there : {A : Type 0} (xs : List A) (n : ℕ) → n < length xs → (x : A) × (slice_get xs n ≡ Some x)
get-there [] n h = absurd (omega arith)
get-there (x ∷ xs) zero h = (x, refl)
get-there (x ∷ xs) (suc n) h = get-there xs n (omega arith)

all-push : {A : Type 0} (P : A → Type 0) (xs : List A) (x : A) → AllByRecursion P xs → P x → AllByRecursion P (xs ++ x ∷ [])
all-push P [] x h k = (k, tt)
all-push P (y ∷ xs) x h k = (h.0, all-push P xs x h.1 k)

-- Slots of a page.

pub few-nowhere : (st : State) (p : ℕ) → slice_get st.heap.pages.pages p ≡ None → length (slots_on (slots_of st.heap) p) ≤ 291
few-nowhere st p at = subst (λ (slots : List Slot). length slots ≤ 291) (sym (slots-none st.heap.pages.pages p at)) (omega arith)

-- Versions.

abbrev pub shown_at : List VersionLook → ℕ → Option ShownVersion
shown_at versions n = option_map (λ (v : VersionLook). v.shown) (slice_get versions n)

-- the versions of the chain before a place of it
pub record ArePart (st : State) (e : Session) (place : Tid) (versions : List VersionLook) (n : ℕ) : Type 0 where
  pub shown : (k : ℕ) → k < n → IsExplained st e place k (shown_at versions k)
  pub owners : AllByRecursion (AreOwners st) versions

abbrev pub IsPart : State → ℕ → Tid → List VersionLook → ℕ → Type 0
IsPart st s place versions n = (length versions ≡ n) × ((e : Session) → session_at st s ≡ Some e → ArePart st e place versions n)

-- what is told of the open session is told of this one
same-session : (st : State) (s : ℕ) (place : Tid) (n : ℕ) (answer : Option ShownVersion) → (f : Session) × (session_at st s ≡ Some f) × IsExplained st f place n answer
    → (e : Session) → session_at st s ≡ Some e → IsExplained st e place n answer
same-session st s place n answer told e here = subst (λ (f : Session). IsExplained st f place n answer) (same_Some told.0 e (sym told.1 ∙ here)) told.2

pub part-more : (st : State) (s : ℕ) (place : Tid) (versions : List VersionLook) (n : ℕ) (v : VersionLook) (after : List VersionLook) → IsPart st s place versions n
    → (f : Session) × (session_at st s ≡ Some f) × IsExplained st f place n (Some v.shown) → AreOwners st v → after ≡ versions ++ v ∷ [] → IsPart st s place after (n + 1)
part-more st s place versions n v after h told owners is = subst (λ (vs : List VersionLook). IsPart st s place vs (n + 1)) (sym is) (
  length-append versions (v ∷ []) ∙ ap (λ k. k + 1) h.0,
  λ e here. record {
    shown = λ k lt. ⊎_elim (before e here k) (λ ge. at_end e here k lt ge) (cases_lt k n);
    owners = all-push (AreOwners st) versions v (h.1 e here).owners owners;
  },
)
  where
    before : (e : Session) → session_at st s ≡ Some e → (k : ℕ) → k < n → IsExplained st e place k (shown_at (versions ++ v ∷ []) k)
    before e here k lt = subst (λ (o : Option VersionLook). IsExplained st e place k (option_map (λ (u : VersionLook). u.shown) o))
        (sym (get-front versions (v ∷ []) k (omega (arith, h.0)))) ((h.1 e here).shown k lt)

    at_end : (e : Session) → session_at st s ≡ Some e → (k : ℕ) → k < n + 1 → n ≤ k → IsExplained st e place k (shown_at (versions ++ v ∷ []) k)
    at_end e here k lt ge =
        let last : k ≡ length versions = omega (arith, h.0) in
        subst (λ (i : ℕ). IsExplained st e place i (shown_at (versions ++ v ∷ []) i)) (sym last)
        (subst (λ (o : Option VersionLook). IsExplained st e place (length versions) (option_map (λ (u : VersionLook). u.shown) o)) (sym (slice_get-push_new versions v))
        (subst (λ (i : ℕ). IsExplained st e place i (Some v.shown)) (sym h.0) (same-session st s place n (Some v.shown) told e here)))

-- the next of the chain, as it is told
pub part-next : (st : State) (s : ℕ) (place : Tid) (versions : List VersionLook) (n : ℕ) (told : Option ShownVersion) (shown : ShownVersion) (v : VersionLook) (after : List VersionLook) → IsPart st s place versions n
    → (f : Session) × (session_at st s ≡ Some f) × IsExplained st f place n told → told ≡ Some shown → v.shown ≡ shown → AreOwners st v → after ≡ versions ++ v ∷ [] → IsPart st s place after (n + 1)
part-next st s place versions n told shown v after h is found same owners pushed =
    part-more st s place versions n v after h (is.0, is.1, subst (λ (o : Option ShownVersion). IsExplained st is.0 place n o) (found ∙ ap (λ (x : ShownVersion). Some x) (sym same)) is.2) owners pushed

-- a chain that ends before a place has nothing after it
past : (st : State) (e : Session) (place : Tid) (n k : ℕ) → n ≤ k → IsExplained st e place n None → IsExplained st e place k None
past st e place n k le none = record { chain = none.chain; is_chain = none.is_chain; shown = let short = none.shown in omega arith }

whole : (st : State) (s : ℕ) (place : Tid) (versions : List VersionLook) (n : ℕ) → IsPart st s place versions n
    → (e : Session) → session_at st s ≡ Some e → IsExplained st e place n None → AreVersions st e place versions
whole st s place versions n h e here none = record {
  shown = λ k. ⊎_elim (λ lt. (h.1 e here).shown k lt) (after k) (cases_lt k n);
  owners = (h.1 e here).owners;
}
  where
    after : (k : ℕ) → n ≤ k → IsExplained st e place k (shown_at versions k)
    after k ge = subst (λ (o : Option VersionLook). IsExplained st e place k (option_map (λ (u : VersionLook). u.shown) o))
        (sym (slice_get_past versions k (omega (arith, h.0)))) (past st e place n k ge none)

pub part-ends : (st : State) (s : ℕ) (place : Tid) (versions : List VersionLook) (n : ℕ) → IsPart st s place versions n
    → (f : Session) × (session_at st s ≡ Some f) × IsExplained st f place n None → (e : Session) → session_at st s ≡ Some e → AreVersions st e place versions
part-ends st s place versions n h told e here = whole st s place versions n h e here (same-session st s place n None told e here)

-- nothing more is told
pub part-stops : (st : State) (s : ℕ) (place : Tid) (versions : List VersionLook) (n : ℕ) (told : Option ShownVersion) → IsPart st s place versions n
    → (f : Session) × (session_at st s ≡ Some f) × IsExplained st f place n told → told ≡ None → (e : Session) → session_at st s ≡ Some e → AreVersions st e place versions
part-stops st s place versions n told h is none = part-ends st s place versions n h (is.0, is.1, subst (λ (o : Option ShownVersion). IsExplained st is.0 place n o) none is.2)

-- an open session is not barred
pub not-barred : (st : State) (s : ℕ) (e : Session) (r : Refusal) → s < MOST_SESSIONS → session_at st s ≡ Some e → BarsOpen (engine_sessions st) s r → ⊥
not-barred st s e refusal.NoSuchSession within here bars = omega (arith, within, bars)
not-barred st s e refusal.NotOpen within here bars = none-some e (sym bars.1 ∙ here)
not-barred st s e r within here bars = bars

-- no chain has 293 versions
pub not-full : (st : State) (s : ℕ) (place : Tid) (versions : List VersionLook) (n : ℕ) → length (slots_on (slots_of st.heap) place.page) ≤ 291 → n ≡ 293 → IsPart st s place versions n
    → (e : Session) → session_at st s ≡ Some e → AreVersions st e place versions
not-full st s place versions n few all h e here =
    let last = get-there versions 292 (omega (arith, h.0, all)) in
    let told = subst (λ (o : Option VersionLook). IsExplained st e place 292 (option_map (λ (u : VersionLook). u.shown) o)) last.1 ((h.1 e here).shown 292 (omega (arith, all))) in
    let within = slice_get_within told.chain 292 last.0.shown.slot told.shown.0 in
    let short = has-chain (has_aborted st.heap.statuses) (slots_on (slots_of st.heap) place.page) place.slot few in
    let same = chain-one (has_aborted st.heap.statuses) (slots_on (slots_of st.heap) place.page) place.slot told.chain short.0 told.is_chain short.1 in
    let size : length told.chain ≡ length short.0 = ap (λ (c : List ℕ). length c) same in
    absurd (omega (arith, within, short.2, size))

-- Entries.

abbrev pub Anything : Entry → Type 0
Anything e = Unit {0}

abbrev pub opt : Option Tid → List Tid
opt None = []
opt (Some place) = place ∷ []

-- the places so far, and the one at hand
pub record ArePlaced (st : State) (key : ℕ) (places : List Tid) (next : Option Tid) (turn : ℕ) : Type 0 where
  pub looked : Looked (entries_in st.heap.indexes 0) (pos key) key Anything turn (option_map (entry_to key) next)
  pub first : IsNextEntry st key None (slice_get (places ++ opt next) 0)
  pub links : (n : ℕ) (place : Tid) → slice_get places n ≡ Some place → IsNextEntry st key (Some place) (slice_get (places ++ opt next) (n + 1))

opt-first : (next : Option Tid) → slice_get (opt next) 0 ≡ next
opt-first None = refl
opt-first (Some place) = refl

opt-end : (xs : List Tid) (next : Option Tid) → slice_get (xs ++ opt next) (length xs) ≡ next
opt-end [] next = opt-first next
opt-end (x ∷ xs) next = opt-end xs next

pub placed-more : (st : State) (key : ℕ) (places : List Tid) (next : Option Tid) (turn : ℕ) (place : Tid) (after : List Tid) (then : Option Tid) → IsAscending (entries_in st.heap.indexes 0)
    → ArePlaced st key places next turn → next ≡ Some place → after ≡ places ++ place ∷ [] → IsNextEntry st key (Some place) then → ArePlaced st key after then (turn + 1)
placed-more st key places next turn place after then up h is pushed later = subst (λ (xs : List Tid). ArePlaced st key xs then (turn + 1)) (sym pushed) (record {
  looked = looked-next (entries_in st.heap.indexes 0) (pos key) key Anything turn (option_map (entry_to key) next) (entry_to key place) (option_map (entry_to key) then) up h.looked
      (ap (option_map (entry_to key)) is) tt later;
  first = subst (λ (o : Option Tid). IsNextEntry st key None o) (front 0 (omega (arith, size))) h.first;
  links = λ n p at. ⊎_elim (earlier n p at) (latest n p at) (cases_lt n (length places));
})
  where
    size : length (places ++ place ∷ []) ≡ length places + 1
    size = length-append places (place ∷ [])

    front : (k : ℕ) → k < length (places ++ place ∷ []) → slice_get (places ++ opt next) k ≡ slice_get ((places ++ place ∷ []) ++ opt then) k
    front k lt = ap (λ (o : Option Tid). slice_get (places ++ opt o) k) is ∙ sym (get-front (places ++ place ∷ []) (opt then) k lt)

    earlier : (n : ℕ) (p : Tid) → slice_get (places ++ place ∷ []) n ≡ Some p → n < length places → IsNextEntry st key (Some p) (slice_get ((places ++ place ∷ []) ++ opt then) (n + 1))
    earlier n p at lt = subst (λ (o : Option Tid). IsNextEntry st key (Some p) o) (front (n + 1) (omega (arith, size, lt)))
        (h.links n p (sym (get-front places (place ∷ []) n lt) ∙ at))

    latest : (n : ℕ) (p : Tid) → slice_get (places ++ place ∷ []) n ≡ Some p → length places ≤ n → IsNextEntry st key (Some p) (slice_get ((places ++ place ∷ []) ++ opt then) (n + 1))
    latest n p at ge =
        let lt = slice_get_within (places ++ place ∷ []) n p at in
        let last : n ≡ length places = omega (arith, size, lt, ge) in
        let here : place ≡ p = same_Some place p (sym (slice_get-push_new places place) ∙ sym (ap (λ k. slice_get (places ++ place ∷ []) k) last) ∙ at) in
        let end : n + 1 ≡ length (places ++ place ∷ []) = omega (arith, size, last) in
        subst (λ (q : Tid). IsNextEntry st key (Some q) (slice_get ((places ++ place ∷ []) ++ opt then) (n + 1))) here
        (subst (λ (o : Option Tid). IsNextEntry st key (Some place) o)
        (sym (ap (λ k. slice_get ((places ++ place ∷ []) ++ opt then) k) end ∙ opt-end (places ++ place ∷ []) then)) later)

pub placed-ends : (st : State) (key : ℕ) (places : List Tid) (next : Option Tid) (turn : ℕ) → ArePlaced st key places next turn → next ≡ None → AreEntryPlaces st key places
placed-ends st key places next turn h none =
    let all : places ++ opt next ≡ places = ap (λ (o : Option Tid). places ++ opt o) none ∙ append-nil places in
    record {
      first = subst (λ (xs : List Tid). IsNextEntry st key None (slice_get xs 0)) all h.first;
      next = λ n place at. subst (λ (xs : List Tid). IsNextEntry st key (Some place) (slice_get xs (n + 1))) all (h.links n place at);
    }

none-over : (st : State) (key : ℕ) (places : List Tid) (next : Option Tid) (turn : ℕ) → turn ≡ length (entries_in st.heap.indexes 0) → ArePlaced st key places next turn
    → (o : Option Tid) → next ≡ o → next ≡ None
none-over st key places next turn all h None e = e
none-over st key places next turn all h (Some place) e =
    let p = h.looked.place (entry_to key place) (ap (option_map (entry_to key)) e) in
    let within = slice_get_within (entries_in st.heap.indexes 0) p.0 (entry_to key place) p.2 in
    absurd (let least = p.1 in omega arith)

-- as many turns as there are entries
pub placed-over : (st : State) (key : ℕ) (places : List Tid) (next : Option Tid) (turn : ℕ) → turn ≡ length (entries_in st.heap.indexes 0) → ArePlaced st key places next turn → AreEntryPlaces st key places
placed-over st key places next turn all h = placed-ends st key places next turn h (none-over st key places next turn all h next refl)

-- Looks at entries.

abbrev pub AreLooks : State → ℕ → List Tid → List EntryLook → Type 0
AreLooks st s places looks = (e : Session) → session_at st s ≡ Some e → AreEntryLooks st e places looks

pub looks-more : (st : State) (s : ℕ) (places : List Tid) (looks after : List EntryLook) (place : Tid) (look : EntryLook) → AreLooks st s places looks → look.place ≡ place
    → ((e : Session) → session_at st s ≡ Some e → IsEntryLook st e look) → after ≡ looks ++ look ∷ [] → AreLooks st s (places ++ place ∷ []) after
looks-more st s places looks after place look h at is pushed e here = subst (λ (xs : List EntryLook). AreEntryLooks st e (places ++ place ∷ []) xs) (sym pushed) (record {
  same = map-append (λ (l : EntryLook). l.place) looks (look ∷ []) ∙ ap (λ (xs : List Tid). xs ++ look.place ∷ []) (h e here).same ∙ ap (λ (p : Tid). places ++ p ∷ []) at;
  each = all-push (IsEntryLook st e) looks look (h e here).each (is e here);
})

-- the next of the places
pub looks-next : (st : State) (s : ℕ) (places : List Tid) (i : ℕ) (d : Tid) (looks after : List EntryLook) (look : EntryLook) → i < length places
    → AreLooks st s (take i places) looks → look.place ≡ get_or places i d → ((e : Session) → session_at st s ≡ Some e → IsEntryLook st e look) → after ≡ looks ++ look ∷ []
    → AreLooks st s (take (i + 1) places) after
looks-next st s places i d looks after look within h at is pushed =
    subst (λ (xs : List Tid). AreLooks st s xs after) (sym (take_more places i d within)) (looks-more st s (take i places) looks after (get_or places i d) look h at is pushed)

pub looks-all : (st : State) (s : ℕ) (places : List Tid) (i : ℕ) (looks : List EntryLook) → length places ≤ i → AreLooks st s (take i places) looks → AreLooks st s places looks
looks-all st s places i looks past h = subst (λ (xs : List Tid). AreLooks st s xs looks) (take_all i places past) h

explained : (st : State) (s key : ℕ) (places : List Tid) (looks : List EntryLook) → AreEntryPlaces st key places → AreLooks st s places looks
    → (e : Session) → session_at st s ≡ Some e → IsExplanation st e key looks
explained st s key places looks at h e here = record {
  places = subst (λ (xs : List Tid). AreEntryPlaces st key xs) (sym (h e here).same) at;
  each = (h e here).each;
}

-- where there is a list of looks
pub on_looks : {T E : Type 0} (r : Result T E) (items : T → List EntryLook) (st : State) (s key : ℕ) (places : List Tid) → AreEntryPlaces st key places
    → IfOk r (λ v. AreLooks st s places (items v)) → IfOk r (λ v. (e : Session) → session_at st s ≡ Some e → IsExplanation st e key (items v))
on_looks (Ok v) items st s key places at h = explained st s key places (items v) at h
on_looks (Err e) items st s key places at h = tt
