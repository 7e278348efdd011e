-- What is found along sound entries is what stands on the heap.
use Rattle.std.proofs.Common.{◌≡◌, ℕ, ℤ, ◌<◌, List, length, get_or, Option, Some, None, refl, sym, ap, ◌∙◌, subst, ⊎_elim, arith, slice_get, ◌↔◌}
use Rattle.std.specs.List.{Contains}
use Rattle.std.specs.Prelude.{MatchOption}
use Rattle.std.specs.Option.{option_and_then, option_map}
use Rattle.std.proofs.lemmas.Option.{slice_get-get_or, same_Some}
use Rattle.xid_circle.specs.declared.Tid.{Tid}
use Rattle.tuple_header.specs.Version.{Version}
use Rattle.tuple_header.specs.declared.version.Header.{Header}
use Rattle.tuple_header.specs.declared.version.Row.{Row}
use Rattle.page_sheet.specs.declared.slot.Slot.{Slot}
use Rattle.page_sheet.specs.Slots.{slot_at, version_at}
use Rattle.commit_status.specs.declared.status.Status.TheVariants.{InProgress, Committed, Aborted}
use Rattle.commit_status.specs.Window.{Window, IsActive, IsCommitted, IsInProgress, IsAborted}
use Rattle.snapshot.specs.Snap.{Snap}
use Rattle.visibility.specs.Visible.{IsVisible, IsOtherWriterIn, IsNewerCommitIn}
use Rattle.visibility.proofs.Makers.{committed-to, active-to}
use Rattle.hot_chain.specs.Chain.{has_aborted, start_in, IsChain, Fetched}
use Rattle.hot_chain.proofs.Chains.{chain-one}
use Rattle.sound_page.specs.Sound.{IsIn, SoundPage}
use Rattle.sound_page.proofs.ChainPlaces.{place-of, at-place}
use Rattle.sound_page.proofs.SoundChains.{in-leads, leads-in}
use Rattle.tuple_writes.proofs.Growth.{none-some}
use Rattle.index_entries.specs.declared.entry.Entry.{Entry}
use Rattle.index_lookup.specs.Pages.{slots_on, version_in}
use Rattle.index_lookup.specs.Looking.{FirstFound, IsFirstPlace, FirstPlace, SomeOf}
use Rattle.index_lookup.proofs.Fetching.{seen-there}
use Rattle.sound_entries.specs.Entries.{MayBeTarget, EntriesAreSound}
use Rattle.sound_entries.specs.Leading.{IsOnHeap, IsByIndex, IsUndone, SeesNoExcused, SomeOnHeap}
use Rattle.sound_entries.proofs.Leads.{visible-found, found, touched-made}

-- what is in the list of a chain to which an entry may lead, is in the chain
pub listed-in : (w : Window) (slots : List Slot) (root i : ℕ) (chain : List ℕ) → MayBeTarget (slot_at slots root) → IsChain (has_aborted w) slots root chain → i < length chain
    → IsIn w slots root (get_or chain i 0)
listed-in w slots root i chain may is within = ⊎_elim
    (λ starts. leads-in w slots root (get_or chain i 0) (record { starts = starts; chain = chain; is_chain = is; holds = at-place (get_or chain i 0) chain i within refl }))
    (λ dead.
    let some : 0 < length chain = omega arith in
    none-some (slice_get chain 0) (get_or chain 0 0) (is.start ∙ ap (option_and_then (start_in slots root)) dead) (slice_get-get_or chain 0 0 some))
    may

fetched-none : (w : Window) (seen : Header → Type 0) (slots : List Slot) (root n : ℕ) (t : Version) → SoundPage w slots → Fetched (has_aborted w) seen slots root None
    → IsIn w slots root n → version_at slots n ≡ Some t → ¬ seen t.header
fetched-none w seen slots root n t sound (chain, is, none) within at has =
    let l = in-leads w slots root n sound within in
    let one = chain-one (has_aborted w) slots root l.chain chain l.is_chain is in
    let p = place-of n chain (subst (λ c. Contains c n) one l.holds) in
    none p.0 t p.1 (ap (version_at slots) p.2 ∙ at) has

-- what is at the place of the first version that is seen
seen-on_heap : (value_of : Row → ℤ) (since : Option ℕ) (w : Window) (pages : List (List Slot)) (entries : List Entry) (s : Snap) (own : List ℕ) → EntriesAreSound value_of since w pages entries
    → ((x : ℕ) → Contains own x → IsActive w x) → SeesNoExcused w since s own → (value : ℤ) (key : ℕ) (q : Tid) → IsFirstPlace w (IsVisible w s own) pages entries value key q
    → (t : Version) × IsOnHeap value_of pages value key (λ t. IsVisible w s own t.header) q t
seen-on_heap value_of since w pages entries s own sound active sees_none value key q f =
    let slots = slots_on pages f.entry.tid.page in
    let at = f.seen_at in
    let chain = at.chain in
    let seen = at.seen_in in
    let t = seen.version in
    let listed = listed-in w slots f.entry.tid.slot seen.index chain (sound.index.leads f.entry f.there) at.is_chain seen.first.within in
    let i : IsByIndex w pages entries value key (λ t. IsVisible w s own t.header) q t = record {
      entry = f.entry;
      of = f.of;
      leads = record { there = f.there; page = at.page; chain = subst (IsIn w slots f.entry.tid.slot) (sym seen.slot) listed };
      there = seen-there w (IsVisible w s own) pages f.entry.tid q at;
      has = seen.first.is_seen;
    } in
    (t, (visible-found value_of since w pages entries sound s own active sees_none value key q t).1 i)

pub found-on_heap : (value_of : Row → ℤ) (since : Option ℕ) (w : Window) (pages : List (List Slot)) (entries : List Entry) (s : Snap) (own : List ℕ) → EntriesAreSound value_of since w pages entries
    → ((x : ℕ) → Contains own x → IsActive w x) → SeesNoExcused w since s own → (value : ℤ) (key : ℕ) (answer : Option Row) → FirstFound w (IsVisible w s own) pages entries value key answer
    → MatchOption answer
    ((p : Tid) (t : Version) → ¬ IsOnHeap value_of pages value key (λ t. IsVisible w s own t.header) p t)
    (λ row. (p : Tid) × (t : Version) × IsOnHeap value_of pages value key (λ t. IsVisible w s own t.header) p t × (row ≡ t.row))
found-on_heap value_of since w pages entries s own sound active sees_none value key None none = λ p t here.
    let i = (visible-found value_of since w pages entries sound s own active sees_none value key p t).0 here in
    let slots = slots_on pages i.entry.tid.page in
    fetched-none w (IsVisible w s own) slots i.entry.tid.slot p.slot t (sound.heap i.entry.tid.page) (none i.entry i.leads.there i.of) i.leads.chain
    (ap (λ n. version_at (slots_on pages n) p.slot) (sym i.leads.page) ∙ i.there) i.has
found-on_heap value_of since w pages entries s own sound active sees_none value key (Some row) (q, f, is) =
    let p = seen-on_heap value_of since w pages entries s own sound active sees_none value key q f in
    (q, p.0, p.1, same_Some row p.0.row (sym is ∙ ap (option_map (λ (t : Version). t.row)) p.1.there))

pub the_row-found : (value_of : Row → ℤ) (since : Option ℕ) (w : Window) (pages : List (List Slot)) (entries : List Entry) (s : Snap) (own : List ℕ) → EntriesAreSound value_of since w pages entries
    → ((x : ℕ) → Contains own x → IsActive w x) → SeesNoExcused w since s own → (value : ℤ) (key : ℕ)
    → ((p q : Tid) (t u : Version) → IsOnHeap value_of pages value key (λ t. IsVisible w s own t.header) p t → IsOnHeap value_of pages value key (λ t. IsVisible w s own t.header) q u → p ≡ q)
    → (answer : Option Row) → FirstFound w (IsVisible w s own) pages entries value key answer
    → (p : Tid) (t : Version) → IsOnHeap value_of pages value key (λ t. IsVisible w s own t.header) p t → answer ≡ Some t.row
the_row-found value_of since w pages entries s own sound active sees_none value key one None f p t here =
    absurd (found-on_heap value_of since w pages entries s own sound active sees_none value key None f p t here)
the_row-found value_of since w pages entries s own sound active sees_none value key one (Some row) f p t here =
    let got = found-on_heap value_of since w pages entries s own sound active sees_none value key (Some row) f in
    let same = one got.0 p got.1 t got.2 here in
    let version : got.1 ≡ t = same_Some got.1 t (sym got.2.there ∙ ap (version_in pages) same ∙ here.there) in
    ap (λ (r : Row). Some r) (got.3 ∙ ap (λ (v : Version). v.row) version)

pub place-on_heap : (value_of : Row → ℤ) (since : Option ℕ) (w : Window) (pages : List (List Slot)) (entries : List Entry) (s : Snap) (own : List ℕ) → EntriesAreSound value_of since w pages entries
    → ((x : ℕ) → Contains own x → IsActive w x) → SeesNoExcused w since s own → (value : ℤ) (key : ℕ) (answer : Option Tid) → FirstPlace w (IsVisible w s own) pages entries value key answer
    → MatchOption answer
    ((p : Tid) (t : Version) → ¬ IsOnHeap value_of pages value key (λ t. IsVisible w s own t.header) p t)
    (λ p. (t : Version) × IsOnHeap value_of pages value key (λ t. IsVisible w s own t.header) p t)
place-on_heap value_of since w pages entries s own sound active sees_none value key None none =
    found-on_heap value_of since w pages entries s own sound active sees_none value key None none
place-on_heap value_of since w pages entries s own sound active sees_none value key (Some q) f =
    seen-on_heap value_of since w pages entries s own sound active sees_none value key q f

-- Ids that made or deleted a version.

some-on_heap : (value_of : Row → ℤ) (w : Window) (pages : List (List Slot)) (entries : List Entry) (P : Header → Type 0) → EntriesAreSound value_of None w pages entries
    → ((p : Tid) (t : Version) → version_in pages p ≡ Some t → P t.header → ¬ IsUndone w t.header)
    → (value : ℤ) (key : ℕ) → SomeOf w P pages entries value key ↔ SomeOnHeap value_of pages value key P
some-on_heap value_of w pages entries P sound made value key = (
  (λ s.
      let slots = slots_on pages s.entry.tid.page in
      let a = s.at.some in
      let p : Tid = record { page = s.entry.tid.page; slot = get_or s.at.chain a.place 0 } in
      let i : IsByIndex w pages entries value key (λ t. P t.header) p a.version = record {
        entry = s.entry;
        of = s.of;
        leads = record {
          there = s.there;
          page = refl;
          chain = listed-in w slots s.entry.tid.slot a.place s.at.chain (sound.index.leads s.entry s.there) s.at.is_chain a.within;
        };
        there = a.there;
        has = a.has;
      } in
      (p, a.version, (found value_of None w pages entries sound (λ t. P t.header) (λ p t at has. (made p t at has, λ none. none)) value key p a.version).1 i)),
  (λ h.
      let p = h.0 in
      let i = (found value_of None w pages entries sound (λ t. P t.header) (λ p t at has. (made p t at has, λ none. none)) value key p h.1).0 h.2 in
      let slots = slots_on pages i.entry.tid.page in
      let l = in-leads w slots i.entry.tid.slot p.slot (sound.heap i.entry.tid.page) i.leads.chain in
      let q = place-of p.slot l.chain l.holds in
      record {
        entry = i.entry;
        there = i.leads.there;
        of = i.of;
        at = record {
          chain = l.chain;
          is_chain = l.is_chain;
          some = record {
            place = q.0;
            version = h.1;
            within = q.1;
            there = ap (version_at slots) q.2 ∙ ap (λ n. version_at (slots_on pages n) p.slot) (sym i.leads.page) ∙ i.there;
            has = i.has;
          };
        };
      }),
)

pub newer_commit-on_heap : (value_of : Row → ℤ) (w : Window) (pages : List (List Slot)) (entries : List Entry) (s : Snap) (x : ℕ) → EntriesAreSound value_of None w pages entries
    → (value : ℤ) (key : ℕ) → SomeOf w (IsNewerCommitIn w s x) pages entries value key ↔ SomeOnHeap value_of pages value key (IsNewerCommitIn w s x)
newer_commit-on_heap value_of w pages entries s x sound value key = some-on_heap value_of w pages entries (IsNewerCommitIn w s x) sound
    (λ p t at newer_commit. touched-made w (slots_on pages p.page) p.slot x t (sound.heap p.page) at (alive (committed-to w x newer_commit.1)) newer_commit.0) value key
  where
    alive : IsCommitted w x → ¬ IsAborted w x
    alive done gone = let e : Committed ≡ Aborted = sym done ∙ gone in cc

pub other_writer-on_heap : (value_of : Row → ℤ) (w : Window) (pages : List (List Slot)) (entries : List Entry) (own : List ℕ) (x : ℕ) → EntriesAreSound value_of None w pages entries
    → (value : ℤ) (key : ℕ) → SomeOf w (IsOtherWriterIn w own x) pages entries value key ↔ SomeOnHeap value_of pages value key (IsOtherWriterIn w own x)
other_writer-on_heap value_of w pages entries own x sound value key = some-on_heap value_of w pages entries (IsOtherWriterIn w own x) sound
    (λ p t at held. touched-made w (slots_on pages p.page) p.slot x t (sound.heap p.page) at (alive (active-to w x held.active).unfinished) held.touch) value key
  where
    alive : IsInProgress w x → ¬ IsAborted w x
    alive active gone = let e : InProgress ≡ Aborted = sym active ∙ gone in cc
