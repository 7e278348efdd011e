-- One entry leads to each version that isn't undone, so that what is found by the index is what is found on the heap.
use Rattle.std.proofs.Common.{◌≡◌, ◌↔◌, ◌⊎◌, ℕ, ℤ, Bool, true, false, not, if◌then◌else◌, List, Option, Some, None, refl, sym, ap, ◌∙◌, subst, ⊎_elim}
use Rattle.std.specs.List.{Contains}
use Rattle.std.proofs.lemmas.Bool.{cases_Bool}
use Rattle.xid_circle.specs.declared.Tid.{Tid}
use Rattle.xid_circle.proofs.Tids.{same-tid}
use Rattle.tuple_header.specs.Version.{Version}
use Rattle.tuple_header.specs.declared.version.Row.{Row}
use Rattle.tuple_header.specs.Marks.{is_heap_only}
use Rattle.page_sheet.specs.declared.slot.Slot.{Slot}
use Rattle.page_sheet.specs.declared.slot.Slot.TheVariants.{Unused, Normal, Redirect, Dead}
use Rattle.page_sheet.specs.Slots.{slot_at, version_at}
use Rattle.page_sheet.proofs.SlotLemmas.{version_at-from_slot_at}
use Rattle.commit_status.specs.declared.status.Status.TheVariants.{InProgress, Committed, Aborted}
use Rattle.commit_status.specs.Window.{Window, IsActive, IsAborted}
use Rattle.snapshot.specs.Snap.{Snap}
use Rattle.visibility.proofs.Makers.{made-of, touch-cases, committed-to}
use Rattle.visibility.specs.Seeing.{Reads, VisibleBy, Touches}
use Rattle.visibility.specs.Visible.{ReadsIn, IsVisible}
use Rattle.hot_chain.specs.Chain.{is_root, is_root_in}
use Rattle.sound_page.specs.Sound.{chain_start_in, chain_start_of, IsIn, SoundPage, SomeRoot}
use Rattle.sound_page.proofs.Links.{SomeVersion, member-version}
use Rattle.sound_page.proofs.ChainPlaces.{place-of}
use Rattle.sound_page.proofs.SoundChains.{in-leads}
use Rattle.tuple_writes.proofs.Growth.{entry-normal}
use Rattle.index_entries.specs.declared.entry.Entry.{Entry}
use Rattle.index_entries.specs.Sets.{IsOf}
use Rattle.index_lookup.specs.Pages.{slots_on, slot_in, version_in}
use Rattle.sound_entries.specs.Entries.{IsExcused, SomeEntry, EntriesAreSound}
use Rattle.sound_entries.specs.Leading.{IsUndone, SeesNoExcused, HasOneEntry, IsOnHeap, IsByIndex}

-- On one page.

-- what is in a chain is a version
pub chained-version : (w : Window) (slots : List Slot) (root n : ℕ) → SoundPage w slots → IsIn w slots root n → SomeVersion slots n
chained-version w slots root n sound i =
    let l = in-leads w slots root n sound i in
    let p = place-of n l.chain l.holds in
    let v = member-version _ slots root l.chain p.0 l.is_chain p.1 in
    record { version = v.version; there = subst (λ k. version_at slots k ≡ Some v.version) p.2 v.there }

root-of : (w : Window) (slots : List Slot) (n : ℕ) (t : Version) → SoundPage w slots → version_at slots n ≡ Some t → ¬ IsUndone w t.header → SomeRoot w slots n
root-of w slots n t sound at done = ⊎_elim
    (λ heap_only. ⊎_elim (λ undone. absurd (done (record { thawed = undone.0; aborted = undone.1 }))) (λ r. r) (sound.owned n t at heap_only))
    (λ plain. record { root = n; leads = record { entry = n; leads = entry-normal slots n t at plain; later = record { turns = 0; along = refl } } })
    (cases_Bool (is_heap_only t.header))

-- a version that an id touched which isn't aborted was made
pub touched-made : (w : Window) (slots : List Slot) (n x : ℕ) (t : Version) → SoundPage w slots → version_at slots n ≡ Some t → ¬ IsAborted w x
    → Touches x t.header → ¬ IsUndone w t.header
touched-made w slots n x t sound at alive touch undone = ⊎_elim
    (λ made. alive (subst (IsAborted w) made.1 undone.aborted))
    (λ gone. alive (subst (IsAborted w) gone.1 (sound.undone n t at undone.thawed undone.aborted gone.0)))
    (touch-cases t.header x touch)

-- a version that a reader sees was made, if the reader counts nothing that is aborted
pub seen-made : (w : Window) (R : ℕ → Type 0) (t : Version) → ((x : ℕ) → IsAborted w x → ¬ R x) → VisibleBy R t.header → ¬ IsUndone w t.header
seen-made w R t none seen undone = ⊎_elim (λ frozen. undone.thawed frozen) (λ counts. none t.header.xmin.0 undone.aborted counts) (made-of R t.header seen)

-- a chain begins with a version
pub record FirstIn (w : Window) (slots : List Slot) (root : ℕ) : Type 0 where
  pub place : ℕ
  pub version : Version
  pub within : IsIn w slots root place
  pub there : version_at slots place ≡ Some version

pub first-in : (w : Window) (slots : List Slot) (n : ℕ) → SoundPage w slots → is_root slots n ≡ true → FirstIn w slots n
first-in w slots n sound root = by (slot_at slots n) refl root
  where
    plain : (b : Bool) → not b ≡ true → (if b then None else Some n) ≡ Some n
    plain true e = absurd (cc)
    plain false e = refl

    starts : (k : ℕ) → chain_start_of slots n ≡ Some k → IsIn w slots n k
    starts k leads = record { entry = k; leads = leads; later = record { turns = 0; along = refl } }

    by : (o : Option Slot) → slot_at slots n ≡ o → is_root_in o ≡ true → FirstIn w slots n
    by None at is = absurd (cc)
    by (Some Unused) at is = absurd (cc)
    by (Some (Normal t)) at is = record {
      place = n;
      version = t;
      within = starts n (ap (chain_start_in n) at ∙ plain (is_heap_only t.header) is);
      there = version_at-from_slot_at slots n t at;
    }
    by (Some (Redirect k)) at is = let target = sound.redirects n k at in
        record { place = k; version = target.version; within = starts k (ap (chain_start_in n) at); there = target.there }
    by (Some Dead) at is = absurd (cc)

-- On all pages.

module _ (value_of : Row → ℤ) (since : Option ℕ) (w : Window) (pages : List (List Slot)) (entries : List Entry) (sound : EntriesAreSound value_of since w pages entries) where
  led-or : (p : Tid) (t : Version) → ¬ IsExcused w since t → IsExcused w since t ⊎ SomeEntry entries p → SomeEntry entries p
  led-or p t needed led = ⊎_elim (λ excused. absurd (needed excused)) (λ some. some) led

  of-or : (e : Entry) (t : Version) → ¬ IsExcused w since t → IsExcused w since t ⊎ IsOf (value_of t.row) t.row.key e → IsOf (value_of t.row) t.row.key e
  of-or e t needed alike = ⊎_elim (λ excused. absurd (needed excused)) (λ of. of) alike

  pub led_by_one : (p : Tid) (t : Version) → version_in pages p ≡ Some t → ¬ IsUndone w t.header → ¬ IsExcused w since t → HasOneEntry w pages entries p (value_of t.row) t.row.key
  led_by_one p t at done needed =
      let slots = slots_on pages p.page in
      let r = root-of w slots p.slot t (sound.heap p.page) at done in
      let root : Tid = record { page = p.page; slot = r.root } in
      let s = led-or root t needed (sound.index.led root p.slot t r.leads at) in
      let page : p.page ≡ s.entry.tid.page = sym (ap (λ (q : Tid). q.page) s.at) in
      let chain = subst (λ (q : Tid). IsIn w (slots_on pages q.page) q.slot p.slot) (sym s.at) r.leads in
      record {
        entry = s.entry;
        of = of-or s.entry t needed (sound.index.alike s.entry p.slot t s.there chain (ap (λ n. version_at (slots_on pages n) p.slot) (sym page) ∙ at));
        leads = record { there = s.there; page = page; chain = chain };
        only = λ f l.
            let here = subst (λ n. IsIn w (slots_on pages n) f.tid.slot p.slot) (sym l.page) l.chain in
            let slot : f.tid.slot ≡ s.entry.tid.slot = (sound.heap p.page).alone f.tid.slot r.root p.slot here r.leads ∙ sym (ap (λ (q : Tid). q.slot) s.at) in
            sound.index.one f s.entry l.there s.there (same-tid f.tid s.entry.tid (sym l.page ∙ page) slot);
      }

  -- what P says only of versions that were made, and are not excused, is found by the index exactly where it is found on the heap
  pub found : (P : Version → Type 0) → ((p : Tid) (t : Version) → version_in pages p ≡ Some t → P t → (¬ IsUndone w t.header) × (¬ IsExcused w since t))
      → (value : ℤ) (key : ℕ) (p : Tid) (t : Version) → IsOnHeap value_of pages value key P p t ↔ IsByIndex w pages entries value key P p t
  found P made value key p t = (
    (λ h.
        let is = made p t h.there h.has in
        let l = led_by_one p t h.there is.0 is.1 in
        record { entry = l.entry; of = (l.of.0 ∙ h.of_value, l.of.1 ∙ h.of_key); leads = l.leads; there = h.there; has = h.has }),
    (λ i.
        let at = ap (λ n. version_at (slots_on pages n) p.slot) (sym i.leads.page) ∙ i.there in
        let of = of-or i.entry t (made p t i.there i.has).1 (sound.index.alike i.entry p.slot t i.leads.there i.leads.chain at) in
        record { there = i.there; of_value = sym of.0 ∙ i.of.0; of_key = sym of.1 ∙ i.of.1; has = i.has }),
  )

  pub visible-found : (s : Snap) (own : List ℕ) → ((x : ℕ) → Contains own x → IsActive w x) → SeesNoExcused w since s own → (value : ℤ) (key : ℕ) (p : Tid) (t : Version)
      → IsOnHeap value_of pages value key (λ t. IsVisible w s own t.header) p t ↔ IsByIndex w pages entries value key (λ t. IsVisible w s own t.header) p t
  visible-found s own active sees_none value key p t =
      found (λ t. IsVisible w s own t.header) (λ q u at seen. (seen-made w (ReadsIn w s own) u (λ x gone. unread x gone) seen, λ excused. sees_none u excused seen)) value key p t
    where
      unread : (x : ℕ) → IsAborted w x → ¬ ReadsIn w s own x
      unread x gone (Reads.by_itself c) = let e : Aborted ≡ InProgress = sym gone ∙ (active x c).unfinished in absurd (cc)
      unread x gone (Reads.by_others sees done) = let e : Aborted ≡ Committed = sym gone ∙ committed-to w x done in absurd (cc)

pub root-led : (value_of : Row → ℤ) (w : Window) (pages : List (List Slot)) (entries : List Entry) (p : Tid) → EntriesAreSound value_of None w pages entries
    → is_root_in (slot_in pages p) ≡ true → SomeEntry entries p
root-led value_of w pages entries p sound root =
    let first = first-in w (slots_on pages p.page) p.slot (sound.heap p.page) root in
    ⊎_elim (λ none. absurd none) (λ some. some) (sound.index.led p first.place first.version first.within first.there)

pub touched-found : (value_of : Row → ℤ) (w : Window) (pages : List (List Slot)) (entries : List Entry) → EntriesAreSound value_of None w pages entries
    → (x : ℕ) → ¬ IsAborted w x → (value : ℤ) (key : ℕ) (p : Tid) (t : Version)
    → IsOnHeap value_of pages value key (λ t. Touches x t.header) p t ↔ IsByIndex w pages entries value key (λ t. Touches x t.header) p t
touched-found value_of w pages entries sound x alive value key p t =
    found value_of None w pages entries sound (λ t. Touches x t.header)
    (λ q u at touch. (touched-made w (slots_on pages q.page) q.slot x u (sound.heap q.page) at alive touch, λ none. none)) value key p t
