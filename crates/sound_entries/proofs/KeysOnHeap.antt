-- Which keys show where entries are sound, and what is noted of the pages is so: those of versions that the reader sees.
use Rattle.std.proofs.Common.{◌≡◌, ◌≢◌, ℕ, ℤ, List, Option, Some, inl, inr, refl, sym, ap, ◌∙◌, ⊎_elim, get_or}
use Rattle.std.specs.List.{Contains}
use Rattle.xid_circle.specs.declared.Tid.{Tid}
use Rattle.tuple_header.specs.Version.{Version}
use Rattle.tuple_header.specs.declared.version.Row.{Row}
use Rattle.page_sheet.specs.declared.slot.Slot.TheVariants.{Dead}
use Rattle.page_sheet.specs.Slots.{version_at}
use Rattle.commit_status.specs.Window.{Window, IsActive}
use Rattle.snapshot.specs.Snap.{Snap}
use Rattle.visibility.specs.Visible.{IsVisible}
use Rattle.sound_page.specs.Sound.{IsIn}
use Rattle.sound_page.proofs.ChainPlaces.{place-of}
use Rattle.sound_page.proofs.SoundChains.{in-leads}
use Rattle.heap_pages.specs.View.{PagesView}
use Rattle.index_entries.specs.declared.entry.Entry.{Entry}
use Rattle.index_lookup.specs.Pages.{page_slots_of, slots_on, slot_in, version_in}
use Rattle.index_lookup.specs.Keys.{IsNotedVisible, PlaceShows, KeyShows}
use Rattle.sound_entries.specs.Entries.{EntriesAreSound}
use Rattle.sound_entries.specs.Leading.{IsOnHeap, IsByIndex, SeesNoExcused, SomeOnHeap}
use Rattle.sound_entries.proofs.Leads.{visible-found, first-in}
use Rattle.sound_entries.proofs.OnHeap.{listed-in}

-- what is noted of the pages is so for the reader: of a page that is noted as all-visible no slot is dead, and it sees each version
pub record NotedIsSeen (w : Window) (s : Snap) (own : List ℕ) (pages : PagesView) : Type 0 where
  pub alive : (p : Tid) → IsNotedVisible pages.marks p.page → slot_in (page_slots_of pages) p ≢ Some Dead
  pub seen : (p : Tid) (t : Version) → IsNotedVisible pages.marks p.page → version_in (page_slots_of pages) p ≡ Some t → IsVisible w s own t.header

module _ (value_of : Row → ℤ) (since : Option ℕ) (w : Window) (pages : PagesView) (entries : List Entry) (s : Snap) (own : List ℕ) (sound : EntriesAreSound value_of since w (page_slots_of pages) entries)
    (active : (x : ℕ) → Contains own x → IsActive w x) (sees_none : SeesNoExcused w since s own) (value : ℤ) (key : ℕ) where
  -- what an entry of the key leads to, and the reader sees
  led-to : (e : Entry) (n : ℕ) (t : Version) → Contains entries e → (e.value ≡ value) × (e.key ≡ key) → IsIn w (slots_on (page_slots_of pages) e.tid.page) e.tid.slot n → version_at (slots_on (page_slots_of pages) e.tid.page) n ≡ Some t
      → IsVisible w s own t.header → SomeOnHeap value_of (page_slots_of pages) value key (IsVisible w s own)
  led-to e n t there of within at seen =
      let p : Tid = record { page = e.tid.page; slot = n } in
      let i : IsByIndex w (page_slots_of pages) entries value key (λ t. IsVisible w s own t.header) p t = record {
        entry = e;
        of = of;
        leads = record { there = there; page = refl; chain = within };
        there = at;
        has = seen;
      } in
      (p, t, (visible-found value_of since w (page_slots_of pages) entries sound s own active sees_none value key p t).1 i)

  by-place : (e : Entry) → Contains entries e → (e.value ≡ value) × (e.key ≡ key) → NotedIsSeen w s own pages → PlaceShows w (IsVisible w s own) pages e.tid → SomeOnHeap value_of (page_slots_of pages) value key (IsVisible w s own)
  by-place e there of noted (inl page) = ⊎_elim
      (λ root.
      let first = first-in w (slots_on (page_slots_of pages) e.tid.page) e.tid.slot (sound.heap e.tid.page) root in
      led-to e first.place first.version there of first.within first.there (noted.seen (record { page = e.tid.page; slot = first.place }) first.version page first.there))
      (λ dead. absurd (noted.alive e.tid page dead))
      (sound.index.leads e there)
  by-place e there of noted (inr some) =
      led-to e (get_or some.chain some.some.place 0) some.some.version there of
      (listed-in w (slots_on (page_slots_of pages) e.tid.page) e.tid.slot some.some.place some.chain (sound.index.leads e there) some.is_chain some.some.within) some.some.there some.some.has

  pub shows-on_heap : NotedIsSeen w s own pages → KeyShows w (IsVisible w s own) pages entries value key → SomeOnHeap value_of (page_slots_of pages) value key (IsVisible w s own)
  shows-on_heap noted shows = by-place shows.entry shows.there shows.of noted shows.shows

  pub on_heap-shows : (p : Tid) (t : Version) → IsOnHeap value_of (page_slots_of pages) value key (λ t. IsVisible w s own t.header) p t → KeyShows w (IsVisible w s own) pages entries value key
  on_heap-shows p t here =
      let i = (visible-found value_of since w (page_slots_of pages) entries sound s own active sees_none value key p t).0 here in
      let slots = slots_on (page_slots_of pages) i.entry.tid.page in
      let l = in-leads w slots i.entry.tid.slot p.slot (sound.heap i.entry.tid.page) i.leads.chain in
      let n = place-of p.slot l.chain l.holds in
      record {
        entry = i.entry;
        there = i.leads.there;
        of = i.of;
        shows = inr (record {
          chain = l.chain;
          is_chain = l.is_chain;
          some = record {
            place = n.0;
            version = t;
            within = n.1;
            there = ap (version_at slots) n.2 ∙ (ap (λ k. version_at (slots_on (page_slots_of pages) k) p.slot) (sym i.leads.page) ∙ i.there);
            has = i.has;
          };
        });
      }
