-- What each reader finds after a step.
use Rattle.std.proofs.Common.{◌≡◌, ◌≢◌, ◌⊎◌, ◌↔◌, ℕ, false, List, Option, refl, sym, ap, ◌∙◌, subst, ⊎_elim, inl, inr}
use Rattle.std.specs.Prelude.{Contains}
use Rattle.std.proofs.lemmas.Option.{none-some}
use Rattle.xid_circle.specs.declared.Tid.{Tid}
use Rattle.tuple_header.specs.Version.{Version, rounded_size_of}
use Rattle.tuple_header.specs.declared.version.Row.{Row}
use Rattle.page_sheet.specs.declared.slot.Slot.{Slot}
use Rattle.page_sheet.specs.Slots.{version_at}
use Rattle.commit_status.specs.Window.{Window, IsAborted}
use Rattle.snapshot.specs.Own.{Own}
use Rattle.snapshot.specs.Snap.{Snap}
use Rattle.visibility.specs.Seeing.{Reads}
use Rattle.visibility.specs.Visible.{ReadsIn, IsVisible}
use Rattle.visibility.proofs.Dead.{aborted-unread}
use Rattle.prune_actions.specs.declared.Action.{Action}
use Rattle.prune.specs.Cutting.{IsCut}
use Rattle.prune.proofs.Unseen.{cut-unseen}
use Rattle.sound_page.proofs.ReaderLemmas.{open-reader}
use Rattle.tuple_writes.proofs.Slotted.{active-some}
use Rattle.index_lookup.specs.Pages.{slots_on, version_in}
use Rattle.heap_write.specs.Heap.{HeapView, slots_of}
use Rattle.heap_write.specs.Writes.{Inserts, Updates, Deletes, Prunes, Applies}
use Rattle.write_ids.specs.Ids.{TakesIds}
use Rattle.table_integrity.specs.Table.{SoundTable, MayDelete}
use Rattle.table_integrity.specs.Laws.{WritesUnder}
use Rattle.table_integrity.specs.Readers.{FindsAt, FindsRowAt, IsTableReader, FindsTheSame, IsAuthor, FindsOneMore, Elsewhere}
use Rattle.table_integrity.proofs.Places.{RemovesOn, Replaced, taken_version, free_place, root_version, root-new, prunes-stand, applies-stand, readies-stand, inserts-stand, deletes-stand, updates-ready, updates-stand}
use Rattle.table_integrity.proofs.Finding.{both, SameSight, adds-unseen, adds-seen, alters-same, alters-hidden}
use Rattle.table_integrity.proofs.TakenIds.{takes-ids, takes-versions, takes-active, takes-mine}
use Rattle.table_integrity.proofs.Sights.{active-unread, new-unseen, new-seen, taken-same, taken-unseen, author-sight}

-- Nobody can tell.

-- what is cut from one page, no reader finds
removed-found : (h : HeapView) (store' : Tid → Option Version) (n horizon : ℕ) (s : Snap) (own : List ℕ) → SoundTable h → IsTableReader h horizon s own
    → RemovesOn (version_in (slots_of h)) store' n (IsCut h.statuses horizon (slots_on (slots_of h) n))
    → (p : Tid) (r : Row) → FindsRowAt h s own p r ↔ FindsAt (IsVisible h.statuses s own) store' p r
removed-found h store' n horizon s own sound reader removes p r = (
  (λ f. ⊎_elim
      (λ stays. record { version = f.version; there = stays; is_seen = f.is_seen; of_row = f.of_row })
      (λ gone. absurd (cut-unseen h.statuses horizon slots (ReadsIn h.statuses s own) p.slot f.version (sound.heap n) (open-reader h.statuses horizon slots s own (reader n))
      (ap (λ m. version_at (slots_on (slots_of h) m) p.slot) (sym gone.0) ∙ f.there) f.is_seen gone.1))
      (removes.gone p f.version f.there)),
  (λ f. record { version = f.version; there = removes.kept p f.version f.there; is_seen = f.is_seen; of_row = f.of_row }),
)
  where
    slots : List Slot
    slots = slots_on (slots_of h) n

pub pruning-unseen : (h h' : HeapView) (number horizon : ℕ) (s : Snap) (own : List ℕ) → SoundTable h → Prunes h h' number horizon → IsTableReader h horizon s own → FindsTheSame h h' s own
pruning-unseen h h' number horizon s own sound prunes reader p r =
    subst (λ (w : Window). FindsRowAt h s own p r ↔ FindsAt (IsVisible w s own) (version_in (slots_of h')) p r) (sym (ap (λ (g : HeapView). g.statuses) prunes.is))
    (removed-found h (version_in (slots_of h')) number horizon s own sound reader (prunes-stand h h' number horizon prunes) p r)

pub applying-unseen : (h h' : HeapView) (number horizon change : ℕ) (actions : List (ℕ × Action)) (s : Snap) (own : List ℕ) → SoundTable h → Applies h h' number horizon change actions
    → IsTableReader h horizon s own → FindsTheSame h h' s own
applying-unseen h h' number horizon change actions s own sound applies reader p r =
    subst (λ (w : Window). FindsRowAt h s own p r ↔ FindsAt (IsVisible w s own) (version_in (slots_of h')) p r) (sym (ap (λ (g : HeapView). g.statuses) applies.is))
    (removed-found h (version_in (slots_of h')) number horizon s own sound reader (applies-stand h h' number horizon change actions applies) p r)

-- a reader that doesn't own the writer's id
module _ (h h' : HeapView) (horizon : ℕ) (own own' : Own) (x : ℕ) (s : Snap) (ids : List ℕ) (writer : WritesUnder h h' own) (takes : TakesIds h.statuses h'.statuses own own' x)
    (reader : IsTableReader h horizon s ids) (foreign : ¬ Contains ids x) where
  other-sight : (t : Version) → IsVisible h.statuses s ids t.header ↔ IsVisible h'.statuses s ids t.header
  other-sight t = let same = takes-versions h.statuses h'.statuses own own' x writer.before writer.after takes s ids t.header in (same.1, same.0)

  unread : ¬ ReadsIn h'.statuses s ids x
  unread = active-unread h'.statuses s ids x (takes-active h.statuses h'.statuses own own' x writer.before writer.after takes writer.active x (takes-mine h.statuses h'.statuses own own' x writer.before writer.after takes)) foreign

  gone-unread : (y : ℕ) → IsAborted h.statuses y → ¬ ReadsIn h'.statuses s ids y
  gone-unread y gone reads =
      aborted-unread h.statuses s ids y (reader 0).active gone ((takes-ids h.statuses h'.statuses own own' x writer.before writer.after takes s ids y).0 reads)

pub inserting-unseen : (h h' : HeapView) (horizon : ℕ) (own own' : Own) (row : Row) (x : ℕ) (s : Snap) (ids : List ℕ) → WritesUnder h h' own → Inserts h h' own own' row x
    → IsTableReader h horizon s ids → ¬ Contains ids x → FindsTheSame h h' s ids
inserting-unseen h h' horizon own own' row x s ids writer i reader foreign =
    let new = root_version h false x row i.number in
    adds-unseen (version_in (slots_of h)) (version_in (slots_of h')) (IsVisible h.statuses s ids) (IsVisible h'.statuses s ids)
    (λ p t at. other-sight h h' horizon own own' x s ids writer i.takes_ids reader foreign t)
    (free_place h i.number) new (inserts-stand h h' own own' row x i)
    (new-unseen (ReadsIn h'.statuses s ids) x row new (root-new h false x row i.number) (unread h h' horizon own own' x s ids writer i.takes_ids reader foreign))

pub deleting-unseen : (h h' : HeapView) (horizon : ℕ) (own own' : Own) (place : Tid) (t : Version) (x : ℕ) (s : Snap) (ids : List ℕ) → WritesUnder h h' own → MayDelete h place t
    → Deletes h h' own own' place x → IsTableReader h horizon s ids → ¬ Contains ids x → FindsTheSame h h' s ids
deleting-unseen h h' horizon own own' place t x s ids writer may d reader foreign =
    alters-same (version_in (slots_of h)) (version_in (slots_of h')) (IsVisible h.statuses s ids) (IsVisible h'.statuses s ids)
    (λ p u at. other-sight h h' horizon own own' x s ids writer d.takes_ids reader foreign u)
    place t (taken_version t x place false) (deletes-stand h h' own own' place x t d may.there) refl
    (both (other-sight h h' horizon own own' x s ids writer d.takes_ids reader foreign t)
    (taken-same (ReadsIn h'.statuses s ids) h.statuses t x place false (gone-unread h h' horizon own own' x s ids writer d.takes_ids reader foreign) may.untaken
    (unread h h' horizon own own' x s ids writer d.takes_ids reader foreign)))

pub updating-unseen : (h h' : HeapView) (horizon : ℕ) (own own' : Own) (place : Tid) (t : Version) (row : Row) (x : ℕ) (s : Snap) (ids : List ℕ) → SoundTable h → WritesUnder h h' own
    → MayDelete h place t → Updates h h' own own' place row horizon x → IsTableReader h horizon s ids → ¬ Contains ids x → FindsTheSame h h' s ids
updating-unseen h h' horizon own own' place t row x s ids sound writer may u reader foreign p r =
    let ready = version_in (slots_of u.ready) in
    let m = updates-stand h h' own own' place row horizon x t u may.there in
    let none = unread h h' horizon own own' x s ids writer u.takes_ids reader foreign in
    let seen = IsVisible h'.statuses s ids in
    both (removed-found h ready place.page horizon s ids sound reader (readies-stand h u.ready place horizon (rounded_size_of row) u.readies) p r)
    (both
    (adds-unseen ready m.added (IsVisible h.statuses s ids) seen (λ q v at. other-sight h h' horizon own own' x s ids writer u.takes_ids reader foreign v) m.to m.new m.adds
    (new-unseen (ReadsIn h'.statuses s ids) x row m.new m.is_new none) p r)
    (alters-same m.added (version_in (slots_of h')) seen seen (λ q v at. (λ a. a, λ a. a)) place t (taken_version t x m.to m.hot) m.alters refl
    (taken-same (ReadsIn h'.statuses s ids) h.statuses t x m.to m.hot (gone-unread h h' horizon own own' x s ids writer u.takes_ids reader foreign) may.untaken none) p r))

-- Who writes finds what it has written.

module _ (h h' : HeapView) (horizon : ℕ) (own own' : Own) (x : ℕ) (s : Snap) (writer : WritesUnder h h' own)
    (takes : TakesIds h.statuses h'.statuses own own' x) (author : IsAuthor h horizon s own.ids) where
  own-sight : SameSight (version_in (slots_of h)) (IsVisible h.statuses s own.ids) (IsVisible h'.statuses s own'.ids)
  own-sight = author-sight h h'.statuses horizon own own' x s writer.before writer.after takes author

  own-read : ReadsIn h'.statuses s own'.ids x
  own-read = Reads.by_itself (takes-mine h.statuses h'.statuses own own' x writer.before writer.after takes)

  own-some : x ≢ 0
  own-some = active-some h'.statuses x (takes-active h.statuses h'.statuses own own' x writer.before writer.after takes writer.active x
      (takes-mine h.statuses h'.statuses own own' x writer.before writer.after takes))

pub insert-found : (h h' : HeapView) (horizon : ℕ) (own own' : Own) (row : Row) (x : ℕ) (s : Snap) → SoundTable h → WritesUnder h h' own
    → Inserts h h' own own' row x → IsAuthor h horizon s own.ids → FindsOneMore (FindsRowAt h s own.ids) (FindsRowAt h' s own'.ids) row
insert-found h h' horizon own own' row x s sound writer i author =
    let new = root_version h false x row i.number in
    let adds = inserts-stand h h' own own' row x i in
    record {
      place = free_place h i.number;
      fresh = λ r f. none-some f.version (sym adds.unused ∙ f.there);
      each = adds-seen (version_in (slots_of h)) (version_in (slots_of h')) (IsVisible h.statuses s own.ids) (IsVisible h'.statuses s own'.ids)
          (own-sight h h' horizon own own' x s writer i.takes_ids author) (free_place h i.number) new adds
          (new-seen (ReadsIn h'.statuses s own'.ids) x row new (root-new h false x row i.number) (own-read h h' horizon own own' x s writer i.takes_ids author));
    }

pub delete-found : (h h' : HeapView) (horizon : ℕ) (own own' : Own) (place : Tid) (t : Version) (x : ℕ) (s : Snap) → SoundTable h → WritesUnder h h' own
    → MayDelete h place t → Deletes h h' own own' place x → IsAuthor h horizon s own.ids → (p : Tid) (r : Row) → FindsRowAt h' s own'.ids p r ↔ Elsewhere place (FindsRowAt h s own.ids) p r
delete-found h h' horizon own own' place t x s sound writer may d author =
    alters-hidden (version_in (slots_of h)) (version_in (slots_of h')) (IsVisible h.statuses s own.ids) (IsVisible h'.statuses s own'.ids)
    (own-sight h h' horizon own own' x s writer d.takes_ids author) place t (taken_version t x place false) (deletes-stand h h' own own' place x t d may.there)
    (taken-unseen (ReadsIn h'.statuses s own'.ids) t x place false (own-some h h' horizon own own' x s writer d.takes_ids author)
    (own-read h h' horizon own own' x s writer d.takes_ids author))

pub update-found : (h h' : HeapView) (horizon : ℕ) (own own' : Own) (place : Tid) (t : Version) (row : Row) (x : ℕ) (s : Snap) → SoundTable h → WritesUnder h h' own
    → MayDelete h place t → Updates h h' own own' place row horizon x → IsAuthor h horizon s own.ids → FindsOneMore (Elsewhere place (FindsRowAt h s own.ids)) (FindsRowAt h' s own'.ids) row
update-found h h' horizon own own' place t row x s sound writer may u author = record {
  place = m.to;
  fresh = λ r f. let g = (before m.to r).0 f.0 in none-some g.version (sym m.adds.unused ∙ g.there);
  each = λ p r. (
    (λ f. let pair = (after p r).0 f in ⊎_elim
        (λ old. inl ((before p r).1 old, pair.1))
        (λ here. inr (here.0, here.1 ∙ m.is_new.of_row))
        ((between p r).0 pair.0)),
    (λ either. ⊎_elim
        (λ old. (after p r).1 ((between p r).1 (inl ((before p r).0 old.0)), old.1))
        (λ here. (after p r).1 ((between p r).1 (inr (here.0, here.1 ∙ sym m.is_new.of_row)), λ e. apart (sym here.0 ∙ e)))
        either),
  );
}
  where
    ready : Tid → Option Version
    ready = version_in (slots_of u.ready)

    removes : RemovesOn (version_in (slots_of h)) ready place.page (IsCut h.statuses horizon (slots_on (slots_of h) place.page))
    removes = readies-stand h u.ready place horizon (rounded_size_of row) u.readies

    m : Replaced ready (version_in (slots_of h')) place t x row
    m = updates-stand h h' own own' place row horizon x t u may.there

    apart : m.to ≢ place
    apart e = none-some t (sym m.adds.unused ∙ (ap ready e ∙ updates-ready h h' own own' place row horizon x t u may.there))

    before : (p : Tid) (r : Row) → FindsRowAt h s own.ids p r ↔ FindsAt (IsVisible h.statuses s own.ids) ready p r
    before = removed-found h ready place.page horizon s own.ids sound author.reader removes

    between : (p : Tid) (r : Row) → FindsAt (IsVisible h'.statuses s own'.ids) m.added p r ↔ (FindsAt (IsVisible h.statuses s own.ids) ready p r ⊎ ((p ≡ m.to) × (r ≡ m.new.row)))
    between = adds-seen ready m.added (IsVisible h.statuses s own.ids) (IsVisible h'.statuses s own'.ids)
        (λ p v at. own-sight h h' horizon own own' x s writer u.takes_ids author p v (removes.kept p v at)) m.to m.new m.adds
        (new-seen (ReadsIn h'.statuses s own'.ids) x row m.new m.is_new (own-read h h' horizon own own' x s writer u.takes_ids author))

    after : (p : Tid) (r : Row) → FindsRowAt h' s own'.ids p r ↔ (FindsAt (IsVisible h'.statuses s own'.ids) m.added p r × (p ≢ place))
    after = alters-hidden m.added (version_in (slots_of h')) (IsVisible h'.statuses s own'.ids) (IsVisible h'.statuses s own'.ids) (λ p v at. (λ a. a, λ a. a)) place t
        (taken_version t x m.to m.hot) m.alters
        (taken-unseen (ReadsIn h'.statuses s own'.ids) t x m.to m.hot (own-some h h' horizon own own' x s writer u.takes_ids author)
        (own-read h h' horizon own own' x s writer u.takes_ids author))
