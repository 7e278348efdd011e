-- What becomes of transactions leaves the entries right: chains only break.
use Rattle.std.proofs.Common.{◌≡◌, ℕ, ℤ, zero, suc, false, List, Option, Some, None, ◌∙◌, ⊎_elim}
use Rattle.std.specs.List.{Contains}
use Rattle.std.proofs.lemmas.Bool.{cases_Bool}
use Rattle.xid_circle.specs.Following.{ReachesIn}
use Rattle.tuple_header.specs.declared.version.Row.{Row}
use Rattle.page_sheet.specs.declared.slot.Slot.{Slot}
use Rattle.commit_status.specs.declared.status.Status.TheVariants.{Committed, Aborted}
use Rattle.commit_status.specs.Window.{Window, IsWindow, IsActive, IsCommitted, IsAborted}
use Rattle.commit_status.specs.Changes.{Gives, Finishes}
use Rattle.commit_status.proofs.Giving.{gives-status}
use Rattle.commit_status.proofs.Finishing.{finishes-committed_old}
use Rattle.visibility.specs.Visible.{IsDead}
use Rattle.hot_chain.specs.Chain.{has_aborted}
use Rattle.sound_page.specs.Links.{link}
use Rattle.sound_page.specs.Sound.{IsIn}
use Rattle.sound_page.proofs.Links.{link-of, successor-from}
use Rattle.sound_page.proofs.Undone.{has-aborted, aborted-has}
use Rattle.tuple_writes.specs.Laws.{DeletedWhatWasMade, AloneDeletedTheirs}
use Rattle.tuple_writes.proofs.Statuses.{replaced-live, giving-sound, committing-sound, aborting-sound, aborted-other}
use Rattle.index_entries.specs.declared.entry.Entry.{Entry}
use Rattle.index_lookup.specs.Pages.{slots_on}
use Rattle.sound_entries.specs.Entries.{SoundHeap, EntriesAreSound, StaysSound}
use Rattle.sound_entries.proofs.Going.{StaysExcused, PageGoesOn, page-same, stay-sound, stay-led}

-- Where what has ended stays so, no link comes, and what is excused stays so.

module _ (w v : Window) (aborted : (x : ℕ) → IsAborted w x → IsAborted v x) (committed : (x : ℕ) → IsCommitted w x → IsCommitted v x) where
  link-back : (slots : List Slot) (n k : ℕ) → link v slots n ≡ Some k → link w slots n ≡ Some k
  link-back slots n k next =
      let l = link-of (has_aborted v) slots n k next in
      let live = alive l.old.header.xmax.0 l.live in
      successor-from (has_aborted w) slots n k l.old l.new l.from l.to (replaced-live (has_aborted v) (has_aborted w) l.old.header l.replaced live) l.place l.heap_only l.made
    where
      alive : (x : ℕ) → has_aborted v x ≡ false → has_aborted w x ≡ false
      alive x live = ⊎_elim
          (λ gone. let too = aborted-has v x (aborted x (has-aborted w x gone)) in absurd (cc))
          (λ e. e) (cases_Bool (has_aborted w x))

  along-back : (slots : List Slot) (i n k : ℕ) → ReachesIn (link v slots) i n k → ReachesIn (link w slots) i n k
  along-back slots zero n k same = same
  along-back slots (suc i) n k along = (along.0, link-back slots n along.0 along.1, along-back slots i along.0 k along.2)

  in-back : (slots : List Slot) (root n : ℕ) → IsIn v slots root n → IsIn w slots root n
  in-back slots root n i =
      record { entry = i.entry; leads = i.leads; later = record { turns = i.later.turns; along = along-back slots i.later.turns i.entry n i.later.along } }

  excused-stays : (since : Option ℕ) (slots : List Slot) → StaysExcused since w v slots
  excused-stays None slots n t at none = none
  excused-stays (Some since) slots n t at (IsDead.never_was thawed gone) = IsDead.never_was thawed (aborted t.header.xmin.0 gone)
  excused-stays (Some since) slots n t at (IsDead.is_past done before) = IsDead.is_past (committed t.header.xmax.0 done) before

  pub statuses-stay : (value_of : Row → ℤ) (since : Option ℕ) (pages : List (List Slot)) (entries : List Entry) → EntriesAreSound value_of since w pages entries → SoundHeap v pages
      → StaysSound value_of since v pages pages entries entries
  statuses-stay value_of since pages entries sound heap = record {
    sound = record { heap = heap; index = stay-sound value_of since w v pages pages entries sound.index goes };
    led = stay-led value_of since w v pages pages entries sound.index (λ m k. ⊥) goes entries;
  }
    where
      goes : (m : ℕ) → PageGoesOn value_of since w v (slots_on pages m) (slots_on pages m) (λ k. ⊥)
      goes m = page-same value_of since w v (slots_on pages m) (λ k. ⊥) (in-back (slots_on pages m)) (excused-stays since (slots_on pages m))

pub giving-stays : (value_of : Row → ℤ) (since : Option ℕ) (w v : Window) (parent : Option ℕ) (pages : List (List Slot)) (entries : List Entry)
    → EntriesAreSound value_of since w pages entries → IsWindow w → IsWindow v → Gives w v parent → StaysSound value_of since v pages pages entries entries
giving-stays value_of since w v parent pages entries sound before after gives =
    statuses-stay w v (λ x gone. gives-status w v parent x before after gives ∙ gone) (λ x done. gives-status w v parent x before after gives ∙ done) value_of since pages entries sound
    (λ n. giving-sound w v parent (slots_on pages n) before after gives (sound.heap n))

pub committing-stays : (value_of : Row → ℤ) (since : Option ℕ) (w v : Window) (ids : List ℕ) (pages : List (List Slot)) (entries : List Entry)
    → EntriesAreSound value_of since w pages entries → ((x : ℕ) → Contains ids x → IsActive w x) → Finishes w v ids Committed
    → ((n : ℕ) → DeletedWhatWasMade w (slots_on pages n) ids) → StaysSound value_of since v pages pages entries entries
committing-stays value_of since w v ids pages entries sound active f theirs =
    statuses-stay w v (λ x gone. aborted-other w v ids Committed x active f gone) (λ x done. finishes-committed_old w v ids Committed x active f done) value_of since pages entries sound
    (λ n. committing-sound w v ids (slots_on pages n) active f (theirs n) (sound.heap n))

pub aborting-stays : (value_of : Row → ℤ) (since : Option ℕ) (w v : Window) (ids : List ℕ) (pages : List (List Slot)) (entries : List Entry)
    → EntriesAreSound value_of since w pages entries → ((x : ℕ) → Contains ids x → IsActive w x) → Finishes w v ids Aborted
    → ((n : ℕ) → AloneDeletedTheirs w (slots_on pages n) ids) → StaysSound value_of since v pages pages entries entries
aborting-stays value_of since w v ids pages entries sound active f theirs =
    statuses-stay w v (λ x gone. aborted-other w v ids Aborted x active f gone) (λ x done. finishes-committed_old w v ids Aborted x active f done) value_of since pages entries sound
    (λ n. aborting-sound w v ids (slots_on pages n) active f (theirs n) (sound.heap n))
