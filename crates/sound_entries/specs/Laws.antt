-- The laws of sound entries.
use Rattle.std.specs.Prelude.{◌≡◌, ◌≢◌, ◌↔◌, ◌≤◌, ℕ, ℤ, List, [], Bool, true, false, Option, Some, None, Contains, MatchOption}
use Rattle.xid_circle.specs.declared.Tid.{Tid}
use Rattle.tuple_header.specs.Version.{Version}
use Rattle.tuple_header.specs.declared.version.Row.{Row}
use Rattle.page_sheet.specs.declared.slot.Slot.{Slot}
use Rattle.page_sheet.specs.declared.slot.Slot.TheVariants.{Dead}
use Rattle.page_sheet.specs.Slots.{free_number}
use Rattle.commit_status.specs.declared.status.Status.{Status}
use Rattle.commit_status.specs.declared.status.Status.TheVariants.{InProgress, Committed, Aborted}
use Rattle.commit_status.specs.Window.{Window, IsWindow, IsActive, IsAborted, next_id}
use Rattle.commit_status.specs.Changes.{Gives, Finishes}
use Rattle.snapshot.specs.Snap.{Snap, taken, empty_at}
use Rattle.snapshot.specs.Laws.{AreOpen, IsInWindow}
use Rattle.visibility.specs.Visible.{IsVisible, IsOtherWriterIn, IsNewerCommitIn}
use Rattle.visibility.specs.Seeing.{Touches}
use Rattle.hot_chain.specs.Chain.{is_root_in}
use Rattle.prune.specs.Pruning.{IsPruned}
use Rattle.prune.specs.Thinning.{IsThinned}
use Rattle.tuple_writes.specs.Writes.{with_replaced, with_root, with_updated}
use Rattle.tuple_writes.specs.Keeps.{IsDeletable}
use Rattle.tuple_writes.specs.Laws.{DeletedWhatWasMade, AloneDeletedTheirs}
use Rattle.index_entries.specs.declared.entry.Entry.{Entry}
use Rattle.index_entries.specs.Sets.{AddsEntry, Loses}
use Rattle.root_index.specs.Rows.{entry_for}
use Rattle.index_lookup.specs.Pages.{slots_on, slot_in, version_in, Puts}
use Rattle.index_lookup.specs.Looking.{FirstFound, FirstPlace, SomeOf}
use Rattle.sound_entries.specs.Entries.{SomeEntry, IsExcused, SoundEntries, EntriesAreSound, StaysSound, KeepsTargets}
use Rattle.sound_entries.specs.Leading.{IsUndone, SeesNoExcused, HasOneEntry, IsOnHeap, IsByIndex, SomeOnHeap}
use Rattle.sound_entries.specs.Since.{IsExactSince, MayScanSince}
use Rattle.tuple_header.specs.declared.version.TheConstants.{MOST_SLOTS}

-- What is found.

-- a version that is neither undone nor excused is in the chain of exactly one entry, which has its value and its key
abbrev pub LedByEntry : Type 0
LedByEntry = (value_of : Row → ℤ) (since : Option ℕ) (w : Window) (pages : List (List Slot)) (entries : List Entry) (p : Tid) (t : Version) → EntriesAreSound value_of since w pages entries
    → version_in pages p ≡ Some t → ¬ IsUndone w t.header → ¬ IsExcused w since t → HasOneEntry w pages entries p (value_of t.row) t.row.key

-- in an index that always was exact each root and redirect has an entry
abbrev pub EachRootHasEntry : Type 0
EachRootHasEntry = (value_of : Row → ℤ) (w : Window) (pages : List (List Slot)) (entries : List Entry) (p : Tid) → EntriesAreSound value_of None w pages entries
    → is_root_in (slot_in pages p) ≡ true → SomeEntry entries p

-- a reader whose own ids are in progress, and who sees no excused version, finds the same by the index as on the heap
abbrev pub FoundByIndex : Type 0
FoundByIndex = (value_of : Row → ℤ) (since : Option ℕ) (w : Window) (pages : List (List Slot)) (entries : List Entry) (s : Snap) (own : List ℕ) → EntriesAreSound value_of since w pages entries
    → ((x : ℕ) → Contains own x → IsActive w x) → SeesNoExcused w since s own → (value : ℤ) (key : ℕ) (p : Tid) (t : Version)
    → IsOnHeap value_of pages value key (λ t. IsVisible w s own t.header) p t ↔ IsByIndex w pages entries value key (λ t. IsVisible w s own t.header) p t

-- by an index that always was exact the same is found of what an id made or deleted, that is committed or in progress
abbrev pub TouchedByIndex : Type 0
TouchedByIndex = (value_of : Row → ℤ) (w : Window) (pages : List (List Slot)) (entries : List Entry) (x : ℕ) → EntriesAreSound value_of None w pages entries
    → ¬ IsAborted w x → (value : ℤ) (key : ℕ) (p : Tid) (t : Version)
    → IsOnHeap value_of pages value key (λ t. Touches x t.header) p t ↔ IsByIndex w pages entries value key (λ t. Touches x t.header) p t

-- Where the entries are sound and no excused version is seen, what is found is what stands on the heap. It is a row of a version
-- there that is seen, where there is one.
abbrev pub FoundIsOnHeap : Type 0
FoundIsOnHeap = (value_of : Row → ℤ) (since : Option ℕ) (w : Window) (pages : List (List Slot)) (entries : List Entry) (s : Snap) (own : List ℕ) → EntriesAreSound value_of since w pages entries
    → ((x : ℕ) → Contains own x → IsActive w x) → SeesNoExcused w since s own → (value : ℤ) (key : ℕ) (answer : Option Row) → FirstFound w (IsVisible w s own) pages entries value key answer
    → MatchOption answer
    ((p : Tid) (t : Version) → ¬ IsOnHeap value_of pages value key (λ t. IsVisible w s own t.header) p t)
    (λ row. (p : Tid) × (t : Version) × IsOnHeap value_of pages value key (λ t. IsVisible w s own t.header) p t × (row ≡ t.row))

-- Where at most one version of the value and the key is seen, its row is found.
abbrev pub TheRowIsFound : Type 0
TheRowIsFound = (value_of : Row → ℤ) (since : Option ℕ) (w : Window) (pages : List (List Slot)) (entries : List Entry) (s : Snap) (own : List ℕ) → EntriesAreSound value_of since w pages entries
    → ((x : ℕ) → Contains own x → IsActive w x) → SeesNoExcused w since s own → (value : ℤ) (key : ℕ)
    → ((p q : Tid) (t u : Version) → IsOnHeap value_of pages value key (λ t. IsVisible w s own t.header) p t → IsOnHeap value_of pages value key (λ t. IsVisible w s own t.header) q u → p ≡ q)
    → (answer : Option Row) → FirstFound w (IsVisible w s own) pages entries value key answer
    → (p : Tid) (t : Version) → IsOnHeap value_of pages value key (λ t. IsVisible w s own t.header) p t → answer ≡ Some t.row

-- Where the entries are sound and no excused version is seen, this is the place of a version on the heap that is seen, where there is one.
abbrev pub PlaceIsOnHeap : Type 0
PlaceIsOnHeap = (value_of : Row → ℤ) (since : Option ℕ) (w : Window) (pages : List (List Slot)) (entries : List Entry) (s : Snap) (own : List ℕ) → EntriesAreSound value_of since w pages entries
    → ((x : ℕ) → Contains own x → IsActive w x) → SeesNoExcused w since s own → (value : ℤ) (key : ℕ) (answer : Option Tid) → FirstPlace w (IsVisible w s own) pages entries value key answer
    → MatchOption answer
    ((p : Tid) (t : Version) → ¬ IsOnHeap value_of pages value key (λ t. IsVisible w s own t.header) p t)
    (λ p. (t : Version) × IsOnHeap value_of pages value key (λ t. IsVisible w s own t.header) p t)

-- Where the entries are sound and the index always was exact, such ids are those of versions on the heap.
abbrev pub NewerCommitIsOnHeap : Type 0
NewerCommitIsOnHeap = (value_of : Row → ℤ) (w : Window) (pages : List (List Slot)) (entries : List Entry) (s : Snap) (x : ℕ) → EntriesAreSound value_of None w pages entries
    → (value : ℤ) (key : ℕ) → SomeOf w (IsNewerCommitIn w s x) pages entries value key ↔ SomeOnHeap value_of pages value key (IsNewerCommitIn w s x)

abbrev pub OtherWriterIsOnHeap : Type 0
OtherWriterIsOnHeap = (value_of : Row → ℤ) (w : Window) (pages : List (List Slot)) (entries : List Entry) (own : List ℕ) (x : ℕ) → EntriesAreSound value_of None w pages entries
    → (value : ℤ) (key : ℕ) → SomeOf w (IsOtherWriterIn w own x) pages entries value key ↔ SomeOnHeap value_of pages value key (IsOtherWriterIn w own x)

-- An index that is exact from an id on.

-- who may scan it sees no version that it leaves out
abbrev pub WhoMayScanSeesNoExcused : Type 0
WhoMayScanSeesNoExcused = (w : Window) (since : Option ℕ) (s : Snap) (own : List ℕ) → IsWindow w → IsInWindow w s → IsExactSince w since → MayScanSince w since s
    → ((x : ℕ) → Contains own x → IsActive w x) → SeesNoExcused w since s own

-- a snapshot that is taken now may scan it, be it one of who is open or of nobody
abbrev pub WhoBeginsMayScan : Type 0
WhoBeginsMayScan = (w : Window) (since : Option ℕ) (owns : List (List ℕ)) → IsWindow w → AreOpen w owns → IsExactSince w since
    → MayScanSince w since (taken (next_id w) owns) × MayScanSince w since (empty_at (next_id w))

-- it stays so when an id is given,
abbrev pub GivingKeepsSince : Type 0
GivingKeepsSince = (w v : Window) (parent : Option ℕ) (since : Option ℕ) → IsWindow w → IsWindow v → Gives w v parent → IsExactSince w since → IsExactSince v since

-- and when ids end
abbrev pub FinishingKeepsSince : Type 0
FinishingKeepsSince = (w v : Window) (ids : List ℕ) (status : Status) (since : Option ℕ) → status ≢ InProgress → Finishes w v ids status
    → IsExactSince w since → IsExactSince v since

-- What steps keep.

-- a table without pages is sound, with an index without entries
abbrev pub NoEntriesAreSound : Type 0
NoEntriesAreSound = (value_of : Row → ℤ) (since : Option ℕ) (w : Window) → EntriesAreSound value_of since w [] []

-- an id in progress adds a root, with an entry of its own
abbrev pub AddingKeepsEntries : Type 0
AddingKeepsEntries = (value_of : Row → ℤ) (since : Option ℕ) (w : Window) (x n : ℕ) (pages pages' : List (List Slot)) (entries entries' : List Entry) (updated : Bool) (row : Row)
    → EntriesAreSound value_of since w pages entries → IsActive w x → free_number (slots_on pages n) ≤ MOST_SLOTS
    → Puts pages pages' n (with_root (slots_on pages n) updated x n row) → AddsEntry entries entries' (entry_for value_of row n (free_number (slots_on pages n)))
    → StaysSound value_of since w pages pages' entries entries'

-- an id in progress takes a version away
abbrev pub TakingKeepsEntries : Type 0
TakingKeepsEntries = (value_of : Row → ℤ) (since : Option ℕ) (w : Window) (n k x page place : ℕ) (pages pages' : List (List Slot)) (entries : List Entry)
    → EntriesAreSound value_of since w pages entries → IsActive w x → IsDeletable w (slots_on pages n) k
    → Puts pages pages' n (with_replaced (slots_on pages n) k x page place false)
    → StaysSound value_of since w pages pages' entries entries

-- an id in progress replaces a version by a heap-only one of the same value and key
abbrev pub UpdatingKeepsEntries : Type 0
UpdatingKeepsEntries = (value_of : Row → ℤ) (since : Option ℕ) (w : Window) (n k x page : ℕ) (pages pages' : List (List Slot)) (entries : List Entry) (row : Row) (old : Version)
    → EntriesAreSound value_of since w pages entries → IsActive w x → IsDeletable w (slots_on pages n) k → free_number (slots_on pages n) ≤ MOST_SLOTS
    → version_in pages (record { page = n; slot = k }) ≡ Some old → value_of row ≡ value_of old.row → row.key ≡ old.row.key
    → Puts pages pages' n (with_updated (slots_on pages n) k x page row)
    → StaysSound value_of since w pages pages' entries entries

-- a page is pruned
abbrev pub PruningKeepsEntries : Type 0
PruningKeepsEntries = (value_of : Row → ℤ) (since : Option ℕ) (w : Window) (horizon n : ℕ) (pages pages' : List (List Slot)) (entries : List Entry) (after : List Slot)
    → EntriesAreSound value_of since w pages entries → IsPruned w horizon (slots_on pages n) after → Puts pages pages' n after
    → StaysSound value_of since w pages pages' entries entries

-- or by a part of that, as by any plan that checks
abbrev pub ThinningKeepsEntries : Type 0
ThinningKeepsEntries = (value_of : Row → ℤ) (since : Option ℕ) (w : Window) (horizon n : ℕ) (pages pages' : List (List Slot)) (entries : List Entry) (after : List Slot)
    → EntriesAreSound value_of since w pages entries → IsThinned w horizon (slots_on pages n) after → Puts pages pages' n after
    → StaysSound value_of since w pages pages' entries entries

-- a page without slots comes into use
abbrev pub PagesGrowSound : Type 0
PagesGrowSound = (value_of : Row → ℤ) (since : Option ℕ) (w : Window) (n : ℕ) (pages pages' : List (List Slot)) (entries : List Entry)
    → EntriesAreSound value_of since w pages entries → Puts pages pages' n (slots_on pages n) → StaysSound value_of since w pages pages' entries entries

-- entries that lead to dead slots go, all of them or some
abbrev pub EntriesGoSound : Type 0
EntriesGoSound = (value_of : Row → ℤ) (since : Option ℕ) (w : Window) (pages : List (List Slot)) (entries entries' : List Entry) (dead : List Tid)
    → EntriesAreSound value_of since w pages entries → Loses entries entries' dead → ((p : Tid) → Contains dead p → slot_in pages p ≡ Some Dead)
    → StaysSound value_of since w pages pages entries entries'

-- What becomes of transactions keeps it too.

abbrev pub GivingKeepsEntries : Type 0
GivingKeepsEntries = (value_of : Row → ℤ) (since : Option ℕ) (w v : Window) (parent : Option ℕ) (pages : List (List Slot)) (entries : List Entry)
    → EntriesAreSound value_of since w pages entries → IsWindow w → IsWindow v → Gives w v parent → StaysSound value_of since v pages pages entries entries

abbrev pub CommittingKeepsEntries : Type 0
CommittingKeepsEntries = (value_of : Row → ℤ) (since : Option ℕ) (w v : Window) (ids : List ℕ) (pages : List (List Slot)) (entries : List Entry)
    → EntriesAreSound value_of since w pages entries → ((x : ℕ) → Contains ids x → IsActive w x) → Finishes w v ids Committed
    → ((n : ℕ) → DeletedWhatWasMade w (slots_on pages n) ids) → StaysSound value_of since v pages pages entries entries

abbrev pub AbortingKeepsEntries : Type 0
AbortingKeepsEntries = (value_of : Row → ℤ) (since : Option ℕ) (w v : Window) (ids : List ℕ) (pages : List (List Slot)) (entries : List Entry)
    → EntriesAreSound value_of since w pages entries → ((x : ℕ) → Contains ids x → IsActive w x) → Finishes w v ids Aborted
    → ((n : ℕ) → AloneDeletedTheirs w (slots_on pages n) ids) → StaysSound value_of since v pages pages entries entries

-- The law of each step holds of two steps, one after the other, where entries only come.
abbrev pub LedByTwoSteps : Type 0
LedByTwoSteps = (value_of : Row → ℤ) (since : Option ℕ) (w : Window) (a b c : List (List Slot)) (xs ys zs : List Entry) → SoundEntries value_of since w a xs
    → ((e : Entry) → Contains xs e → Contains ys e) → KeepsTargets a b xs ys → KeepsTargets b c ys zs → KeepsTargets a c xs zs
