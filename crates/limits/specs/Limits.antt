-- The limits of the product: how much each constant is that a contract names.
use Rattle.std.specs.Prelude.{◌≡◌, true, false, [], replicate}
use Rattle.tuple_header.specs.declared.version.TheConstants.{COLUMNS, MOST_BODY, MOST_SLOTS}
use Rattle.dead_places.specs.declared.dead_set.TheConstants.{MOST_PLACES}
use Rattle.page_sheet.specs.Slots.{room_of}
use Rattle.root_index.specs.View.{free_places}
use Rattle.heap_pages.specs.declared.pages.TheConstants.{MOST_PAGES}
use Rattle.entry_columns.specs.declared.short_tid.TheConstants.{PAGES}
use Rattle.status_cache.specs.declared.cache.TheConstants.{MOST_STATUSES}
use Rattle.snapshot.specs.declared.own.TheConstants.{MOST_SAVEPOINTS}
use Rattle.snapshot.specs.Snap.{are_many}
use Rattle.calls.specs.declared.reply.Refusal.TheVariants as refusal
use Rattle.calls.specs.Bars.{BarsOpen}
use Rattle.session_steps.specs.State.{State, engine_sessions}
use Rattle.script_text.specs.declared.line.TheConstants.{MOST_LINE_BYTES}

pub record LimitsAre : Type 0 where
  pub slots_of_a_page : MOST_SLOTS ≡ 291
  -- of a row
  pub columns : COLUMNS ≡ 4
  -- of a row, in bytes
  pub body : MOST_BODY ≡ 1024
  -- in an empty page: 8168 bytes without the pointer of a first slot
  pub bytes_of_a_page : room_of [] ≡ 8164
  pub pages : MOST_PAGES ≡ 65536
  -- to which an entry can lead
  pub pages_of_entries : PAGES ≡ 65536
  -- an empty index with nodes set aside takes as many entries as a leaf has
  pub entries_of_a_leaf : free_places 0 1 ≡ 128
  pub savepoints : MOST_SAVEPOINTS ≡ 32
  -- that a vacuum collects before it goes through the indexes
  pub dead_slots : MOST_PLACES ≡ 4096
  -- of the ids that were asked for last
  pub held_statuses : MOST_STATUSES ≡ 1024
  -- of a transaction's child ids in a snapshot
  pub listed : are_many (replicate 64 3) ≡ false
  pub not_listed : are_many (replicate 65 3) ≡ true
  -- session 64 is none, and session 63 is one
  pub no_session : (st : State) → BarsOpen (engine_sessions st) 64 refusal.NoSuchSession
  pub last_session : (st : State) → ¬ BarsOpen (engine_sessions st) 63 refusal.NoSuchSession
  -- of a line of a script, in bytes
  pub line : MOST_LINE_BYTES ≡ 4096
