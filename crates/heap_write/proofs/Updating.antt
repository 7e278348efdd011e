-- An update that prunes first, put together.
use Rattle.std.proofs.Common.{◌≡◌, ◌⊎◌, ℕ, ◌<◌, ◌≤◌, Bool, inl, inr, List, Option, Some, None, Result, Ok, Err, sym, ap, subst, refl, ◌∙◌, arith}
use Rattle.std.specs.Prelude.{IfErr, IfOk, IfSome, IsFalse, IsTrue, OnErr, ◌↔◌}
use Rattle.std.proofs.lemmas.Bool.{true≢false}
use Rattle.xid_circle.specs.declared.Xid.{Xid}
use Rattle.xid_circle.specs.declared.Tid.{Tid}
use Rattle.tuple_header.specs.declared.version.Row.{Row}
use Rattle.tuple_header.specs.Version.{rounded_size_of}
use Rattle.page_slots.specs.View.{PageView}
use Rattle.page_sheet.specs.Slots.{room_of}
use Rattle.heap_pages.specs.Choice.{HasRoom}
use Rattle.commit_status.specs.Window.{Window, IsWindow}
use Rattle.snapshot.specs.Own.{Own, unassigned_levels}
use Rattle.heap_write.specs.declared.heap.WriteFault.{WriteFault}
use Rattle.heap_write.specs.declared.heap.WriteFault.TheVariants.{NeedsFreeze as needs_freeze, NoRoom, NoMemory}
use Rattle.heap_write.specs.Heap.{HeapView, page_on, Keeps}
use Rattle.heap_write.specs.Writes.{TableIsFull, KeepsValues, PrunesIfFull, UpdatesOnPage, Replaces}
use Rattle.write_ids.specs.Ids.{NeedsFreeze, TakesIds, SameOwn}
use Rattle.heap_write.specs.Writes.PrunesIfFull.{has_room}
use Rattle.heap_write.specs.Writes.Replaces.{on_page}
use Rattle.table_indexes.specs.Indexes.{NeedsEntry}
use Rattle.heap_write.specs.Growth.{page_in}
use Rattle.heap_write.specs.Refusals.{NeedsIds, VersionIsThere, UpdateNeedsMemory, FailsUpdate, AnswersUpdate}
use Rattle.heap_write.specs.Steps.{IsReplaceable, IsDoneUnder}
use Rattle.heap_write.proofs.PageLemmas.{keeps-all}
use Rattle.write_ids.proofs.IdLemmas.{takes-grown}

pub some-weaker : {A : Type 0} (o : Option A) (P Q : A → Type 0) → ((a : A) → P a → Q a) → IfSome o P → IfSome o Q
some-weaker (Some a) P Q f h = f a h
some-weaker None P Q f h = h

pub no-room : (size room : ℕ) → room < size → ¬ (size ≤ room)
no-room size room small large = let no : 1 ≤ 0 = omega (arith, small, large) in omega (arith, no)

-- A page that is kept has the slots that it had.

pub kept-slots : (h h1 : HeapView) (n : ℕ) → Keeps h h1 → (page_on h1 n).slots ≡ (page_on h n).slots
kept-slots h h1 n keeps =
    ap (λ (pages : List PageView). (page_in pages n).slots) keeps.pages

pub kept-full : (h h1 : HeapView) (n size : ℕ) → Keeps h h1 → room_of (page_on h n).slots < size → ¬ HasRoom size (page_on h1 n)
kept-full h h1 n size keeps full = no-room size (room_of (page_on h1 n).slots) (subst (λ slots. room_of slots < size) (sym (kept-slots h h1 n keeps)) full)

-- An update that is refused before anything changes.

pub answers-freeze : (h : HeapView) (own : Own) (place : Tid) (row : Row) (horizon : ℕ) → NeedsFreeze h.statuses own → IsWindow h.statuses
    → AnswersUpdate h h own own place row horizon (Err needs_freeze)
answers-freeze h own place row horizon needs window = record { ok = tt; fault = (needs, keeps-all h); same_own = record { ids = refl; saved = refl }; window = window }

pub answers-memory : (h h' : HeapView) (own own' : Own) (place : Tid) (row : Row) (horizon : ℕ) → ¬ NeedsFreeze h.statuses own → UpdateNeedsMemory h own place row horizon → Keeps h h'
    → SameOwn own own' → IsWindow h'.statuses → AnswersUpdate h h' own own' place row horizon (Err NoMemory)
answers-memory h h' own own' place row horizon free needs keeps same window = record { ok = tt; fault = (free, needs, keeps); same_own = same; window = window }

-- The update of a version whose page has room.

pub answers-here : {h grown h' : HeapView} {own grown_own own' : Own} {place : Tid} {row : Row} (horizon : ℕ) (x : Xid) → IsReplaceable h own place
    → rounded_size_of row ≤ room_of (page_on h place.page).slots → Keeps h grown → SameOwn own grown_own → (unassigned_levels own.ids own.saved ≡ 0 → grown.statuses ≡ h.statuses)
    → IsDoneUnder grown h' grown_own own' x.0 → UpdatesOnPage h h' place x.0 row → AnswersUpdate h h' own own' place row horizon (Ok x)
answers-here {h = h} {grown = grown} {h' = h'} {own = own} {grown_own = grown_own} {own' = own'} horizon x may room keeps same none under replaces = record {
  ok = (
    record {
      free = may.free;
      takes_ids = takes-grown h.statuses grown.statuses h'.statuses own grown_own own' x.0 keeps.statuses same none under.takes;
      ready = h;
      readies = has_room room refl;
      there = may.there;
      replaces = on_page room replaces;
      max_pages = under.max_pages ∙ keeps.max_pages;
    },
    under.normal,
  );
  fault = tt;
  same_own = tt;
  window = under.window;
}

-- The update after the page was made ready.

pub answers-done : (h grown ready h' : HeapView) (own grown_own own' : Own) (place : Tid) (row : Row) (horizon : ℕ) (x : Xid) → ¬ NeedsFreeze h.statuses own
    → PrunesIfFull h ready place horizon (rounded_size_of row) → ready.statuses ≡ grown.statuses → ready.max_pages ≡ grown.max_pages
    → Keeps h grown → SameOwn own grown_own → (unassigned_levels own.ids own.saved ≡ 0 → grown.statuses ≡ h.statuses)
    → VersionIsThere ready place → IsDoneUnder ready h' grown_own own' x.0 → Replaces ready h' place x.0 row → AnswersUpdate h h' own own' place row horizon (Ok x)
answers-done h grown ready h' own grown_own own' place row horizon x free readies ids limit keeps same none there under replaces = record {
  ok = (
    record {
      free = free;
      takes_ids = takes-grown h.statuses grown.statuses h'.statuses own grown_own own' x.0 keeps.statuses same none (subst (λ (w : Window). TakesIds w h'.statuses grown_own own' x.0) ids under.takes);
      ready = ready;
      readies = readies;
      there = there;
      replaces = replaces;
      max_pages = under.max_pages ∙ limit ∙ keeps.max_pages;
    },
    under.normal,
  );
  fault = tt;
  same_own = tt;
  window = under.window;
}

-- The same where a new root goes, if that is anywhere.
pub answers-elsewhere : (h grown ready h' : HeapView) (own grown_own own' : Own) (place : Tid) (row : Row) (horizon : ℕ) (r : Result Xid WriteFault) → ¬ NeedsFreeze h.statuses own
    → PrunesIfFull h ready place horizon (rounded_size_of row) → ready.statuses ≡ grown.statuses → ready.max_pages ≡ grown.max_pages
    → Keeps h grown → SameOwn own grown_own → (unassigned_levels own.ids own.saved ≡ 0 → grown.statuses ≡ h.statuses)
    → VersionIsThere ready place → IfOk r (λ x. IsDoneUnder ready h' grown_own own' x.0) → IfOk r (λ x. Replaces ready h' place x.0 row)
    → IfErr r (λ fault. (fault ≡ NoRoom) × TableIsFull ready (rounded_size_of row)) → OnErr r ((h' ≡ ready) × SameOwn grown_own own') → IsWindow h'.statuses
    → AnswersUpdate h h' own own' place row horizon r
answers-elsewhere h grown ready h' own grown_own own' place row horizon (Ok x) free readies ids limit keeps same none there under replaces fault err window =
    answers-done h grown ready h' own grown_own own' place row horizon x free readies ids limit keeps same none there under replaces
answers-elsewhere h grown ready h' own grown_own own' place row horizon (Err f) free readies ids limit keeps same none there under replaces fault err window = record {
  ok = tt;
  fault = subst (λ f. FailsUpdate h h' own place row horizon f) (sym fault.0) (record {
    free = free;
    ready = ready;
    readies = readies;
    there = there;
    full = fault.1;
    keeps = subst (λ v. Keeps ready v) (sym err.0) (keeps-all ready);
  });
  same_own = record { ids = err.1.ids ∙ same.ids; saved = err.1.saved ∙ same.saved };
  window = window;
}

-- what memory an update on the page asked for
pub on_page-needs : (h ready : HeapView) (own : Own) (place : Tid) (row : Row) (horizon : ℕ) (heap_only : Bool)
    → PrunesIfFull h ready place horizon (rounded_size_of row) → rounded_size_of row ≤ room_of (page_on ready place.page).slots → (IsTrue heap_only ↔ KeepsValues h place row)
    → NeedsIds h own ⊎ IsFalse heap_only × NeedsEntry h.indexes row → UpdateNeedsMemory h own place row horizon
on_page-needs h ready own place row horizon heap_only readies room says (inl ids) = UpdateNeedsMemory.for_ids ids
on_page-needs h ready own place row horizon heap_only readies room says (inr entry) =
    UpdateNeedsMemory.for_entry ready readies room (λ keeps. true≢false (sym (says.1 keeps) ∙ entry.0)) entry.1
