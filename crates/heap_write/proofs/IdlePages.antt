-- A page with no dead version: pruning leaves it as it is.
use Rattle.std.proofs.Common.{◌≡◌, ◌≤◌, ℕ, List, length, Some, slice_get, sym, subst, ◌∙◌}
use Rattle.xid_circle.specs.declared.Tid.{Tid}
use Rattle.tuple_header.specs.declared.version.Header.{Header}
use Rattle.page_slots.specs.View.{PageView}
use Rattle.page_sheet.specs.declared.slot.Slot.{Slot}
use Rattle.page_sheet.specs.Slots.{IsNormalAt}
use Rattle.commit_status.specs.Window.{Window}
use Rattle.visibility.specs.Visible.{IsDead}
use Rattle.sound_page.specs.Dead.{HasDead}
use Rattle.heap_write.specs.Heap.{HeapView, Keeps}
use Rattle.write_ids.specs.Ids.{SameIds}
use Rattle.heap_write.specs.Refusals.{VersionIsThere}
use Rattle.heap_write.specs.Steps.{HasNoneDead}
use Rattle.heap_write.proofs.PageLemmas.{page-at}
use Rattle.write_ids.proofs.IdLemmas.{same-status}
use Rattle.heap_write.proofs.Updating.{kept-slots}

pub dead-back : (w v : Window) (horizon : ℕ) (h : Header) → SameIds w v → IsDead v horizon h → IsDead w horizon h
dead-back w v horizon h same (IsDead.never_was thawed aborted) = IsDead.never_was thawed (sym (same-status w v h.xmin.0 same) ∙ aborted)
dead-back w v horizon h same (IsDead.is_past done before) = IsDead.is_past (sym (same-status w v h.xmax.0 same) ∙ done) before

pub kept-there : (h h1 : HeapView) (place : Tid) → Keeps h h1 → VersionIsThere h place → VersionIsThere h1 place
kept-there h h1 place keeps there = subst (λ (l : List Slot). IsNormalAt l place.slot) (sym (kept-slots h h1 place.page keeps)) there

-- the page that was looked at has none
pub idle-at : (h : HeapView) (n horizon : ℕ) (page : PageView) → slice_get h.pages.pages n ≡ Some page → length page.slots ≤ 291 → ¬ HasDead h.statuses horizon page.slots
    → HasNoneDead h n horizon
idle-at h n horizon page at few none =
    let is = sym (page-at h.pages.pages n page at) in
    record {
      few = subst (λ (p : PageView). length p.slots ≤ 291) is few;
      none = subst (λ (p : PageView). ¬ HasDead h.statuses horizon p.slots) is none;
    }
