-- A page is pruned and frozen in one change, nothing dies early on an all-visible one.
use Rattle.std.proofs.Common.{◌≡◌, ℕ, ◌<◌, List, length, set, Some, slice_get, inl, inr, ⊎_elim, refl, sym, ap, subst, ◌∙◌, arith}
use Rattle.std.proofs.lemmas.Option.{slice_get-get_or, slice_get_within}
use Rattle.std.proofs.lemmas.List.{length-set, set-set}
use Rattle.page_slots.specs.View.{PageView}
use Rattle.page_sheet.specs.declared.slot.Slot.{Slot}
use Rattle.commit_status.specs.declared.status.Status.TheVariants.{Committed, Aborted}
use Rattle.commit_status.specs.Window.{Window, IsGiven}
use Rattle.heap_pages.specs.View.{PagesView, with_page}
use Rattle.prune_actions.specs.declared.Action.{Action}
use Rattle.prune.specs.Actions.{applied}
use Rattle.prune.specs.Deaths.{NothingDiesBefore}
use Rattle.freeze.specs.Freezing.{FreezesPage}
use Rattle.freeze.specs.AllVisible.{IsAllVisible}
use Rattle.heap_write.specs.Heap.{HeapView, unused_page}
use Rattle.heap_write.specs.Growth.{page_in}
use Rattle.heap_write.specs.Steps.{IsPlanOn, with_applied}
use Rattle.heap_write.specs.Cleaning.{FreezesAt, FreezesAndNotes, PrunesAndFreezes}
use Rattle.heap_write.proofs.Dying.{nobody-given}
use Rattle.heap_write.proofs.PageLemmas.{page-at, page-set}
use Rattle.heap_write.proofs.Plans.{applied-prunes}

-- the page as a plan leaves it is frozen, though it was put back but once
pub applied-freezes : (h : HeapView) (n cutoff : ℕ) (actions : List (ℕ × Action)) (was after : PageView) (put : PagesView) → slice_get h.pages.pages n ≡ Some was
    → put ≡ with_page h.pages n after → FreezesPage h.statuses cutoff n (applied actions was) after → FreezesAt (with_applied h n actions) (record h { pages = put }) n cutoff
applied-freezes h n cutoff actions was after put at is freezes =
    let pages = h.pages.pages in
    let done = applied actions (page_in pages n) in
    let within : n < length pages = slice_get_within pages n was at in
    let within' : n < length (set pages n done) = (let long = length-set pages n done in omega (arith, within, long)) in record {
      before = applied actions was;
      after = after;
      at = slice_get-get_or (set pages n done) n unused_page within' ∙ ap Some (page-set pages n done within ∙ ap (applied actions) (page-at pages n was at));
      is = ap (λ (p : PagesView). record h { pages = p }) is ∙ ap (λ (ps : List PageView). record h { pages = record h.pages { pages = ps } }) (sym (set-set pages n done after));
      does = freezes;
    }

-- nobody has deleted a version there, and none was rolled back
pub dies-visible : (w : Window) (horizon turn : ℕ) (slots : List Slot) → turn ≡ length w.entries → IsAllVisible w horizon slots → NothingDiesBefore w turn slots
dies-visible w horizon turn slots is visible = record {
  reached = omega (arith, is);
  each = λ n t at.
      let settled = visible.settled n t at in record {
        kept = ⊎_elim (λ frozen. inl frozen) (λ made. inr (λ aborted. let e : Committed ≡ Aborted = sym made.0 ∙ aborted in cc)) settled.made;
        later = λ there. absurd (nobody-given w (subst (IsGiven w) settled.kept there));
      };
}

-- what is noted of it afterwards is not seen
pub visited-says : (h frozen h' : HeapView) (n cutoff horizon : ℕ) (actions : List (ℕ × Action)) (dead : List ℕ) → n < length h.pages.pages → IsPlanOn h n horizon actions
    → FreezesAndNotes (with_applied h n actions) frozen n cutoff horizon dead → h' ≡ frozen → PrunesAndFreezes h h' n cutoff horizon dead
visited-says h frozen h' n cutoff horizon actions dead within plan freezes same = record {
  pruned = with_applied h n actions;
  prunes = applied-prunes h (with_applied h n actions) n horizon actions within plan refl;
  freezes = subst (λ (v : HeapView). FreezesAndNotes (with_applied h n actions) v n cutoff horizon dead) (sym same) freezes;
}
