-- The fate of a version foresees what a pruning of its page does.
use Rattle.std.proofs.Common.{◌≡◌, ℕ, true, List, Some, None, sym, ap, ◌∙◌, subst}
use Rattle.std.specs.Prelude.{◌↔◌}
use Rattle.std.proofs.lemmas.Option.{slice_get_within}
use Rattle.page_sheet.specs.declared.slot.Slot.{Slot}
use Rattle.page_sheet.specs.Slots.{version_at}
use Rattle.index_lookup.specs.Pages.{slots_on}
use Rattle.index_lookup.proofs.PageLists.{slots-there, puts-with_page}
use Rattle.sound_page.specs.Sound.{SoundPage}
use Rattle.heap_write.specs.Heap.{HeapView, slots_of}
use Rattle.slot_fates.specs.Fates.{IsVersionFate, goes}
use Rattle.slot_fates.proofs.FateLemmas.{fates-decide}
use Rattle.heap_write.proofs.Plans.{pruned-page}
use Rattle.session_steps.specs.State.{horizon_of}
use Rattle.session_looks.specs.Explaining.{FatesForeseePruning}

pub fates-foresee-pruning : FatesForeseePruning
fates-foresee-pruning st st' w p n t fate agrees cleans at f =
    let c = cleans.heap in
    let before : slots_on (slots_of st.heap) p ≡ c.before.slots = slots-there st.heap.pages.pages p c.before c.at in
    let within = slice_get_within st.heap.pages.pages p c.before c.at in
    let after : slots_on (slots_of st'.heap) p ≡ c.after.slots =
    ap (λ (h : HeapView). slots_on (slots_of h) p) c.is ∙ (puts-with_page st.heap.pages p c.after within).put in
    subst (λ (slots : List Slot). (version_at slots n ≡ None) ↔ (goes fate ≡ true)) (sym after)
    (fates-decide st.heap.statuses (horizon_of st) c.before.slots c.after.slots n t fate
    (subst (SoundPage st.heap.statuses) before (agrees.sound.table.heap p)) (pruned-page st.heap st'.heap p (horizon_of st) c)
    (subst (λ (slots : List Slot). version_at slots n ≡ Some t) before at)
    (subst (λ (slots : List Slot). IsVersionFate st.heap.statuses (horizon_of st) slots n t.header fate) before f))
