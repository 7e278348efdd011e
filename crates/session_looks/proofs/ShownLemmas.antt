-- What is shown to a reader is shown to the session.
use Rattle.std.proofs.Common.{◌≡◌, ℕ, List, [], Option, Some, None, arith, sym, ap, subst, slice_get}
use Rattle.std.specs.Option.{unwrap_or}
use Rattle.xid_circle.specs.declared.Tid.{Tid}
use Rattle.xid_circle.proofs.Members.{Contains-none}
use Rattle.page_sheet.specs.declared.slot.Slot.{Slot}
use Rattle.page_slots.specs.View.{PageView}
use Rattle.snapshot.specs.Snap.{Snap}
use Rattle.snapshot.specs.Own.{Own}
use Rattle.commit_status.specs.Window.{Window}
use Rattle.hot_chain.specs.Chain.{has_aborted}
use Rattle.index_lookup.specs.Pages.{slots_on}
use Rattle.index_lookup.proofs.PageLists.{slots-there, slots-none}
use Rattle.root_index.specs.View.{IndexView}
use Rattle.table_indexes.specs.Indexes.{IndexesView, index_at, entries_of, entries_in}
use Rattle.visibility.specs.declared.reader.Reader.{Reader}
use Rattle.heap_write.specs.Heap.{slots_of}
use Rattle.prune.specs.declared.action.PrunePlan.{PrunePlan}
use Rattle.prune.specs.Pruning.{IsPlan}
use Rattle.slot_fates.specs.declared.fate.SlotFate.{SlotFate}
use Rattle.slot_fates.specs.Fates.{IsFate}
use Rattle.explanations.specs.declared.versions.ShownVersion.{ShownVersion}
use Rattle.explanations.specs.Shown.{IsNextPlace, IsShownAlong, IsShownOn}
use Rattle.explanations.proofs.ChainLemmas.{chain-nowhere}
use Rattle.sessions.specs.declared.session.Session.{Session}
use Rattle.session_steps.specs.State.{State, horizon_of}
use Rattle.sessions.specs.Session.{statement_snapshot}
use Rattle.session_steps.specs.Takes.{ReadsBy}
use Rattle.session_looks.specs.Explaining.{IsExplained, IsPlanNow}

-- of the entries of the index by key

pub next-in : (indexes : IndexesView) (index : IndexView) (key : ℕ) (after answer : Option Tid) → index_at indexes 0 ≡ Some index
    → IsNextPlace index.entries key after answer → IsNextPlace (entries_in indexes 0) key after answer
next-in indexes index key after answer at next = subst (λ (o : Option IndexView). IsNextPlace (unwrap_or (entries_of o) []) key after answer) (sym at) next

pub next-nowhere : (indexes : IndexesView) (key : ℕ) (after : Option Tid) → index_at indexes 0 ≡ None → IsNextPlace (entries_in indexes 0) key after None
next-nowhere indexes key after at =
    subst (λ (o : Option IndexView). IsNextPlace (unwrap_or (entries_of o) []) key after None) (sym at) (λ e among. absurd (Contains-none e among))

-- of the chain of a place

pub shown-there : (st : State) (e : Session) (r : Reader) (page : PageView) (place : Tid) (n : ℕ) (answer : Option ShownVersion) → ReadsBy st e (statement_snapshot st.heap.statuses e.isolation) r
    → slice_get st.heap.pages.pages place.page ≡ Some page → IsShownOn r page.slots place.slot n answer → IsExplained st e place n answer
shown-there st e r page place n answer reads at shown =
    let slots = slots-there st.heap.pages.pages place.page page at in
    subst (λ (s : List Slot). IsShownAlong st.heap.statuses (statement_snapshot st.heap.statuses e.isolation) e.own.ids s place.slot n answer) (sym slots)
    (subst (λ (own : Own). IsShownAlong st.heap.statuses (statement_snapshot st.heap.statuses e.isolation) own.ids page.slots place.slot n answer) reads.own
    (subst (λ (s : Snap). IsShownAlong st.heap.statuses s r.own.now.ids page.slots place.slot n answer) reads.snapshot
    (subst (λ (w : Window). IsShownAlong w r.snapshot.now r.own.now.ids page.slots place.slot n answer) reads.statuses shown)))

pub shown-nowhere : (st : State) (e : Session) (place : Tid) (n : ℕ) → slice_get st.heap.pages.pages place.page ≡ None → IsExplained st e place n None
shown-nowhere st e place n at =
    subst (λ (s : List Slot). IsShownAlong st.heap.statuses (statement_snapshot st.heap.statuses e.isolation) e.own.ids s place.slot n None) (sym (slots-none st.heap.pages.pages place.page at))
    (record { chain = []; is_chain = chain-nowhere (has_aborted st.heap.statuses) place.slot; shown = omega arith })

-- of a page, at the horizon

pub fate-there : (st : State) (w : Window) (horizon number slot : ℕ) (page : PageView) (fate : SlotFate) → w ≡ st.heap.statuses → horizon ≡ horizon_of st
    → slice_get st.heap.pages.pages number ≡ Some page → IsFate w horizon page.slots slot fate
    → IsFate st.heap.statuses (horizon_of st) (slots_on (slots_of st.heap) number) slot fate
fate-there st w horizon number slot page fate same at_horizon at f =
    subst (λ (s : List Slot). IsFate st.heap.statuses (horizon_of st) s slot fate) (sym (slots-there st.heap.pages.pages number page at))
    (subst (λ h. IsFate st.heap.statuses h page.slots slot fate) at_horizon (subst (λ (v : Window). IsFate v horizon page.slots slot fate) same f))

pub plan-there : (st : State) (w : Window) (horizon number : ℕ) (page : PageView) (plan : PrunePlan) → w ≡ st.heap.statuses → horizon ≡ horizon_of st
    → slice_get st.heap.pages.pages number ≡ Some page → plan.change ≡ page.change → IsPlan w horizon page.slots plan.actions.items → IsPlanNow st number plan
plan-there st w horizon number page plan same at_horizon at change exact = record {
  page = page;
  there = at;
  change = change;
  exact = subst (λ h. IsPlan st.heap.statuses h page.slots plan.actions.items) at_horizon (subst (λ (v : Window). IsPlan v horizon page.slots plan.actions.items) same exact);
}
