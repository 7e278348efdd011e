-- The plan of a page's pruning: it stays one when there is more memory, and the page is pruned once it is applied.
use Rattle.std.proofs.Common.{◌≡◌, ◌⊎◌, inl, inr, ℕ, ◌<◌, ◌≤◌, ◌&&◌, ◌==◌, not, Bool, true, false, if◌then◌else◌, List, [], ◌∷◌, length, Option, Some, None, slice_get, sym, ap, subst, refl, ◌∙◌, arith}
use Rattle.std.proofs.lemmas.Option.{slice_get-get_or}
use Rattle.std.proofs.lemmas.Bool.{true≢false, eqb-true}
use Rattle.std.specs.Prelude.{IsSome, IsFalse, IsTrue, ◌↔◌}
use Rattle.std.specs.Option.{option_map, option_and_then}
use Rattle.xid_circle.specs.declared.Tid.{Tid}
use Rattle.tuple_header.specs.declared.version.Row.{Row}
use Rattle.tuple_header.specs.Version.{Version, rounded_size_of}
use Rattle.tuple_header.specs.declared.version.Header.{Header}
use Rattle.tuple_header.specs.Marks.{is_frozen, is_heap_only}
use Rattle.page_slots.specs.View.{PageView}
use Rattle.page_sheet.specs.declared.slot.Slot.{Slot}
use Rattle.page_sheet.specs.Slots.{slot_at, version_of, header_at, row_at, version_at, IsNormalAt, with_slot, room_of}
use Rattle.page_sheet.proofs.SlotLemmas.{there-from_normal}
use Rattle.commit_status.specs.Window.{Window}
use Rattle.heap_pages.specs.View.{PagesView}
use Rattle.hot_chain.specs.Chain.{has_aborted}
use Rattle.sound_page.specs.Dead.{IsDeadAt}
use Rattle.prune_actions.specs.declared.Action.{Action}
use Rattle.prune_actions.specs.declared.Action.TheVariants as action
use Rattle.prune.specs.Actions.{CanApply, made_by, acted, action_of, after_action, applied}
use Rattle.prune.specs.Cutting.{IsCutCount, RemovesVersions}
use Rattle.prune.specs.Pruning.{loose_in, IsInChainOf, IsLoose, PrunesSlot, by_root, by_none, IsPlan, IsPruned}
use Rattle.prune.specs.Room.{IsPlanOf}
use Rattle.prune.proofs.Idle.{idle-plan}
use Rattle.prune.proofs.Listing.{applied-slot, applied-flag}
use Rattle.prune.proofs.Planned.{plan-pruned}
use Rattle.prune.proofs.Removing.{pruned-removes}
use Rattle.table_indexes.specs.Indexes.{NeedsEntry}
use Rattle.heap_write.specs.Heap.{HeapView, unused_page, page_on, Keeps}
use Rattle.write_ids.specs.Ids.{SameIds}
use Rattle.snapshot.specs.Own.{Own}
use Rattle.write_ids.proofs.IdLemmas.{same-back}
use Rattle.heap_write.specs.Writes.{KeepsValues, Prunes, PrunesIfFull, WouldGo}
use Rattle.heap_write.specs.Writes.PrunesIfFull.{is_pruned, is_left}
use Rattle.heap_write.specs.Steps.{HasNoneDead, IsChosen, IsPlanOn, IsPlanAround, IsLeftAlone, with_applied}
use Rattle.heap_write.specs.Growth.{IsReserved}
use Rattle.heap_write.specs.Refusals.{NeedsIds, RootNeedsMemory, UpdateNeedsMemory, VersionIsThere}
use Rattle.heap_write.specs.declared.target.Target.{Target}
use Rattle.heap_write.proofs.PageLemmas.{keeps-all, page-at, page-back, page-set, there-within}
use Rattle.heap_write.proofs.IdlePages.{dead-back, kept-there}
use Rattle.heap_write.proofs.Reserving.{chosen-set, ready-set}
use Rattle.heap_write.proofs.Updating.{kept-slots, kept-full, no-room, on_page-needs}

-- More memory for ids changes no plan.

aborted-same : (w v : Window) → SameIds w v → has_aborted v ≡ has_aborted w
aborted-same w v same = rw (same.first, same.entries) refl

dead_at-same : (w v : Window) (horizon : ℕ) (slots : List Slot) (n : ℕ) → SameIds w v → IsDeadAt w horizon slots n → IsDeadAt v horizon slots n
dead_at-same w v horizon slots n same dead = record { version = dead.version; there = dead.there; dead = dead-back v w horizon dead.version.header (same-back w v same) dead.dead }

cut-same : (w v : Window) (horizon : ℕ) (slots : List Slot) (chain : List ℕ) (cut : ℕ) → SameIds w v → IsCutCount w horizon slots chain cut → IsCutCount v horizon slots chain cut
cut-same w v horizon slots chain cut same is = record {
  within = is.within;
  dead = λ some. dead_at-same w v horizon slots _ same (is.dead some);
  none_after = λ j from to dead. is.none_after j from to (dead_at-same v w horizon slots _ (same-back w v same) dead);
}

loose-same : (w v : Window) (o : Option Header) → SameIds w v → loose_in v o ≡ loose_in w o
loose-same w v None same = refl
loose-same w v (Some h) same =
    ap (λ (aborted : ℕ → Bool). if is_heap_only h && (not (is_frozen h) && aborted h.xmin.0) then Some action.Unuse else None) (aborted-same w v same)

does-same : (w v : Window) (horizon : ℕ) (slots : List Slot) (n : ℕ) (answer : Option Action) → SameIds w v → PrunesSlot w horizon slots n answer → PrunesSlot v horizon slots n answer
does-same w v horizon slots n answer same (by_root root chain cut o c e) =
    by_root root chain cut (subst (λ aborted. IsInChainOf aborted slots root chain n) (sym (aborted-same w v same)) o) (cut-same w v horizon slots chain cut same c) e
does-same w v horizon slots n answer same (by_none l e) =
    by_none (subst (λ aborted. IsLoose aborted slots n) (sym (aborted-same w v same)) l) (e ∙ sym (loose-same w v (header_at slots n) same))

plan-same : (w v : Window) (horizon : ℕ) (slots : List Slot) (actions : List (ℕ × Action)) → SameIds w v → IsPlan w horizon slots actions → IsPlan v horizon slots actions
plan-same w v horizon slots actions same plan = record {
  in_order = plan.in_order;
  exact = λ n there. does-same w v horizon slots n _ same (plan.exact n there);
}

pub plan-kept : (h h1 : HeapView) (n horizon : ℕ) (actions : List (ℕ × Action)) → Keeps h h1 → IsPlanOn h n horizon actions → IsPlanOn h1 n horizon actions
plan-kept h h1 n horizon actions keeps plan =
    subst (λ slots. IsPlan h1.statuses horizon slots actions) (sym (kept-slots h h1 n keeps)) (plan-same h.statuses h1.statuses horizon (page_on h n).slots actions keeps.statuses plan)

-- The page is pruned once the plan is applied.

pub applied-prunes : (h h' : HeapView) (n horizon : ℕ) (actions : List (ℕ × Action)) → n < length h.pages.pages → IsPlanOn h n horizon actions → h' ≡ with_applied h n actions
    → Prunes h h' n horizon
applied-prunes h h' n horizon actions within plan is =
    let page = page_on h n in
    record {
      before = page;
      after = applied actions page;
      at = slice_get-get_or h.pages.pages n unused_page within;
      is = is;
      does = record { actions = actions; plan = plan; is = refl };
    }

-- Its slots are what pruning makes of them, what goes from it is cut, and its flag stays.

module _ (h h' : HeapView) (n horizon : ℕ) (p : Prunes h h' n horizon) where
  pub pruned-page : IsPruned h.statuses horizon p.before.slots p.after.slots
  pruned-page = plan-pruned h.statuses horizon p.before p.after p.does

  pub pruned-cut : RemovesVersions h.statuses horizon p.before.slots p.after.slots
  pruned-cut = pruned-removes h.statuses horizon p.before.slots p.after.slots pruned-page

  pub pruned-flag : p.after.flag ≡ p.before.flag
  pruned-flag = ap (λ (q : PageView). q.flag) p.does.is ∙ applied-flag p.does.actions p.before

applied-page : (h h' : HeapView) (n : ℕ) (actions : List (ℕ × Action)) → n < length h.pages.pages → h' ≡ with_applied h n actions → page_on h' n ≡ applied actions (page_on h n)
applied-page h h' n actions within is = ap (λ (v : HeapView). page_on v n) is ∙ page-set h.pages.pages n (applied actions (page_on h n)) within

pub applied-slots : (actions : List (ℕ × Action)) (p q : PageView) → p.slots ≡ q.slots → (applied actions p).slots ≡ (applied actions q).slots
applied-slots [] p q same = same
applied-slots (a ∷ rest) p q same = applied-slots rest (after_action p a.0 a.1) (after_action q a.0 a.1) (ap (λ slots. with_slot slots a.0 (made_by a.1)) same)

-- the page's flag may be cleared before or after
pub applied-unflagged : (actions : List (ℕ × Action)) (p : PageView) → applied actions (record p { flag = false }) ≡ record (applied actions p) { flag = false }
applied-unflagged [] p = refl
applied-unflagged (a ∷ rest) p = applied-unflagged rest (after_action p a.0 a.1)

-- what it holds then was known before there was more memory
pub planned-slots : (h h1 h' : HeapView) (n : ℕ) (actions : List (ℕ × Action)) → n < length h1.pages.pages → Keeps h h1 → h' ≡ with_applied h1 n actions
    → (page_on h' n).slots ≡ (applied actions (page_on h n)).slots
planned-slots h h1 h' n actions within keeps is =
    ap (λ (p : PageView). p.slots) (applied-page h1 h' n actions within is) ∙ applied-slots actions (page_on h1 n) (page_on h n) (kept-slots h h1 n keeps)

-- where a new version goes, and stands ready, where the page has no room for it before and after
pub applied-chosen : (h h1 h' : HeapView) (n size : ℕ) (actions : List (ℕ × Action)) (found : Option Target) → n < length h1.pages.pages → Keeps h h1 → h' ≡ with_applied h1 n actions
    → room_of (page_on h n).slots < size → room_of (applied actions (page_on h n)).slots < size → IsChosen h1 size found → IsChosen h' size found
applied-chosen h h1 h' n size actions found within keeps is full still =
    let after = applied actions (page_on h1 n) in
    let same = applied-slots actions (page_on h1 n) (page_on h n) (kept-slots h h1 n keeps) in
    chosen-set h1 h' size n after found within (ap (λ (v : HeapView). v.pages.pages) is) (ap (λ (v : HeapView). v.max_pages) is) (kept-full h h1 n size keeps full)
    (no-room size (room_of after.slots) (subst (λ slots. room_of slots < size) (sym same) still))

pub applied-ready : (h h1 h' : HeapView) (n size : ℕ) (actions : List (ℕ × Action)) (target : Target) → Keeps h h1 → h' ≡ with_applied h1 n actions
    → room_of (page_on h n).slots < size → IsReserved h1.pages size target → IsReserved h'.pages size target
applied-ready h h1 h' n size actions target keeps is full =
    ready-set h1.pages h'.pages size n (applied actions (page_on h1 n)) target (ap (λ (v : HeapView). v.pages.pages) is) (ap (λ (v : HeapView). v.pages.spare) is) (kept-full h h1 n size keeps full)

-- What memory was needed, where the plan makes room and where not.

planned-readies : (h : HeapView) (place : Tid) (horizon size : ℕ) (actions : List (ℕ × Action)) → place.page < length h.pages.pages → room_of (page_on h place.page).slots < size
    → IsPlanOn h place.page horizon actions → PrunesIfFull h (with_applied h place.page actions) place horizon size
planned-readies h place horizon size actions within full plan =
    is_pruned full h (keeps-all h) (applied-prunes h (with_applied h place.page actions) place.page horizon actions within plan refl)

planned-room : (h : HeapView) (n : ℕ) (actions : List (ℕ × Action)) → n < length h.pages.pages → room_of (page_on (with_applied h n actions) n).slots ≡ room_of (applied actions (page_on h n)).slots
planned-room h n actions within = ap (λ (p : PageView). room_of p.slots) (applied-page h (with_applied h n actions) n actions within refl)

pub stays-needs : (h : HeapView) (own : Own) (place : Tid) (row : Row) (horizon : ℕ) (actions : List (ℕ × Action)) (heap_only : Bool) → VersionIsThere h place
    → room_of (page_on h place.page).slots < rounded_size_of row → IsPlanOn h place.page horizon actions → rounded_size_of row ≤ room_of (applied actions (page_on h place.page)).slots
    → (IsTrue heap_only ↔ KeepsValues h place row) → NeedsIds h own ⊎ IsFalse heap_only × NeedsEntry h.indexes row
    → UpdateNeedsMemory h own place row horizon
stays-needs h own place row horizon actions heap_only there full plan fits says needs =
    let n = place.page in
    let within = there-within h place there in
    on_page-needs h (with_applied h n actions) own place row horizon heap_only (planned-readies h place horizon (rounded_size_of row) actions within full plan)
    (subst (λ room. rounded_size_of row ≤ room) (sym (planned-room h n actions within)) fits) says needs

pub moves-needs : (h : HeapView) (own : Own) (place : Tid) (row : Row) (horizon : ℕ) (actions : List (ℕ × Action)) → VersionIsThere h place
    → room_of (page_on h place.page).slots < rounded_size_of row → IsPlanOn h place.page horizon actions → room_of (applied actions (page_on h place.page)).slots < rounded_size_of row
    → RootNeedsMemory h own row → UpdateNeedsMemory h own place row horizon
moves-needs h own place row horizon actions there full plan still needs =
    let n = place.page in
    let within = there-within h place there in
    UpdateNeedsMemory.for_root (with_applied h n actions) (planned-readies h place horizon (rounded_size_of row) actions within full plan)
    (subst (λ room. room < rounded_size_of row) (sym (planned-room h n actions within)) still) needs

-- What stays on the page.

pruned-by : (w : Window) (horizon : ℕ) (page : PageView) (actions : List (ℕ × Action)) → IsPlan w horizon page.slots actions → IsPruned w horizon page.slots (applied actions page).slots
pruned-by w horizon page actions plan = plan-pruned w horizon page (applied actions page) (record { actions = actions; plan = plan; is = refl })

row-stays : (w : Window) (horizon : ℕ) (slots after : List Slot) (n : ℕ) → RemovesVersions w horizon slots after → IsNormalAt after n → row_at after n ≡ row_at slots n
row-stays w horizon slots after n removes there = by (version_at after n) refl there
  where
    by : (o : Option Version) → version_at after n ≡ o → IsSome o → row_at after n ≡ row_at slots n
    by (Some t) at some = ap (option_map (λ (t : Version). t.row)) (at ∙ sym (removes.kept n t at))
    by None at none = absurd (true≢false (sym none))

pub applied-row : (h h1 h' : HeapView) (place : Tid) (actions : List (ℕ × Action)) → place.page < length h1.pages.pages → Keeps h h1 → IsPlanOf (page_on h place.page).slots actions
    → h' ≡ with_applied h1 place.page actions → VersionIsThere h' place → row_at (page_on h' place.page).slots place.slot ≡ row_at (page_on h place.page).slots place.slot
applied-row h h1 h' place actions within keeps (w, horizon, plan) is there =
    let n = place.page in
    let page = page_on h n in
    let same = planned-slots h h1 h' n actions within keeps is in
    let stays = row-stays w horizon page.slots (applied actions page).slots place.slot (pruned-removes w horizon page.slots (applied actions page).slots (pruned-by w horizon page actions plan)) in
    ap (λ slots. row_at slots place.slot) same ∙ stays (subst (λ slots. IsNormalAt slots place.slot) same there)

-- A plan that names nothing.

nothing-applied : (h : HeapView) (n : ℕ) → n < length h.pages.pages → h ≡ with_applied h n []
nothing-applied h n within =
    sym (ap (λ (pages : PagesView). record h { pages = pages }) (page-back h.pages n (page_on h n) (slice_get-get_or h.pages.pages n unused_page within)))

pub empty-prunes : (h : HeapView) (n horizon : ℕ) → n < length h.pages.pages → IsPlanOn h n horizon [] → Prunes h h n horizon
empty-prunes h n horizon within plan = applied-prunes h h n horizon [] within plan (nothing-applied h n within)

pub kept-prunes : (h h1 : HeapView) (place : Tid) (horizon : ℕ) → Keeps h h1 → VersionIsThere h place → IsPlanOn h place.page horizon [] → Prunes h1 h1 place.page horizon
kept-prunes h h1 place horizon keeps there plan =
    empty-prunes h1 place.page horizon (there-within h1 place (kept-there h h1 place keeps there)) (plan-kept h h1 place.page horizon [] keeps plan)

-- The page is left alone.

pub left-readies : (h h1 : HeapView) (place : Tid) (horizon size : ℕ) → Keeps h h1 → VersionIsThere h place → room_of (page_on h place.page).slots < size → IsLeftAlone h place horizon
    → PrunesIfFull h h1 place horizon size
left-readies h h1 place horizon size keeps there full (inl plan) = is_pruned full h1 keeps (kept-prunes h h1 place horizon keeps there plan)
left-readies h h1 place horizon size keeps there full (inr goes) = is_left full goes keeps

pub left-needs : (h : HeapView) (own : Own) (place : Tid) (row : Row) (horizon : ℕ) → VersionIsThere h place → room_of (page_on h place.page).slots < rounded_size_of row
    → IsLeftAlone h place horizon → RootNeedsMemory h own row → UpdateNeedsMemory h own place row horizon
left-needs h own place row horizon there full left needs =
    UpdateNeedsMemory.for_root h (left-readies h h place horizon (rounded_size_of row) (keeps-all h) there full left) full needs

-- What a plan does to the slot of a version.

some-of : {A : Type 0} (o : Option A) → IsSome o → (a : A) × (o ≡ Some a)
some-of (Some a) some = (a, refl)
some-of None some = absurd (true≢false (sym some))

pub none-unnamed : (actions : List (ℕ × Action)) (n : ℕ) (named : Bool) → (IsTrue named ↔ IsSome (action_of actions n)) → IsFalse named → action_of actions n ≡ None
none-unnamed actions n named says unnamed = by (action_of actions n) (λ some. true≢false (sym (says.1 some) ∙ unnamed))
  where
    by : {A : Type 0} (o : Option A) → ¬ IsSome o → o ≡ None
    by None none = refl
    by (Some a) none = absurd (none refl)

-- it takes the version away
pub named-goes : (h : HeapView) (place : Tid) (horizon : ℕ) (actions : List (ℕ × Action)) → VersionIsThere h place → IsPlanOn h place.page horizon actions → IsSome (action_of actions place.slot)
    → WouldGo h place horizon
named-goes h place horizon actions there plan named =
    let slots = (page_on h place.page).slots in
    let some = some-of (action_of actions place.slot) named in
    record { action = some.0; does = subst (λ o. PrunesSlot h.statuses horizon slots place.slot o) some.1 (plan.exact place.slot (there-from_normal slots place.slot there)) }

-- or leaves it there
pub unnamed-stays : (w : Window) (horizon : ℕ) (page : PageView) (actions : List (ℕ × Action)) (n : ℕ) → IsPlan w horizon page.slots actions → action_of actions n ≡ None
    → IsNormalAt page.slots n → IsNormalAt (applied actions page).slots n
unnamed-stays w horizon page actions n plan none there =
    let same = applied-slot 0 actions page plan.in_order n ∙ ap (acted (slot_at page.slots n)) none in
    subst (λ o. IsSome (option_and_then version_of o)) (sym same) there

pub applied-readies : (h h1 h' : HeapView) (place : Tid) (horizon size : ℕ) (actions : List (ℕ × Action)) → VersionIsThere h place → room_of (page_on h place.page).slots < size → Keeps h h1
    → h' ≡ with_applied h1 place.page actions → IsPlanOn h place.page horizon actions → PrunesIfFull h h' place horizon size
applied-readies h h1 h' place horizon size actions there full keeps is plan =
    let within = there-within h1 place (kept-there h h1 place keeps there) in
    is_pruned full h1 keeps (applied-prunes h1 h' place.page horizon actions within (plan-kept h h1 place.page horizon actions keeps plan) is)

pub stays-applied : (h h1 h' : HeapView) (place : Tid) (actions : List (ℕ × Action)) → place.page < length h1.pages.pages → Keeps h h1 → h' ≡ with_applied h1 place.page actions
    → IsNormalAt (applied actions (page_on h place.page)).slots place.slot → VersionIsThere h' place
stays-applied h h1 h' place actions within keeps is stays =
    subst (λ (l : List Slot). IsNormalAt l place.slot) (sym (planned-slots h h1 h' place.page actions within keeps is)) stays

pub idle-plan_on : (h : HeapView) (n horizon : ℕ) → HasNoneDead h n horizon → IsPlanOn h n horizon []
idle-plan_on h n horizon idle = idle-plan h.statuses horizon (page_on h n).slots idle.few idle.none

-- the plan that was made for the page of a number
pub plan-at : (h : HeapView) (n horizon : ℕ) (page : PageView) (actions : List (ℕ × Action)) → slice_get h.pages.pages n ≡ Some page → IsPlan h.statuses horizon page.slots actions → IsPlanOn h n horizon actions
plan-at h n horizon page actions at plan = subst (λ (p : PageView). IsPlan h.statuses horizon p.slots actions) (sym (page-at h.pages.pages n page at)) plan

pub can-at : (h : HeapView) (n : ℕ) (page : PageView) (actions : List (ℕ × Action)) → slice_get h.pages.pages n ≡ Some page → CanApply (length page.slots) actions
    → CanApply (length (page_on h n).slots) actions
can-at h n page actions at can = subst (λ (p : PageView). CanApply (length p.slots) actions) (sym (page-at h.pages.pages n page at)) can

-- a plan that does nothing to the version at a place
pub plan-around : {h : HeapView} (place : Tid) (horizon : ℕ) (actions : List (ℕ × Action)) (named : Bool) → IsPlanOn h place.page horizon actions
    → CanApply (length (page_on h place.page).slots) actions → (IsTrue named ↔ IsSome (action_of actions place.slot)) → IsFalse named → VersionIsThere h place → IsPlanAround h place actions
plan-around {h = h} place horizon actions named plan can says unnamed there = record {
  planned = (h.statuses, horizon, plan);
  can_apply = can;
  stays = unnamed-stays h.statuses horizon (page_on h place.page) actions place.slot plan (none-unnamed actions place.slot named says unnamed) there;
}

pub can-kept : (h h1 : HeapView) (n : ℕ) (actions : List (ℕ × Action)) → Keeps h h1 → CanApply (length (page_on h n).slots) actions → CanApply (length (page_on h1 n).slots) actions
can-kept h h1 n actions keeps can = subst (λ (l : List Slot). CanApply (length l) actions) (sym (kept-slots h h1 n keeps)) can

none-named : (actions : List (ℕ × Action)) → length actions ≡ 0 → actions ≡ []
none-named [] none = refl
none-named (a ∷ rest) none = absurd (omega (arith, none))

pub named-none : (actions : List (ℕ × Action)) (empty : Bool) → empty ≡ (length actions == 0) → empty ≡ true → actions ≡ []
named-none actions empty is so = none-named actions (eqb-true (length actions) 0 (sym is ∙ so))
