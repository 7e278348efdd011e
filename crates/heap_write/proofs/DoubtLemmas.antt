-- Where versions on a page may be dead: what writes, cleaning, ids and more memory leave of it.
use Rattle.std.proofs.Common.{◌≡◌, ℕ, zero, suc, ◌≤◌, Bool, true, List, [], ◌∷◌, length, Option, Some, None, ⊎_elim, sym, ap, subst, refl, ◌∙◌, arith}
use Rattle.std.specs.Option.{option_and_then}
use Rattle.std.proofs.lemmas.Option.{same_Some, none-some}
use Rattle.std.proofs.lemmas.Bool.{cases_eq}
use Rattle.xid_circle.specs.declared.Xid.{Xid}
use Rattle.page_sheet.specs.declared.slot.Slot.{Slot}
use Rattle.page_sheet.specs.declared.slot.Slot.TheVariants.{Normal}
use Rattle.page_slots.specs.View.{PageView}
use Rattle.page_sheet.specs.Slots.{version_at, version_of, with_slot, with_added, free_number, IsNormalAt, SlotIsThere}
use Rattle.page_sheet.proofs.SlotLemmas.{normal_at, same_or_other, slot_at-with_added, slot_at-with_added_other, slot_at-with_slot, slot_at-with_slot_other, length-with_slot, version_at-from_slot_at}
use Rattle.tuple_header.specs.Version.{Version}
use Rattle.tuple_header.specs.declared.version.Header.{Header}
use Rattle.tuple_header.specs.declared.version.Row.{Row}
use Rattle.commit_status.specs.Window.{Window, IsAborted}
use Rattle.space_maps.specs.Hints.{AddsDoubt}
use Rattle.tuple_writes.specs.Headers.{root_header, heap_only_header}
use Rattle.tuple_writes.specs.Writes.{with_root, with_heap_only, with_replaced, with_updated}
use Rattle.tuple_writes.proofs.Slotted.{replaced-other}
use Rattle.tuple_writes.proofs.Altered.{normal-added}
use Rattle.freeze.specs.Freezing.{Freezes}
use Rattle.freeze.proofs.Frozen.{SameDeleter, IsFrozenFrom, was-version}
use Rattle.prune_actions.specs.declared.Action.{Action}
use Rattle.prune_actions.specs.declared.Action.TheVariants as action
use Rattle.prune.specs.Actions.{made_by, CanApply, after_action, applied}
use Rattle.prune.specs.Glances.{IsPlain, ArePlainBut, AreDoubts}
use Rattle.heap_write.specs.Cleaning.{FreesSlots}
use Rattle.heap_write.specs.Hints.{AreDoubtedBy, AreStillDoubts}
use Rattle.heap_write.proofs.Dying.{freed-version}

-- no version comes, and none is aborted that wasn't
pub doubts-on : (w v : Window) (slots after : List Slot) (doubts : Option (List ℕ)) → ((x : ℕ) → IsAborted v x → IsAborted w x)
    → ((n : ℕ) (t : Version) → version_at after n ≡ Some t → version_at slots n ≡ Some t) → AreDoubts w slots doubts → AreDoubts v after doubts
doubts-on w v slots after None aborted kept are = tt
doubts-on w v slots after (Some numbers) aborted kept are = λ n t at off.
    let plain = are n t (kept n t at) off in
    (plain.0, λ undone. plain.1 (aborted t.header.xmin.0 undone))

-- A version is added that x, not aborted, made, and which nobody deleted.

plain-added : (w : Window) (x : ℕ) (slots : List Slot) (numbers : List ℕ) (v : Version) → v.header.xmin.0 ≡ x → v.header.xmax.0 ≡ 0 → ¬ IsAborted w x → ArePlainBut w slots numbers
    → ArePlainBut w (with_added slots (Normal v)) numbers
plain-added w x slots numbers v made undeleted live are = λ n t at off. ⊎_elim
    (λ here.
    let same : v ≡ t = same_Some v t (sym (version_at-from_slot_at (with_added slots (Normal v)) (free_number slots) v (slot_at-with_added slots (Normal v)))
    ∙ (ap (version_at (with_added slots (Normal v))) (sym here) ∙ at)) in
    subst (λ (u : Version). IsPlain w u.header) same (undeleted, subst (λ y. ¬ IsAborted w y) (sym made) live))
    (λ other. are n t (sym (ap (option_and_then version_of) (slot_at-with_added_other slots n (Normal v) other)) ∙ at) off)
    (same_or_other n (free_number slots))

pub doubts-root : (w : Window) (x page : ℕ) (slots : List Slot) (updated : Bool) (row : Row) (known after : Option (List ℕ)) → AreStillDoubts w x known after → AreDoubts w slots known
    → AreDoubts w (with_root slots updated x page row) after
doubts-root w x page slots updated row known None still are = tt
doubts-root w x page slots updated row known (Some after) still are =
    plain-added w x slots after (record { header = root_header updated x page (free_number slots); row = row }) refl refl still.0
    (subst (AreDoubts w slots) still.1 are)

-- A version is deleted: its slot is doubtful from then on.

plain-replaced : (w : Window) (n x page place : ℕ) (hot : Bool) (slots : List Slot) (known after : List ℕ) → IsNormalAt slots n → AddsDoubt (Some known) n (Some after)
    → ArePlainBut w slots known → ArePlainBut w (with_replaced slots n x page place hot) after
plain-replaced w n x page place hot slots known after normal adds are = λ m t at off.
    let old = normal_at slots n normal in
    let both = adds m (version-from (with_replaced slots n x page place hot) m t at) off in
    are m t (sym (ap (option_and_then version_of) (replaced-other slots n x page place hot old.0 m old.1 both.0)) ∙ at) both.1
  where
    version-from : (xs : List Slot) (k : ℕ) (u : Version) → version_at xs k ≡ Some u → 1 ≤ k
    version-from xs zero u at = absurd (none-some u at)
    version-from xs (suc k) u at = omega arith

pub doubts-replaced : (w : Window) (n x page place : ℕ) (hot : Bool) (slots : List Slot) (known after : Option (List ℕ)) → IsNormalAt slots n → AreDoubtedBy w x n known after
    → AreDoubts w slots known → AreDoubts w (with_replaced slots n x page place hot) after
doubts-replaced w n x page place hot slots known None normal by are = tt
doubts-replaced w n x page place hot slots None (Some after) normal by are = absurd by.1
doubts-replaced w n x page place hot slots (Some known) (Some after) normal by are = plain-replaced w n x page place hot slots known after normal by.1 are

pub doubts-updated : (w : Window) (n x page : ℕ) (slots : List Slot) (row : Row) (known after : Option (List ℕ)) → IsNormalAt slots n → AreDoubtedBy w x n known after
    → AreDoubts w slots known → AreDoubts w (with_updated slots n x page row) after
doubts-updated w n x page slots row known None normal by are = tt
doubts-updated w n x page slots row None (Some after) normal by are = absurd by.1
doubts-updated w n x page slots row (Some known) (Some after) normal by are =
    let v : Version = record { header = heap_only_header x page (free_number slots); row = row } in
    plain-replaced w n x page (free_number slots) true (with_heap_only slots x page row) known after (normal-added slots n (Normal v) normal) by.1
    (plain-added w x slots known v refl refl by.0 are)

-- A page is cleaned.

-- freezing leaves the inserter's number, and of an aborted deleter nothing
frozen-plain : (w : Window) (cutoff : ℕ) (t u : Header) → IsFrozenFrom w cutoff t u → IsPlain w t → IsPlain w u
frozen-plain w cutoff t u from plain = (undeleted from.deleter, subst (λ (x : Xid). ¬ IsAborted w x.0) (sym from.inserter) plain.1)
  where
    undeleted : SameDeleter w t u → u.xmax.0 ≡ 0
    undeleted (SameDeleter.kept same ctid mask live) = ap (λ (x : Xid). x.0) same ∙ plain.0
    undeleted (SameDeleter.gone none aborted) = none

pub doubts-frozen : (w : Window) (cutoff page : ℕ) (slots after : List Slot) (doubts : Option (List ℕ)) → Freezes w cutoff page slots after → AreDoubts w slots doubts → AreDoubts w after doubts
doubts-frozen w cutoff page slots after None freezes are = tt
doubts-frozen w cutoff page slots after (Some numbers) freezes are = λ n u at off.
    let was = was-version w cutoff page slots after freezes n u at in
    frozen-plain w cutoff was.version.header u.header was.frozen (are n was.version was.there off)

pub doubts-freed : (w : Window) (slots after : List Slot) (numbers : List ℕ) (doubts : Option (List ℕ)) → FreesSlots slots after numbers → AreDoubts w slots doubts → AreDoubts w after doubts
doubts-freed w slots after numbers doubts frees = doubts-on w w slots after doubts (λ x undone. undone) (freed-version slots after numbers frees)

-- nothing that a plan does makes a version
made-before : (slots : List Slot) (n m : ℕ) (a : Action) (t : Version) → SlotIsThere slots n → version_at (with_slot slots n (made_by a)) m ≡ Some t → version_at slots m ≡ Some t
made-before slots n m a t there at = ⊎_elim
    (λ same.
    let here : version_at (with_slot slots n (made_by a)) m ≡ None =
    ap (version_at (with_slot slots n (made_by a))) same ∙ (ap (option_and_then version_of) (slot_at-with_slot slots n (made_by a) there) ∙ no-version a) in
    absurd (none-some t (sym here ∙ at)))
    (λ other. sym (ap (option_and_then version_of) (slot_at-with_slot_other slots n m (made_by a) there.0 other)) ∙ at)
    (cases_eq m n)
  where
    no-version : (b : Action) → version_of (made_by b) ≡ None
    no-version action.Unuse = refl
    no-version action.Kill = refl
    no-version (action.Redirect k) = refl

-- nor do several
pub applied-version : (actions : List (ℕ × Action)) (page : PageView) (n : ℕ) (t : Version) → CanApply (length page.slots) actions → version_at (applied actions page).slots n ≡ Some t
    → version_at page.slots n ≡ Some t
applied-version [] page n t can at = at
applied-version (a ∷ rest) page n t can at =
    let can_rest = subst (λ count. CanApply count rest) (sym (length-with_slot page.slots a.0 (made_by a.1))) can.1 in
    made-before page.slots a.0 n a.1 t (can.0.there, can.0.within) (applied-version rest (after_action page a.0 a.1) n t can_rest at)
