-- Several roots whose chains begin in one slot: the slot itself, and redirects to it.
use Rattle.std.proofs.Common.{◌≡◌, ◌≢◌, ℕ, Bool, true, false, if◌then◌else◌, List, Some, None, is_some, sym, ap, ◌∙◌, refl}
use Rattle.std.specs.Option.{option_and_then}
use Rattle.page_sheet.specs.declared.slot.Slot.{Slot}
use Rattle.page_sheet.specs.declared.slot.Slot.TheVariants.{Normal, Redirect}
use Rattle.page_sheet.specs.Slots.{slot_at, version_at, IsNormalAt}
use Rattle.page_sheet.proofs.SlotLemmas.{normal_at, version_at-from_slot_at}
use Rattle.hot_chain.specs.Chain.{is_root, is_root_in, start_in}
use Rattle.sound_page.proofs.ChainPlaces.{first-normal}
use Rattle.prune.specs.declared.one_doubt.SlotsOfKind.{SlotsOfKind}
use Rattle.prune.specs.declared.one_doubt.SlotsOfKind.TheVariants.{NoSlot, One, Several}
use Rattle.prune.specs.OneDoubt.{IsRedirectTo, BeginsIn, AreThose}

redirect-begins : (slots : List Slot) (start root : ℕ) → IsNormalAt slots start → IsRedirectTo slots start root → BeginsIn slots start root
redirect-begins slots start root normal at = record {
  starts = ap is_root_in at;
  first = ap (option_and_then (start_in slots root)) at ∙ chosen (is_some (version_at slots start)) normal;
}
  where
    chosen : (b : Bool) → b ≡ true → (if b then Some start else None) ≡ Some start
    chosen true e = refl
    chosen false e = absurd (cc)

two-begin : (slots : List Slot) (start redirect : ℕ) → IsNormalAt slots start → is_root slots start ≡ true → IsRedirectTo slots start redirect
    → AreThose (BeginsIn slots start) Several
two-begin slots start redirect normal starts at =
    let v = normal_at slots start normal in (
      start,
      redirect,
      record { starts = starts; first = first-normal slots start v.0 (version_at-from_slot_at slots start v.0 v.1) },
      redirect-begins slots start redirect normal at,
      λ same. absurd (let e : Some (Normal v.0) ≡ Some (Redirect start) = sym v.1 ∙ ap (slot_at slots) same ∙ at in cc),
    )

-- there are redirects to a root
pub several-begin : (slots : List Slot) (start : ℕ) (redirects : SlotsOfKind) → IsNormalAt slots start → is_root slots start ≡ true → redirects ≢ NoSlot
    → AreThose (IsRedirectTo slots start) redirects → AreThose (BeginsIn slots start) Several
several-begin slots start NoSlot normal starts some are = absurd (some refl)
several-begin slots start (One only) normal starts some are = two-begin slots start only normal starts are.0
several-begin slots start Several normal starts some are = two-begin slots start are.0 normal starts are.2
