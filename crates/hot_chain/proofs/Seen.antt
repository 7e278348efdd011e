-- The first version of some slots that is seen.
use Rattle.std.proofs.Common.{◌≡◌, ℕ, ◌<◌, List, length, get_or, Option, Some, sym, ◌∙◌, subst, refl}
use Rattle.page_sheet.specs.declared.slot.Slot.{Slot}
use Rattle.page_sheet.specs.Slots.{version_at, header_at}
use Rattle.page_sheet.proofs.SlotLemmas.{version-from_header}
use Rattle.tuple_header.specs.Version.{Version}
use Rattle.tuple_header.specs.declared.version.Header.{Header}
use Rattle.hot_chain.specs.Chain.{IsSeenIn}

-- it is the version that a look-up of its header finds
pub seen-here : (seen : Header → Type 0) (slots : List Slot) (chain : List ℕ) (i : ℕ) (r : Option Header) (h : Header) → i < length chain → r ≡ header_at slots (get_or chain i 0) → r ≡ Some h → seen h
    → ((j : ℕ) (u : Version) → j < i → version_at slots (get_or chain j 0) ≡ Some u → ¬ seen u.header) → IsSeenIn seen slots chain (get_or chain i 0)
seen-here seen slots chain i r h within value is has none =
    let v = version-from_header slots (get_or chain i 0) h (sym value ∙ is) in
    record { index = i; slot = refl; version = v.0; first = record { within = within; there = v.1; is_seen = subst seen v.2 has; none_before = none } }
