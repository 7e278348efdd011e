-- A version that no later one replaced is the last of its chain; where it is the first too, it is alone.
use Rattle.std.proofs.Common.{◌≡◌, ℕ, Bool, false, nat_eq, List, [], ◌∷◌, Some, None, arith, sym, ap, ◌∙◌, refl, subst}
use Rattle.std.specs.List.{IsDistinct}
use Rattle.std.specs.Option.{option_and_then}
use Rattle.page_sheet.specs.declared.slot.Slot.{Slot}
use Rattle.page_sheet.specs.Slots.{header_at}
use Rattle.page_sheet.proofs.SlotLemmas.{version-from_header, slot_at-from_version_at}
use Rattle.tuple_header.specs.declared.version.Header.{Header}
use Rattle.tuple_header.specs.Marks.{is_hot_updated}
use Rattle.hot_chain.specs.Chain.{is_replaced, successor, start_in, first_of, IsChain, IsEnd}

pub not-replaced : (aborted : ℕ → Bool) (h : Header) → is_hot_updated h ≡ false → is_replaced aborted h ≡ false
not-replaced aborted h off = rw off refl

pub leads-nowhere : (aborted : ℕ → Bool) (slots : List Slot) (h : Header) → is_replaced aborted h ≡ false → successor aborted slots h ≡ None
leads-nowhere aborted slots h off = rw off refl

pub distinct-alone : (n : ℕ) → IsDistinct nat_eq (n ∷ [])
unfolding IsDistinct
distinct-alone n = (tt, tt)

pub single-chain : (aborted : ℕ → Bool) (slots : List Slot) (n start : ℕ) (h : Header) → first_of slots n ≡ Some start → header_at slots start ≡ Some h
    → is_replaced aborted h ≡ false → IsChain aborted slots n (start ∷ [])
single-chain aborted slots n start h first at off = record {
  start = sym first;
  linked = λ i more. absurd (omega arith);
  distinct = distinct-alone start;
  end = λ some. subst (IsEnd (start ∷ [])) (sym (ap (option_and_then (successor aborted slots)) at ∙ leads-nowhere aborted slots h off)) tt;
}

first-itself : (slots : List Slot) (n : ℕ) (h : Header) → header_at slots n ≡ Some h → first_of slots n ≡ Some n
first-itself slots n h at =
    let t = version-from_header slots n h at in
    ap (option_and_then (start_in slots n)) (slot_at-from_version_at slots n t.0 t.1)

-- the chain of a slot with a version that is not HOT-updated
pub alone-chain : (aborted : ℕ → Bool) (slots : List Slot) (n : ℕ) (h : Header) → header_at slots n ≡ Some h → is_hot_updated h ≡ false → IsChain aborted slots n (n ∷ [])
alone-chain aborted slots n h at off = single-chain aborted slots n n h (first-itself slots n h at) at (not-replaced aborted h off)
