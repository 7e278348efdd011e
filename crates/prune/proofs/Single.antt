-- A chain of one version: how many of its versions are cut, and where it starts.
use Rattle.std.proofs.Common.{IsTrue, ◌↔◌, ◌≡◌, ℕ, if◌then◌else◌, Bool, true, false, List, [], ◌∷◌, get_or, Option, Some, None, arith, sym, ap, ◌∙◌, refl, subst}
use Rattle.std.specs.Option.{option_and_then, option_map, unwrap_or}
use Rattle.page_sheet.specs.declared.slot.Slot.{Slot}
use Rattle.page_sheet.specs.declared.slot.Slot.TheVariants.{Unused, Normal, Redirect, Dead}
use Rattle.page_sheet.specs.Slots.{slot_at, version_at, header_at, redirect_at, version_of, target_of}
use Rattle.tuple_header.specs.Version.{Version}
use Rattle.tuple_header.specs.declared.version.Header.{Header}
use Rattle.tuple_header.specs.Marks.{is_hot_updated}
use Rattle.commit_status.specs.Window.{Window}
use Rattle.visibility.specs.Visible.{IsDead}
use Rattle.hot_chain.specs.Chain.{has_aborted, start_in, first_of}
use Rattle.hot_chain.proofs.Alone.{not-replaced, single-chain}
use Rattle.sound_page.specs.Dead.{IsDeadAt}
use Rattle.prune.specs.Cutting.{IsCutCount}
use Rattle.prune.specs.Marks.{IsSingle}
use Rattle.prune.proofs.Cuts.{some-version, dead-there, dead-here}

-- so many of its versions are cut
pub single-cut : (w : Window) (horizon : ℕ) (slots : List Slot) (start : ℕ) (dead : Bool) → IsTrue dead ↔ IsDeadAt w horizon slots start
    → IsCutCount w horizon slots (start ∷ []) (if dead then 1 else 0)
single-cut w horizon slots start true t = record { within = omega arith; dead = λ h. t.0 refl; none_after = λ j a b. absurd (omega arith) }
single-cut w horizon slots start false t = record {
  within = omega arith;
  dead = λ h. absurd (omega arith);
  none_after = λ j a b. let at : j ≡ 0 = omega arith in subst (λ i. ¬ IsDeadAt w horizon slots (get_or (start ∷ []) i 0)) (sym at) (λ d. let f : false ≡ true = t.1 d in cc);
}

-- Where the chain of a slot starts: where it leads, if it is a redirect, else there.
no-header : (slots : List Slot) (n : ℕ) (h : Header) (o : Option Slot) → slot_at slots n ≡ o → option_and_then version_of o ≡ None → header_at slots n ≡ Some h → ⊥
no-header slots n h o at none e =
    let f : header_at slots n ≡ None = ap (λ x. option_map (λ (t : Version). t.header) (option_and_then version_of x)) at ∙ ap (option_map (λ (t : Version). t.header)) none in
    absurd (let g : Some h ≡ None = sym e ∙ f in cc)

first-in : (slots : List Slot) (n : ℕ) (h : Header) (o : Option Slot) → slot_at slots n ≡ o → header_at slots (unwrap_or (option_and_then target_of o) n) ≡ Some h
    → option_and_then (start_in slots n) o ≡ Some (unwrap_or (option_and_then target_of o) n)
first-in slots n h None at e = absurd (no-header slots n h None at refl e)
first-in slots n h (Some Unused) at e = absurd (no-header slots n h (Some Unused) at refl e)
first-in slots n h (Some (Normal t)) at e = refl
first-in slots n h (Some (Redirect k)) at e = let v = some-version (version_at slots k) h e in rw v.1 refl
first-in slots n h (Some Dead) at e = absurd (no-header slots n h (Some Dead) at refl e)

first-there : (slots : List Slot) (n : ℕ) (h : Header) → header_at slots (unwrap_or (redirect_at slots n) n) ≡ Some h → first_of slots n ≡ Some (unwrap_or (redirect_at slots n) n)
first-there slots n h e = first-in slots n h (slot_at slots n) refl e

pub single-is : (w : Window) (horizon : ℕ) (slots : List Slot) (root start : ℕ) (h : Header) (dead : Bool) → start ≡ unwrap_or (redirect_at slots root) root
    → header_at slots start ≡ Some h → is_hot_updated h ≡ false → IsTrue dead ↔ IsDead w horizon h → IsSingle w horizon slots root start dead
single-is w horizon slots root start h dead e at off t = record {
  is_chain = single-chain (has_aborted w) slots root start h (first-there slots root h (ap (header_at slots) (sym e) ∙ at) ∙ ap Some (sym e)) at (not-replaced (has_aborted w) h off);
  is_dead = (λ yes. dead-there w horizon slots start h at (t.0 yes), λ d. t.1 (dead-here w horizon slots start h at d));
}
