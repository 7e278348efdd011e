-- Slots that are passed over: versions of an inserter that was not aborted, which nobody deleted.
use Rattle.std.proofs.Common.{◌≡◌, ℕ, zero, suc, ◌+◌, ◌-◌, ◌<◌, ◌≤◌, ◌&&◌, ◌==◌, not, Bool, true, false, List, length, Some, arith, inr, refl, ap, subst}
use Rattle.std.proofs.lemmas.Bool.{eqb-true}
use Rattle.page_sheet.specs.declared.slot.Slot.{Slot}
use Rattle.page_sheet.specs.declared.slot.Slot.TheVariants.{Unused, Normal, Redirect, Dead}
use Rattle.page_sheet.specs.Slots.{slot_at, version_at, header_at, the_slot, SlotIsThere, is_undeleted_by}
use Rattle.page_sheet.proofs.SlotLemmas.{slot_at-there, version_at-from_slot_at}
use Rattle.std.specs.Option.{option_map}
use Rattle.tuple_header.specs.Version.{Version}
use Rattle.tuple_header.specs.declared.version.Header.{Header}
use Rattle.tuple_header.specs.Marks.{is_hot_updated}
use Rattle.hot_chain.specs.Chain.{has_aborted, is_replaced}
use Rattle.commit_status.specs.Window.{Window, IsAborted, IsCommitted, IsGiven}
use Rattle.visibility.specs.Visible.{IsDead}
use Rattle.prune.specs.Deaths.{MayDieFrom, LivesAt}
use Rattle.prune.proofs.Cuts.{lives-there, LiveBelow, live-more}

both : (a b : Bool) → (a && b) ≡ true → (a ≡ true) × (b ≡ true)
both true b e = (refl, e)
both false b e = absurd (cc)

-- such a version, which is there
pub record IsKept (slots : List Slot) (n x : ℕ) : Type 0 where
  pub version : Version
  pub there : version_at slots n ≡ Some version
  pub made : version.header.xmin.0 ≡ x
  pub kept : version.header.xmax.0 ≡ 0

pub kept-there : (slots : List Slot) (n x : ℕ) → SlotIsThere slots n → is_undeleted_by x (the_slot slots n) ≡ true → IsKept slots n x
kept-there slots n x there e = by (the_slot slots n) (slot_at-there slots n there) e
  where
    by : (s : Slot) → slot_at slots n ≡ Some s → is_undeleted_by x s ≡ true → IsKept slots n x
    by Unused at e = absurd (cc)
    by (Normal t) at e =
        let b = both (t.header.xmin.0 == x) (t.header.xmax.0 == 0) e in
        record { version = t; there = version_at-from_slot_at slots n t at; made = eqb-true t.header.xmin.0 x b.0; kept = eqb-true t.header.xmax.0 0 b.1 }
    by (Redirect target) at e = absurd (cc)
    by Dead at e = absurd (cc)

-- 0 is no id
none-committed : (w : Window) → IsCommitted w 0 → ⊥
none-committed w e = absurd (cc)

none-given : (w : Window) → IsGiven w 0 → ⊥
none-given w e = absurd (cc)

pub kept-alive : (w : Window) (horizon x : ℕ) (h : Header) → ¬ IsAborted w x → h.xmin.0 ≡ x → h.xmax.0 ≡ 0 → IsDead w horizon h → ⊥
kept-alive w horizon x h good made kept (IsDead.never_was thawed undone) = good (subst (IsAborted w) made undone)
kept-alive w horizon x h good made kept (IsDead.is_past deleted past) = none-committed w (subst (IsCommitted w) kept deleted)

kept-from : (w : Window) (turn x : ℕ) (h : Header) → ¬ IsAborted w x → h.xmin.0 ≡ x → h.xmax.0 ≡ 0 → MayDieFrom w turn h
kept-from w turn x h good made kept = record {
  kept = inr (λ undone. good (subst (IsAborted w) made undone));
  later = λ given. absurd (none-given w (subst (IsGiven w) kept given));
}

unreplaced : (a b c : Bool) → b ≡ true → (a && not b && c) ≡ false
unreplaced true true c e = refl
unreplaced false true c e = refl
unreplaced a false c e = absurd (cc)

pub kept-unreplaced : (w : Window) (h : Header) → h.xmax.0 ≡ 0 → is_replaced (has_aborted w) h ≡ false
kept-unreplaced w h kept = unreplaced (is_hot_updated h) (h.xmax.0 == 0) (not (has_aborted w h.xmax.0)) (ap (λ k. k == 0) kept)

pub kept-header : (slots : List Slot) (n x : ℕ) (k : IsKept slots n x) → header_at slots n ≡ Some k.version.header
kept-header slots n x k = ap (option_map (λ (v : Version). v.header)) k.there

-- it is not dead, and may be from any turn on
passed-lives : (w : Window) (horizon turn : ℕ) (slots : List Slot) (n x : ℕ) → ¬ IsAborted w x → SlotIsThere slots n → is_undeleted_by x (the_slot slots n) ≡ true
    → LivesAt w horizon turn slots n
passed-lives w horizon turn slots n x good there e =
    let k = kept-there slots n x there e in
    lives-there w horizon turn slots n k.version.header (kept-header slots n x k) (kept-alive w horizon x k.version.header good k.made k.kept)
    (kept-from w turn x k.version.header good k.made k.kept)

-- all slots from a number on, below another, are passed over
abbrev pub ArePassed : List Slot → ℕ → ℕ → ℕ → Type 0
ArePassed slots x from below = (n : ℕ) → from ≤ n → 1 ≤ n → n < below → is_undeleted_by x (the_slot slots n) ≡ true

live-steps : (w : Window) (horizon : ℕ) (slots : List Slot) (turn x bound k : ℕ) → ¬ IsAborted w x → 1 ≤ bound → bound + k ≤ length slots + 1 → ArePassed slots x bound (bound + k)
    → LiveBelow w horizon slots bound turn → LiveBelow w horizon slots (bound + k) turn
live-steps w horizon slots turn x bound zero good from within p l = let same : bound ≡ bound + 0 = omega arith in subst (λ b. LiveBelow w horizon slots b turn) same l
live-steps w horizon slots turn x bound (suc k) good from within p l =
    let one = passed-lives w horizon turn slots bound x good (from, omega arith) (p bound (omega arith) from (omega arith)) in
    let same : (bound + 1) + k ≡ bound + suc k = omega arith in
    subst (λ b. LiveBelow w horizon slots b turn) same
    (live-steps w horizon slots turn x (bound + 1) k good (omega arith) (omega arith) (λ n over one_at below. p n (omega arith) one_at (omega arith))
    (live-more w horizon slots bound turn turn (omega arith) l one))

pub live-passed : (w : Window) (horizon : ℕ) (slots : List Slot) (turn x bound next : ℕ) → ¬ IsAborted w x → 1 ≤ bound → bound ≤ next → next ≤ length slots + 1
    → ArePassed slots x bound next → LiveBelow w horizon slots bound turn → LiveBelow w horizon slots next turn
live-passed w horizon slots turn x bound next good from forward within p l =
    let same : bound + (next - bound) ≡ next = omega arith in
    subst (λ b. LiveBelow w horizon slots b turn) same
    (live-steps w horizon slots turn x bound (next - bound) good from (omega arith) (λ n over one_at below. p n over one_at (omega arith)) l)
