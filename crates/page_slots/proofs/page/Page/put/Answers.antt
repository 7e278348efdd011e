use Rattle.std.proofs.Common.{◌≡◌, ◌-◌, ◌≤◌, ℕ, [], true, length, get_or, set, sum_by, ◌+◌, sym, ap, ◌∙◌, subst, arith, List}
use Rattle.std.proofs.lemmas.Bool.{true≢false}
use Rattle.std.specs.List.{position_or_len}
use Rattle.page_slots.specs.View.{PageView, AreTallied}
use Rattle.page_sheet.specs.declared.slot.Slot.{Slot}
use Rattle.page_sheet.specs.declared.slot.Slot.TheVariants.{Unused}
use Rattle.page_sheet.specs.Layout.{shown_by, slots_in}
use Rattle.page_layout.specs.declared.pointer.Pointer.{Pointer}
use Rattle.page_layout.specs.Sound.{HoldsNoVersion}
use Rattle.page_sheet.specs.Slots.{is_unused, bytes_taken}
use Rattle.page_slots.proofs.Kept.{kept_bare, taken-within, sum-bare}
use Rattle.page_slots.proofs.Numbered.{IsNumbered, numbered}
use Rattle.page_sheet.proofs.PlacingLemmas.{some-lost, none-lost}
use Rattle.page_sheet.proofs.FreeLemmas.{first-after_set}
use Rattle.page_sheet.proofs.PointerSet.{bare-takes_none, bare-used}
use Rattle.page_sheet.proofs.Sounds.{length-slots_in}
use Rattle.page_slots.proofs.page.Page.put.Goals as goal
use Rattle.page_slots.proofs.page.Page.put.Goals.{After-version_size-taken, After-first_unused_from-self-inside, in-Unused, in_default, then-taken-gt0, else-taken-gt0}

-- The slot that goes, and what its version took.
record Facts (count : ℕ) (bytes : List ℕ) (n index free all taken : ℕ) (pointer : Pointer) : Type 0 where
  at : IsNumbered count bytes n index
  bare : HoldsNoVersion count pointer
  is : bytes_taken (get_or (slots_in count bytes) index Unused) ≡ taken
  most : taken ≤ all

facts : (c : After-version_size-taken)
    → Facts c.self.inside.sheet.count c.self.inside.sheet.bytes c.args.number (c.from-index.result - 1) c.self.inside.free c.self.inside.taken_bytes c.version_size-taken.result c.args.pointer
facts c =
    let count = c.self.inside.sheet.count in
    let bytes = c.self.inside.sheet.bytes in
    let at = numbered c.args.self.now.slots count bytes c.args.number c.from-index.result (ap (λ (p : PageView). p.slots) c.self.view_is) c.from-index.ensures c.requires.there in
    let is = ap bytes_taken at.slot ∙ sym c.version_size-taken.ensures in
    let within = taken-within (slots_in count bytes) c.self.inside.free c.self.inside.taken_bytes (c.from-index.result - 1) at.inside c.self.invariant in
    record {
      at = at;
      bare = subst (λ (n : ℕ). HoldsNoVersion n c.args.pointer) (ap (λ (p : PageView). length p.slots) (sym c.self.view_is) ∙ length-slots_in count bytes) c.requires.bare;
      is = is;
      most = omega arith;
    }

pub version_size-taken-requires : goal.version_size-taken-requires
version_size-taken-requires c =
    (numbered c.args.self.now.slots c.self.inside.sheet.count c.self.inside.sheet.bytes c.args.number c.from-index.result
    (ap (λ (p : PageView). p.slots) c.self.view_is) c.from-index.ensures c.requires.there).within

pub overflow_sub-self : goal.overflow_sub-self
overflow_sub-self c = (facts (goal.at.overflow_sub-self c).After-version_size-taken).most

pub clear-requires-clause-there : goal.clear-requires-clause-there
clear-requires-clause-there c = (facts (goal.at.clear-requires-clause-there c).After-version_size-taken).at.within

pub clear-requires-clause-bare : goal.clear-requires-clause-bare
clear-requires-clause-bare c = (facts (goal.at.clear-requires-clause-bare c).After-version_size-taken).bare

pub clear-requires-clause-last : goal.clear-requires-clause-last
clear-requires-clause-last c =
    let f = facts (goal.at.clear-requires-clause-last c).After-version_size-taken in
    let count = c.self.inside.sheet.count in
    let slots = slots_in count c.self.inside.sheet.bytes in
    let slot = shown_by [] c.args.pointer in
    let index = c.from-index.result - 1 in
    let sum = sum-bare slots c.self.inside.free c.self.inside.taken_bytes index slot f.at.inside (bare-takes_none count c.args.pointer f.bare) c.self.invariant in
    let before = sum_by bytes_taken slots in
    let after = sum_by bytes_taken (set slots index slot) in
    let taken = c.version_size-taken.result in
    let left = c.self.inside.taken_bytes - taken in
    let is = f.is in
    let most = f.most in
    let all = c.self.invariant.sum in
    let whole : before ≡ left + taken = omega arith in
    let rest : after ≡ left = omega arith in
    elim c.if-taken-gt0.branch [
      | then-taken-gt0 w ↦ w.last-is ∙ some-lost before after taken left whole rest (omega (arith, w.if-taken-gt0.true))
      | else-taken-gt0 w ↦ w.last-is ∙ none-lost before after taken left whole rest (omega (arith, w.if-taken-gt0.false))
    ]

pub first_unused_from-self-inside-requires : goal.first_unused_from-self-inside-requires
first_unused_from-self-inside-requires c =
    let f = facts (goal.at.first_unused_from-self-inside-requires c).After-version_size-taken in
    let slots = slots_in c.self.inside.sheet.count c.self.inside.sheet.bytes in
    let slot = shown_by [] c.args.pointer in
    let index = c.from-index.result - 1 in
    let free = c.self.invariant.first in
    let before : c.match-pointer.from ≤ position_or_len is_unused slots =
    elim c.match-pointer.branch [ in-Unused w ↦ omega (arith, w.from-is, w.min-from.ensures, free) | in_default w ↦ omega (arith, w.from-is, free) ] in
    let first : is_unused slot ≡ true → c.match-pointer.from ≤ index = λ unused.
    elim c.match-pointer.branch [
      | in-Unused w ↦ omega (arith, w.from-is, w.min-from.ensures)
      | in_default w ↦ absurd (true≢false (sym unused ∙ bare-used c.self.inside.sheet.count c.args.pointer f.bare w.in_default.not-Unused))
    ] in
    rw c.clear.ensures.slots.are (first-after_set slots index slot c.match-pointer.from before first)

-- What is tallied then.
kept : (c : After-first_unused_from-self-inside)
    → Facts c.self.inside.sheet.count c.self.inside.sheet.bytes c.args.number (c.from-index.result - 1) c.self.inside.free c.self.inside.taken_bytes c.version_size-taken.result c.args.pointer
    → AreTallied (slots_in c.clear.new.self.count c.clear.new.self.bytes) c.first_unused_from-self-inside.result (c.self.inside.taken_bytes - c.version_size-taken.result)
kept c f =
    let count = c.self.inside.sheet.count in
    let slots = slots_in count c.self.inside.sheet.bytes in
    let index = c.from-index.result - 1 in
    let slot = shown_by [] c.args.pointer in
    let next = c.first_unused_from-self-inside.result in
    let first : next ≡ position_or_len is_unused (set slots index slot) = c.first_unused_from-self-inside.ensures.index ∙ ap (position_or_len is_unused) c.clear.ensures.slots.are in
    subst (λ (s : List Slot). AreTallied s next (c.self.inside.taken_bytes - c.version_size-taken.result)) (sym c.clear.ensures.slots.are)
    (subst (λ (t : ℕ). AreTallied (set slots index slot) next (c.self.inside.taken_bytes - t)) f.is
    (kept_bare slots c.self.inside.free c.self.inside.taken_bytes next index slot f.at.inside (bare-takes_none count c.args.pointer f.bare) first c.self.invariant))

pub invariant_of-self : goal.invariant_of-self
invariant_of-self c = kept (goal.at.invariant_of-self c).After-first_unused_from-self-inside (facts (goal.at.invariant_of-self c).After-version_size-taken)

pub invariant_of-self-else-not-same : goal.invariant_of-self-else-not-same
invariant_of-self-else-not-same c =
    kept (goal.at.invariant_of-self-else-not-same c).After-first_unused_from-self-inside (facts (goal.at.invariant_of-self-else-not-same c).After-version_size-taken)
