-- A page is frozen slot by slot, and its mark is made up on the way.
use Rattle.std.proofs.Common.{◌≡◌, ℕ, ◌+◌, ◌≤◌, List, [], ◌∷◌, ◌++◌, length, if◌then◌else◌, arith, refl, subst, sym, ◌∙◌}
use Rattle.page_sheet.specs.Slots.{slot_at, the_slot, is_dead}
use Rattle.page_sheet.specs.declared.slot.Slot.{Slot}
use Rattle.page_slots.specs.View.{PageView}
use Rattle.page_sheet.proofs.SlotLemmas.{slot_at-there, the_slot-from_slot_at, slot_at-with_slot_other}
use Rattle.commit_status.specs.Window.{Window}
use Rattle.space_maps.specs.declared.mark.Mark.{Mark}
use Rattle.space_maps.specs.declared.mark.Mark.TheVariants.{AllFrozen}
use Rattle.freeze.specs.Freezing.{frozen_slot, with_frozen_at}
use Rattle.freeze.specs.AllVisible.{IsMarkWith}
use Rattle.freeze.specs.DeadSlots.{with_dead}
use Rattle.freeze.proofs.DeadLists.{ListsBelow, lists-more}
use Rattle.freeze.proofs.Slotted.{IsFreezing, freezing-none, freezing-next}
use Rattle.freeze.proofs.Marks.{IsMarkBelow, marks-none, marks-more, marks-moved}

-- the slots below n are frozen, the mark is what they allow, and the dead ones are listed
pub record FreezesBelow (w : Window) (cutoff horizon page : ℕ) (old now : PageView) (n : ℕ) (mark : Mark) (dead : List ℕ) : Type 0 where
  pub freezing : IsFreezing w cutoff page old now n
  pub allows : IsMarkBelow w horizon now.slots n mark
  pub lists : ListsBelow old.slots n dead

module _ (w : Window) (cutoff horizon page : ℕ) where
  pub passes-none : (p : PageView) → FreezesBelow w cutoff horizon page p p 1 AllFrozen []
  passes-none p = record { freezing = freezing-none w cutoff page p; allows = marks-none w horizon p.slots; lists = refl }

  pub passes-more : (old now new : PageView) (n : ℕ) (so_far mark : Mark) (dead : List ℕ) → 1 ≤ n → n ≤ length old.slots → FreezesBelow w cutoff horizon page old now n so_far dead
      → new ≡ with_frozen_at w cutoff page n now → IsMarkWith w horizon (slot_at new.slots n) so_far mark
      → FreezesBelow w cutoff horizon page old new (n + 1) mark (with_dead now.slots n dead)
  passes-more old now new n so_far mark dead from to below is here =
      subst (λ (p : PageView). FreezesBelow w cutoff horizon page old p (n + 1) mark (with_dead now.slots n dead)) (sym is) (record {
        freezing = freezing-next w cutoff page old now n from to below.freezing;
        allows = marks-more w horizon after.slots n so_far mark
            (marks-moved w horizon now.slots after.slots n so_far
            (λ m h. slot_at-with_slot_other now.slots n m (frozen_slot w cutoff page n (the_slot now.slots n)) from (λ e. omega (arith, e, h))) below.allows)
            (subst (λ (p : PageView). IsMarkWith w horizon (slot_at p.slots n) so_far mark) is here);
        lists = subst (λ (s : Slot). ListsBelow old.slots (n + 1) (if is_dead s then dead ++ n ∷ [] else dead)) (sym same) (lists-more old.slots n dead from to below.lists);
      })
    where
      after : PageView
      after = with_frozen_at w cutoff page n now

      -- the slot was not passed yet
      same : the_slot now.slots n ≡ the_slot old.slots n
      same = the_slot-from_slot_at now.slots n (the_slot old.slots n) (below.freezing.left n (omega arith) ∙ slot_at-there old.slots n (from, to))
