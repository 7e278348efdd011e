-- A sound page stays sound under pruning, with the same chains, and a second pruning changes nothing.
use Rattle.std.proofs.Common.{◌≡◌, ℕ, zero, suc, ◌-◌, ◌==◌, nat_eq, Bool, true, false, if◌then◌else◌, List, get_or, take, Option, Some, None, arith, ⊎_elim, sym, ap, ◌∙◌, refl, slice_get}
use Rattle.std.specs.List.{list_any}
use Rattle.std.proofs.lemmas.Bool.{cases_lt}
use Rattle.page_sheet.specs.declared.slot.Slot.{Slot}
use Rattle.page_sheet.specs.Slots.{slot_at}
use Rattle.commit_status.specs.Window.{Window}
use Rattle.visibility.specs.Visible.{IsDead}
use Rattle.prune_actions.specs.declared.Action.{Action}
use Rattle.prune_actions.specs.declared.Action.TheVariants as action
use Rattle.sound_page.specs.Dead.{IsDeadAt}
use Rattle.prune.specs.Actions.{acted}
use Rattle.prune.specs.Pruning.{root_action, PrunesSlot, by_root, by_none, IsPruned}
use Rattle.sound_page.specs.Sound.{SoundPage, KeepsChains}
use Rattle.prune.proofs.Unshared.{same-by_slots}
use Rattle.prune.proofs.Removing.{by-answer, lost-from}
use Rattle.prune.proofs.Spared.{pruned-none_dead}
use Rattle.prune.proofs.Thinned.{thinned-sound, thinned-keeps_chains}
use Rattle.prune.proofs.Thins.{pruned-thins}

-- a sound page stays sound
pub pruned-sound : (w : Window) (horizon : ℕ) (slots after : List Slot) → SoundPage w slots → IsPruned w horizon slots after → SoundPage w after
pruned-sound w horizon slots after sound p = thinned-sound w horizon slots after sound (pruned-thins w horizon slots after p sound)

pub pruned-keeps_chains : (w : Window) (horizon : ℕ) (slots after : List Slot) → SoundPage w slots → IsPruned w horizon slots after → KeepsChains w slots after
pruned-keeps_chains w horizon slots after sound p = thinned-keeps_chains w horizon slots after sound (pruned-thins w horizon slots after p sound)

-- where nothing is dead, pruning changes nothing

take-none : (cut n : ℕ) (chain : List ℕ) → cut ≡ 0 → (if list_any (nat_eq n) (take cut chain) then Some action.Unuse else None) ≡ None
take-none zero n chain e = refl
take-none (suc cut) n chain e = absurd (omega arith)

root-kept : (cut : ℕ) (o : Option ℕ) → cut ≡ 0 → root_action cut o ≡ None
root-kept zero o e = refl
root-kept (suc cut) o e = absurd (omega arith)

either : (b : Bool) (o p : Option Action) → o ≡ None → p ≡ None → (if b then o else p) ≡ None
either true o p e f = e
either false o p e f = f

pub idle : (w : Window) (horizon : ℕ) (slots : List Slot) (n : ℕ) (o : Option Action) → ((k : ℕ) → ¬ IsDeadAt w horizon slots k) → PrunesSlot w horizon slots n o → o ≡ None
idle w horizon slots n o none (by_root root chain cut i c e) =
    let zero_is : cut ≡ 0 = ⊎_elim (λ lt. absurd (none (get_or chain (cut - 1) 0) (c.dead lt))) (λ ge. omega arith) (cases_lt 0 cut) in
    e ∙ either (n == root) (root_action cut (slice_get chain cut)) (if list_any (nat_eq n) (take cut chain) then Some action.Unuse else None) (root-kept cut (slice_get chain cut) zero_is) (take-none cut n chain zero_is)
idle w horizon slots n o none (by_none l e) = by-answer o (λ is. is)
    (λ a is. let lost = (lost-from w slots n a (sym e ∙ is)).1 in
    absurd (none n (record { version = lost.version; there = lost.there; dead = IsDead.never_was lost.thawed lost.aborted })))

pub pruned-again : (w : Window) (horizon : ℕ) (slots after again : List Slot) → SoundPage w slots → IsPruned w horizon slots after → IsPruned w horizon after again → again ≡ after
pruned-again w horizon slots after again sound p q = same-by_slots after again after q.count refl (λ n there.
    let each = q.each n there in
    each.is ∙ ap (acted (slot_at after n)) (idle w horizon after n each.answer (pruned-none_dead w horizon slots after sound p) each.does))
