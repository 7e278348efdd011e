-- What is planned for a slot is what pruning does to it, and it can be done.
use Rattle.std.proofs.Common.{◌≡◌, ℕ, zero, suc, ◌+◌, ◌<◌, ◌≤◌, ◌==◌, Bool, true, false, nat_eq, if◌then◌else◌, List, [], ◌∷◌, ◌++◌, length, take, drop, get_or, Option, Some, None, arith, sym, ap, ◌∙◌, refl, subst, slice_get}
use Rattle.std.specs.List.{list_any}
use Rattle.std.proofs.lemmas.Option.{slice_get_within, get_or_from_slice_get}
use Rattle.page_sheet.specs.declared.slot.Slot.{Slot}
use Rattle.page_slots.specs.View.{PageView}
use Rattle.page_sheet.specs.Slots.{SlotIsThere, slot_at, header_at}
use Rattle.tuple_header.specs.declared.version.Header.{Header}
use Rattle.commit_status.specs.Window.{Window}
use Rattle.hot_chain.specs.Chain.{has_aborted, IsChain}
use Rattle.prune_actions.specs.declared.Action.{Action}
use Rattle.prune_actions.specs.declared.Action.TheVariants as action
use Rattle.prune.specs.declared.marks.PruneVerdict.{PruneVerdict}
use Rattle.prune.specs.Actions.{HasTarget, action_of}
use Rattle.prune.specs.Pruning.{root_action, loose_in, PrunesSlot, by_root, by_none, IsPlan, IsPruned}
use Rattle.prune.specs.Marks.{verdict_of, mark_at, IsVerdict, PlainlyStays, ListsAllBut, planned}
use Rattle.prune.specs.Laws.{IsPrunedPage}
use Rattle.sound_page.proofs.Links.{member-there}
use Rattle.prune.proofs.Listing.{AreListed, listed-skip, listed-push, listed-jump, applied-slot, applied-count}
use Rattle.prune.proofs.Idle.{spared-does, nothing-lost}
use Rattle.prune.proofs.Stays.{stays-alive, stays-chain_none}
use Rattle.prune.proofs.Roots.{IsNext, next-listed}

planned-held : (w : Window) (slots : List Slot) (n : ℕ) (o : Option Action) → planned w slots n (verdict_of o) ≡ o
planned-held w slots n None = refl
planned-held w slots n (Some a) = refl

pub marked-does : (w : Window) (horizon : ℕ) (slots : List Slot) (n : ℕ) (mark : PruneVerdict) → length slots ≤ 291 → IsVerdict w horizon slots n mark
    → PrunesSlot w horizon slots n (planned w slots n mark)
marked-does w horizon slots n mark few (IsVerdict.held root chain cut o c e) = by_root root chain cut o c (ap (planned w slots n) e ∙ planned-held w slots n _)
marked-does w horizon slots n mark few (IsVerdict.spared s e) = subst (PrunesSlot w horizon slots n) (sym (ap (planned w slots n) e)) (spared-does w horizon slots n few s)

-- nothing is planned for a slot that plainly stays
stays-planned : (w : Window) (horizon : ℕ) (slots : List Slot) (n : ℕ) (mark : PruneVerdict) → PlainlyStays w horizon slots n → IsVerdict w horizon slots n mark
    → planned w slots n mark ≡ None
stays-planned w horizon slots n mark stays (IsVerdict.held root chain cut o c e) =
    ap (planned w slots n) e ∙ planned-held w slots n _ ∙ stays-chain_none w horizon slots n root cut chain stays o c
stays-planned w horizon slots n mark stays (IsVerdict.spared s e) =
    ap (planned w slots n) e ∙ nothing-lost w horizon slots n (stays-alive w horizon slots n stays)

abbrev Target : ℕ → Option Action → Type 0
Target count None = Unit {0}
Target count (Some a) = HasTarget count a

root-target : (aborted : ℕ → Bool) (slots : List Slot) (root : ℕ) (chain : List ℕ) (cut : ℕ) (o : Option ℕ) → IsChain aborted slots root chain → slice_get chain cut ≡ o
    → Target (length slots) (root_action cut o)
root-target aborted slots root chain zero o c e = tt
root-target aborted slots root chain (suc cut) None c e = tt
root-target aborted slots root chain (suc cut) (Some k) c e =
    let within = slice_get_within chain (suc cut) k e in
    subst (SlotIsThere slots) (get_or_from_slice_get chain (suc cut) k 0 e) (member-there aborted slots root chain (suc cut) c within)

unuse-target : (count : ℕ) (b : Bool) → Target count (if b then Some action.Unuse else None)
unuse-target count true = tt
unuse-target count false = tt

either-target : (count : ℕ) (b : Bool) (o p : Option Action) → Target count o → Target count p → Target count (if b then o else p)
either-target count true o p x y = x
either-target count false o p x y = y

loose-target : (count : ℕ) (w : Window) (o : Option Header) → Target count (loose_in w o)
loose-target count w None = tt
loose-target count w (Some h) = unuse-target count _

does-target : (w : Window) (horizon : ℕ) (slots : List Slot) (n : ℕ) (o : Option Action) → PrunesSlot w horizon slots n o → Target (length slots) o
does-target w horizon slots n o (by_root root chain cut i c e) =
    subst (Target (length slots)) (sym e) (either-target (length slots) (n == root) _ _
    (root-target (has_aborted w) slots root chain cut (slice_get chain cut) i.is_chain refl) (unuse-target (length slots) (list_any (nat_eq n) (take cut chain))))
does-target w horizon slots n o (by_none l e) = subst (Target (length slots)) (sym e) (loose-target (length slots) w (header_at slots n))

pub does-has_target : (w : Window) (horizon : ℕ) (slots : List Slot) (n : ℕ) (o : Option Action) (a : Action) → PrunesSlot w horizon slots n o → o ≡ Some a → HasTarget (length slots) a
does-has_target w horizon slots n o a d e = subst (Target (length slots)) e (does-target w horizon slots n o d)

-- The actions of the first `i` of the slots that are listed: of the others up to `low` none has one.
pub record IsListing (w : Window) (horizon : ℕ) (slots : List Slot) (doubtful : List ℕ) (marks : List PruneVerdict) (acts : List (ℕ × Action)) (i : ℕ) : Type 0 where
  pub low : ℕ
  pub within : low ≤ length slots
  pub left : ListsAllBut (PlainlyStays w horizon slots) low (drop i doubtful) (length slots + 1)
  pub listed : AreListed (length slots) (λ n. planned w slots n (mark_at marks n)) acts (low + 1)

-- up to the next one that is listed
pub listing-next : (w : Window) (horizon : ℕ) (slots : List Slot) (doubtful : List ℕ) (marks : List PruneVerdict) (acts : List (ℕ × Action)) (i : ℕ)
    → ((n : ℕ) → IsVerdict w horizon slots n (mark_at marks n)) → (l : IsListing w horizon slots doubtful marks acts i) → i < length doubtful
    → IsNext w horizon slots doubtful l.low i × AreListed (length slots) (λ n. planned w slots n (mark_at marks n)) acts (get_or doubtful i 0)
listing-next w horizon slots doubtful marks acts i marked l within =
    let x = next-listed w horizon slots doubtful l.low i within l.left in
    let over = x.over in (
      x,
      listed-jump (length slots) _ acts (l.low + 1) (get_or doubtful i 0) l.listed (omega arith)
          (λ n from lt. stays-planned w horizon slots n (mark_at marks n) (x.between n (omega arith) lt) (marked n)),
    )

pub listing-skip : (w : Window) (horizon : ℕ) (slots : List Slot) (doubtful : List ℕ) (marks : List PruneVerdict) (acts : List (ℕ × Action)) (i : ℕ)
    → ((n : ℕ) → IsVerdict w horizon slots n (mark_at marks n)) → IsListing w horizon slots doubtful marks acts i → i < length doubtful
    → None ≡ planned w slots (get_or doubtful i 0) (mark_at marks (get_or doubtful i 0)) → IsListing w horizon slots doubtful marks acts (i + 1)
listing-skip w horizon slots doubtful marks acts i marked l within e =
    let x = listing-next w horizon slots doubtful marks acts i marked l within in
    record { low = get_or doubtful i 0; within = x.0.within; left = x.0.left; listed = listed-skip (length slots) _ acts (get_or doubtful i 0) x.1 e }

pub listing-push : (w : Window) (horizon : ℕ) (slots : List Slot) (doubtful : List ℕ) (marks : List PruneVerdict) (acts : List (ℕ × Action)) (i : ℕ) (a : Action) → length slots ≤ 291
    → ((n : ℕ) → IsVerdict w horizon slots n (mark_at marks n)) → IsListing w horizon slots doubtful marks acts i → i < length doubtful
    → Some a ≡ planned w slots (get_or doubtful i 0) (mark_at marks (get_or doubtful i 0)) → IsListing w horizon slots doubtful marks (acts ++ (get_or doubtful i 0, a) ∷ []) (i + 1)
listing-push w horizon slots doubtful marks acts i a few marked l within e =
    let n = get_or doubtful i 0 in
    let x = listing-next w horizon slots doubtful marks acts i marked l within in
    let over = x.0.over in
    let target = does-has_target w horizon slots n _ a (marked-does w horizon slots n (mark_at marks n) few (marked n)) (sym e) in
    record { low = n; within = x.0.within; left = x.0.left; listed = listed-push (length slots) _ acts n a x.1 (omega arith) x.0.within target e }

pub listing-plan : (w : Window) (horizon : ℕ) (slots : List Slot) (doubtful : List ℕ) (marks : List PruneVerdict) (acts : List (ℕ × Action)) (i : ℕ) → length slots ≤ 291
    → ((n : ℕ) → IsVerdict w horizon slots n (mark_at marks n)) → IsListing w horizon slots doubtful marks acts i → drop i doubtful ≡ [] → IsPlan w horizon slots acts
listing-plan w horizon slots doubtful marks acts i few marked l none = record {
  in_order = l.listed.in_order;
  exact = λ n there.
      let gap : ListsAllBut (PlainlyStays w horizon slots) l.low [] (length slots + 1) =
      subst (λ xs. ListsAllBut (PlainlyStays w horizon slots) l.low xs (length slots + 1)) none l.left in
      let high = there.1 in
      let low_is = l.within in
      let all = listed-jump (length slots) _ acts (l.low + 1) (length slots + 1) l.listed (omega arith)
      (λ k from lt. stays-planned w horizon slots k (mark_at marks k) (gap k (omega arith) lt) (marked k)) in
      subst (PrunesSlot w horizon slots n) (sym (all.each n there.0 (omega arith))) (marked-does w horizon slots n (mark_at marks n) few (marked n));
}

pub plan-pruned : (w : Window) (horizon : ℕ) (old new : PageView) → IsPrunedPage w horizon old new → IsPruned w horizon old.slots new.slots
plan-pruned w horizon old new p = record {
  count = ap (λ (q : PageView). length q.slots) p.is ∙ applied-count p.actions old;
  each = λ n there. record {
    answer = action_of p.actions n;
    does = p.plan.exact n there;
    is = ap (λ (q : PageView). slot_at q.slots n) p.is ∙ applied-slot 0 p.actions old p.plan.in_order n;
  };
}
