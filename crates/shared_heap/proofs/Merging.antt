-- A merge goes on by one entry.
use Rattle.std.proofs.Common.{◌≡◌, ◌≢◌, ℕ, ◌+◌, ◌<◌, Bool, true, false, not, ◌&&◌, List, [], ◌∷◌, ◌++◌, length, drop, set, get_or, refl, sym, ap, subst, ◌∙◌, eqb, zero, suc, add-one, get_or-set_other, get_or-set_same}
use Rattle.std.specs.Prelude.{if◌then◌else◌}
use Rattle.std.proofs.lemmas.Bool.Decides.{Decides-eqb}
use Rattle.calls.specs.declared.step.Step.{Step}
use Rattle.calls.specs.declared.reply.Reply.{Reply}
use Rattle.calls.specs.declared.reply.Reply.TheVariants as reply
use Rattle.shared_heap.specs.Replies.{IsSame, is_busy_reply}
use Rattle.shared_heap.specs.declared.line.WorkerLine.{WorkerLine}
use Rattle.shared_heap.specs.Merge.{is_done_by, left_after, with_list, Merges, list_at, IsMerge}
use Rattle.shared_heap.specs.Books.{Appends}
use Rattle.shared_heap.specs.Work.{WorkView, left_of, IsCarried, BeginsWith, AllDone}
use Rattle.shared_heap.proofs.Running.{IsBookOf-appends}
use Rattle.std.proofs.Math.ListN.{length-set}

pub Merges-more : (left : ℕ → List WorkerLine) (workers : List ℕ) (entries : List (Step × Reply)) (mid : ℕ → List WorkerLine) (worker : ℕ) (line : WorkerLine) (more : List WorkerLine) (step : Step) (reply : Reply) (last : ℕ → List WorkerLine)
    → Merges left workers entries mid → mid worker ≡ line ∷ more → step ≡ line.step → ((v : ℕ) → with_list mid worker (left_after line more reply) v ≡ last v)
    → Merges left (workers ++ worker ∷ []) (entries ++ (step, reply) ∷ []) last
Merges-more left [] [] mid worker line more step reply last so_far next is goes =
    (line, more, so_far worker ∙ next, is, λ v. ap (λ (lines : List WorkerLine). if eqb v worker then left_after line more reply else lines) (so_far v) ∙ goes v)
Merges-more left [] (e ∷ es) mid worker line more step reply last so_far next is goes = absurd so_far
Merges-more left (w ∷ ws) [] mid worker line more step reply last so_far next is goes = absurd so_far
Merges-more left (w ∷ ws) (e ∷ es) mid worker line more step reply last so_far next is goes =
    (so_far.0, so_far.1, so_far.2, so_far.3, Merges-more (with_list left w (left_after so_far.0 so_far.1 e.1)) ws es mid worker line more step reply last so_far.4 next is goes)

-- nothing changes for a list whose first line waits
pub left-waits : (left : ℕ → List WorkerLine) (worker : ℕ) (line : WorkerLine) (more : List WorkerLine) (reply : Reply) → is_done_by line reply ≡ false → left worker ≡ line ∷ more
    → (v : ℕ) → with_list left worker (left_after line more reply) v ≡ left v
left-waits left worker line more reply waits next v = go (eqb v worker) (Decides-eqb v worker)
  where
    go : (b : Bool) → ((b ≡ true → v ≡ worker) × (v ≡ worker → b ≡ true)) → (if b then left_after line more reply else left v) ≡ left v
    go true d = rw waits (sym next ∙ ap left (sym (d.0 refl)))
    go false d = refl

rest : (n : ℕ) (lines : List WorkerLine) (line : WorkerLine) (more : List WorkerLine) → drop n lines ≡ line ∷ more → drop (suc n) lines ≡ more
rest zero [] line more next = absurd (cc next)
rest zero (x ∷ xs) line more next = cc
rest (suc n) [] line more next = absurd (cc next)
rest (suc n) (x ∷ xs) line more next = rest n xs line more next

rest-of : (n : ℕ) (lines : List WorkerLine) (line : WorkerLine) (more : List WorkerLine) → drop n lines ≡ line ∷ more → drop (n + 1) lines ≡ more
rest-of n lines line more next = rw add-one (rest n lines line more next)

-- one line more is done
pub left-done : (lists : List (List WorkerLine)) (done : List ℕ) (worker : ℕ) (line : WorkerLine) (more : List WorkerLine) (reply : Reply) → is_done_by line reply ≡ true → worker < length done
    → left_of lists done worker ≡ line ∷ more → (v : ℕ) → with_list (left_of lists done) worker (left_after line more reply) v ≡ left_of lists (set done worker (get_or done worker 0 + 1)) v
left-done lists done worker line more reply is within next v = go (eqb v worker) (Decides-eqb v worker)
  where
    go : (b : Bool) → ((b ≡ true → v ≡ worker) × (v ≡ worker → b ≡ true)) → (if b then left_after line more reply else left_of lists done v) ≡ left_of lists (set done worker (get_or done worker 0 + 1)) v
    go true d =
        let now : get_or (set done worker (get_or done worker 0 + 1)) worker 0 ≡ get_or done worker 0 + 1 = get_or-set_same done worker (get_or done worker 0 + 1) 0 within in
        rw is (sym (rest-of (get_or done worker 0) (list_at lists worker) line more next) ∙ ap (λ (n : ℕ). drop n (list_at lists worker)) (sym now)
        ∙ ap (left_of lists (set done worker (get_or done worker 0 + 1))) (sym (d.0 refl)))
    go false d =
        let other : v ≢ worker = λ e. absurd (cc (d.1 e)) in
        ap (λ (n : ℕ). drop n (list_at lists v)) (sym (get_or-set_other done worker v (get_or done worker 0 + 1) 0 other))

-- whether a reply is Busy, where it is the same
pub same-busy : (noted reply : Reply) → IsSame noted reply → is_busy_reply reply ≡ is_busy_reply noted
same-busy reply.Done reply same = ap is_busy_reply same
same-busy (reply.Found row) reply same = ap is_busy_reply same
same-busy reply.Committed reply same = ap is_busy_reply same
same-busy reply.RolledBack reply same = ap is_busy_reply same
same-busy reply.End reply same = ap is_busy_reply same
same-busy (reply.Worked piece) reply same = ap is_busy_reply same
same-busy (reply.Ended first) reply same = ap is_busy_reply same
same-busy (reply.Refused refusal) reply same = ap is_busy_reply same
same-busy (reply.Keys keys) (reply.Keys others) same = refl
same-busy (reply.Keys keys) _ same = ap is_busy_reply same
same-busy (reply.Rows rows) (reply.Rows others) same = refl
same-busy (reply.Rows rows) (reply.Keys keys) same = ap is_busy_reply same
same-busy (reply.Rows rows) reply.Done same = ap is_busy_reply same
same-busy (reply.Rows rows) (reply.Found row) same = ap is_busy_reply same
same-busy (reply.Rows rows) reply.Committed same = ap is_busy_reply same
same-busy (reply.Rows rows) reply.RolledBack same = ap is_busy_reply same
same-busy (reply.Rows rows) reply.End same = ap is_busy_reply same
same-busy (reply.Rows rows) (reply.Worked piece) same = ap is_busy_reply same
same-busy (reply.Rows rows) (reply.Ended first) same = ap is_busy_reply same
same-busy (reply.Rows rows) (reply.Refused refusal) same = ap is_busy_reply same

-- what an entry does to a line, said of the reply that stands in the journal
done-noted : (line : WorkerLine) (noted reply : Reply) → IsSame noted reply → is_done_by line noted ≡ is_done_by line reply
done-noted line noted reply same = ap (λ (b : Bool). not (line.wait && b)) (sym (same-busy noted reply same))

-- an entry of a worker, for its next line
pub record IsEntry (old new : WorkView) (worker : ℕ) (line : WorkerLine) (step : Step) (reply : Reply) : Type 0 where
  pub carried : IsCarried old
  pub appends : Appends old.book step reply new.book
  pub of_line : step ≡ line.step
  pub within : worker < length old.done
  pub next : BeginsWith (left_of old.lists old.done worker) line
  pub settings : new.settings ≡ old.settings
  pub lists : new.lists ≡ old.lists
  pub workers : new.workers ≡ old.workers ++ worker ∷ []

-- the journal still merges what is done, if that fits what the entry did
carries : (old new : WorkView) (worker : ℕ) (line : WorkerLine) (step : Step) (reply : Reply) (e : IsEntry old new worker line step reply) → length new.done ≡ length old.done
    → ((v : ℕ) → with_list (left_of old.lists old.done) worker (left_after line e.next.0 e.appends.noted) v ≡ left_of old.lists new.done v) → IsCarried new
carries old new worker line step reply e count goes =
    let merged : Merges (list_at old.lists) (old.workers ++ worker ∷ []) (old.book.journal ++ (step, e.appends.noted) ∷ []) (left_of old.lists new.done) =
    Merges-more (list_at old.lists) old.workers old.book.journal (left_of old.lists old.done) worker line e.next.0 step e.appends.noted (left_of old.lists new.done) e.carried.merges e.next.1 e.of_line goes in
    record {
      made = rw e.settings (IsBookOf-appends old.settings old.book new.book step reply e.carried.made e.appends);
      merges = rw (e.lists, e.workers, e.appends.journal) merged;
      counted = count ∙ e.carried.counted ∙ ap (λ (lists : List (List WorkerLine)). length lists) (sym e.lists);
    }

-- the line is done
pub carries-done : (old new : WorkView) (worker : ℕ) (line : WorkerLine) (step : Step) (reply : Reply) → IsEntry old new worker line step reply → is_done_by line reply ≡ true
    → new.done ≡ set old.done worker (get_or old.done worker 0 + 1) → IsCarried new
carries-done old new worker line step reply e is count =
    let noted = done-noted line e.appends.noted reply e.appends.same ∙ is in
    carries old new worker line step reply e (ap length count ∙ length-set old.done worker (get_or old.done worker 0 + 1))
    (λ v. left-done old.lists old.done worker line e.next.0 e.appends.noted noted e.within e.next.1 v ∙ ap (λ (done : List ℕ). left_of old.lists done v) (sym count))

-- or it is answered Busy, and is still to be done
pub carries-waits : (old new : WorkView) (worker : ℕ) (line : WorkerLine) (step : Step) (reply : Reply) → IsEntry old new worker line step reply → is_done_by line reply ≡ false
    → new.done ≡ old.done → IsCarried new
carries-waits old new worker line step reply e is count =
    let noted = done-noted line e.appends.noted reply e.appends.same ∙ is in
    carries old new worker line step reply e (ap length count)
    (λ v. left-waits (left_of old.lists old.done) worker line e.next.0 e.appends.noted noted e.next.1 v ∙ ap (λ (done : List ℕ). left_of old.lists done v) (sym count))

Merges-to : (left : ℕ → List WorkerLine) (workers : List ℕ) (entries : List (Step × Reply)) (mid last : ℕ → List WorkerLine) → Merges left workers entries mid → ((v : ℕ) → mid v ≡ last v) → Merges left workers entries last
Merges-to left [] [] mid last so_far same = λ v. so_far v ∙ same v
Merges-to left [] (e ∷ es) mid last so_far same = absurd so_far
Merges-to left (w ∷ ws) [] mid last so_far same = absurd so_far
Merges-to left (w ∷ ws) (e ∷ es) mid last so_far same =
    (so_far.0, so_far.1, so_far.2, so_far.3, Merges-to (with_list left w (left_after so_far.0 so_far.1 e.1)) ws es mid last so_far.4 same)

-- once all lines are done, the journal is a merge of the lists
pub Merges-done : (w : WorkView) (lists : List (List WorkerLine)) → IsCarried w → AllDone w → w.lists ≡ lists → IsMerge lists w.book.journal
Merges-done w lists carried all is = (
  w.workers,
  subst (λ (ls : List (List WorkerLine)). Merges (list_at ls) w.workers w.book.journal (λ v. [])) is
      (Merges-to (list_at w.lists) w.workers w.book.journal (left_of w.lists w.done) (λ v. []) carried.merges all),
)
