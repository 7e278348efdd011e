-- A session sets a savepoint, returns to its newest, or releases it: the reply is one that the history allows, and the
-- engine agrees with the next world.
use Rattle.std.proofs.Common.{◌≡◌, ℕ, suc, ◌<◌, List, [], ◌∷◌, length, Option, Some, None, false, sym, ap, ◌∙◌, subst, arith}
use Rattle.std.specs.Prelude.{IsSome, Contains}
use Rattle.commit_status.specs.declared.status.Status.{Status}
use Rattle.commit_status.specs.declared.status.Status.TheVariants.{Aborted}
use Rattle.snapshot.specs.Snap.{Snap}
use Rattle.history.specs.World.{World, world_sessions}
use Rattle.calls.specs.declared.step.Step.TheVariants as step
use Rattle.calls.specs.declared.reply.Reply.TheVariants as reply
use Rattle.calls.specs.declared.reply.Refusal.{Refusal}
use Rattle.calls.specs.declared.reply.Refusal.TheVariants as refusal
use Rattle.calls.specs.Bars.{BarsOpen, BarsFree}
use Rattle.calls.proofs.BarsLemmas.{of_open, of_free}
use Rattle.refinement.specs.Allowed.{savepoints, Allows}
use Rattle.refinement.specs.Heap.{SeenSession, Heap, seen_sessions}
use Rattle.refinement.specs.Changes.{FinishesIds}
use Rattle.refinement.specs.Agrees.{HeapAgrees}
use Rattle.refinement.specs.Finds.{HeapFollows}
use Rattle.refinement.proofs.CursorsLemmas.{some_model}
use Rattle.refinement.proofs.Itself.{levels_count}
use Rattle.refinement.proofs.Isolations.{SameSights}
use Rattle.refinement.proofs.Steps.{OnlyIs}
use Rattle.refinement.proofs.Savepoints.{Agrees-save, Agrees-roll_back, Agrees-release}
use Rattle.refinement.proofs.Follows.{allows_closed, allows_barred, Agrees-stepped}
use Rattle.refinement.proofs.Hindrances.{writer}

-- the model's session has as many savepoints
as_many : (h : Heap) (w : World) (s : ℕ) (e : SeenSession) (at : h.session s ≡ Some e) (agrees : HeapAgrees h w) → savepoints (agrees.opened s e at).0 ≡ length e.saved
as_many h w s e at agrees = let count = levels_count (agrees.opened s e at).2 in omega arith

-- one that has none
none_saved : (h : Heap) (w : World) (s : ℕ) (e : SeenSession) (at : h.session s ≡ Some e) (agrees : HeapAgrees h w) → e.saved ≡ [] → savepoints (agrees.opened s e at).0 ≡ 0
none_saved h w s e at agrees none = as_many h w s e at agrees ∙ ap (λ saved. length saved) none

-- one that has a newest
some_saved : (h : Heap) (w : World) (s : ℕ) (e : SeenSession) (before : List ℕ) (older : List (List ℕ)) (at : h.session s ≡ Some e) (agrees : HeapAgrees h w) → e.saved ≡ before ∷ older → 0 < savepoints (agrees.opened s e at).0
some_saved h w s e before older at agrees is =
    let count : savepoints (agrees.opened s e at).0 ≡ suc (length older) = as_many h w s e at agrees ∙ ap (λ saved. length saved) is in omega arith

-- one that may set one more
few_saved : (h : Heap) (w : World) (s : ℕ) (e : SeenSession) (at : h.session s ≡ Some e) (agrees : HeapAgrees h w) → length e.saved < 32 → savepoints (agrees.opened s e at).0 < 32
few_saved h w s e at agrees room = subst (λ n. n < 32) (sym (as_many h w s e at agrees)) room

-- Savepoint.

pub Follows-savepoint : (h : Heap) (s : ℕ) (e : SeenSession) (session' : ℕ → Option SeenSession) → OnlyIs h.session session' s (Some (record e { saved = e.own ∷ e.saved }))
    → h.session s ≡ Some e → e.failed ≡ false → e.cursor ≡ None → length e.saved < 32 → HeapFollows h (step.Savepoint s) reply.Done (record h { session = session' })
Follows-savepoint h s e session' only at sound bare room w agrees =
    (((agrees.opened s e at).0, writer h w s e at agrees sound bare, few_saved h w s e at agrees room), Agrees-save h w s e session' only at agrees)

pub Follows-too_deep : (h : Heap) (s : ℕ) (e : SeenSession) → h.session s ≡ Some e → e.failed ≡ false → e.cursor ≡ None → length e.saved ≡ 32 → HeapFollows h (step.Savepoint s) (reply.Refused refusal.TooDeep) h
Follows-too_deep h s e at sound bare full w agrees =
    (((agrees.opened s e at).0, writer h w s e at agrees sound bare, (let many : savepoints (agrees.opened s e at).0 ≡ 32 = as_many h w s e at agrees ∙ full in omega (arith, many))), Agrees-stepped h w s agrees)

pub Follows-savepoint_no_memory : (h : Heap) (s : ℕ) (e : SeenSession) → h.session s ≡ Some e → e.failed ≡ false → e.cursor ≡ None → length e.saved < 32 → HeapFollows h (step.Savepoint s) (reply.Refused refusal.NoMemory) h
Follows-savepoint_no_memory h s e at sound bare room w agrees =
    (((agrees.opened s e at).0, writer h w s e at agrees sound bare, few_saved h w s e at agrees room), Agrees-stepped h w s agrees)

pub Follows-barred_savepoint : (h : Heap) (s : ℕ) (r : Refusal) → BarsFree (seen_sessions h) s r → HeapFollows h (step.Savepoint s) (reply.Refused r) h
Follows-barred_savepoint h s r is w agrees =
    (of_free (world_sessions w) s (λ r. Allows w (step.Savepoint s) (reply.Refused r)) (λ is. is) (λ is. is) (λ is. is) (λ is. is) r (allows_barred h w s r agrees is), Agrees-stepped h w s agrees)

-- RollbackTo: the session may have failed.

pub Follows-roll_back_to : (h : Heap) (s : ℕ) (e : SeenSession) (before : List ℕ) (older : List (List ℕ)) (status' : ℕ → Option Status) (sees' : Snap → ℕ → Type 0) (session' : ℕ → Option SeenSession)
    → OnlyIs h.session session' s (Some (record e { own = before; failed = false })) → h.session s ≡ Some e → e.cursor ≡ None → e.saved ≡ before ∷ older
    → ((w : World) → HeapAgrees h w → FinishesIds h.status status' (λ x. Contains e.own x × (¬ Contains before x)) Aborted) → SameSights h sees'
    → HeapFollows h (step.RollbackTo s) reply.Done (record h { status = status'; sees = sees'; session = session' })
Follows-roll_back_to h s e before older status' sees' session' only at bare is finishes same w agrees = let open_ = agrees.opened s e at in (
  (open_.0, open_.1, open_.2.cursor.closed bare, some_saved h w s e before older at agrees is),
  Agrees-roll_back h w s e before older status' sees' session' only at is bare (finishes w agrees) same agrees,
)

pub Follows-nowhere_to_return : (h : Heap) (s : ℕ) (e : SeenSession) → h.session s ≡ Some e → e.cursor ≡ None → e.saved ≡ [] → HeapFollows h (step.RollbackTo s) (reply.Refused refusal.NoSavepoint) h
Follows-nowhere_to_return h s e at bare none w agrees = let open_ = agrees.opened s e at in
    ((open_.0, open_.1, open_.2.cursor.closed bare, none_saved h w s e at agrees none), Agrees-stepped h w s agrees)

pub Follows-closed_roll_back_to : (h : Heap) (s : ℕ) (r : Refusal) → BarsOpen (seen_sessions h) s r → HeapFollows h (step.RollbackTo s) (reply.Refused r) h
Follows-closed_roll_back_to h s r is w agrees =
    (of_open (world_sessions w) s (λ r. Allows w (step.RollbackTo s) (reply.Refused r)) (λ is. is) (λ is. is) r (allows_closed h w s r agrees is), Agrees-stepped h w s agrees)

pub Follows-barred_roll_back_to : (h : Heap) (s : ℕ) (e : SeenSession) → h.session s ≡ Some e → IsSome e.cursor → HeapFollows h (step.RollbackTo s) (reply.Refused refusal.CursorOpen) h
Follows-barred_roll_back_to h s e at some w agrees = let open_ = agrees.opened s e at in
    ((open_.0, open_.1, some_model some open_.2.cursor), Agrees-stepped h w s agrees)

-- Release.

pub Follows-release : (h : Heap) (s : ℕ) (e : SeenSession) (before : List ℕ) (older : List (List ℕ)) (session' : ℕ → Option SeenSession) → OnlyIs h.session session' s (Some (record e { saved = older }))
    → h.session s ≡ Some e → e.failed ≡ false → e.cursor ≡ None → e.saved ≡ before ∷ older → HeapFollows h (step.Release s) reply.Done (record h { session = session' })
Follows-release h s e before older session' only at sound bare is w agrees =
    (((agrees.opened s e at).0, writer h w s e at agrees sound bare, some_saved h w s e before older at agrees is), Agrees-release h w s e before older session' only at is agrees)

pub Follows-nothing_to_release : (h : Heap) (s : ℕ) (e : SeenSession) → h.session s ≡ Some e → e.failed ≡ false → e.cursor ≡ None → e.saved ≡ [] → HeapFollows h (step.Release s) (reply.Refused refusal.NoSavepoint) h
Follows-nothing_to_release h s e at sound bare none w agrees =
    (((agrees.opened s e at).0, writer h w s e at agrees sound bare, none_saved h w s e at agrees none), Agrees-stepped h w s agrees)

pub Follows-barred_release : (h : Heap) (s : ℕ) (r : Refusal) → BarsFree (seen_sessions h) s r → HeapFollows h (step.Release s) (reply.Refused r) h
Follows-barred_release h s r is w agrees =
    (of_free (world_sessions w) s (λ r. Allows w (step.Release s) (reply.Refused r)) (λ is. is) (λ is. is) (λ is. is) (λ is. is) r (allows_barred h w s r agrees is), Agrees-stepped h w s agrees)
