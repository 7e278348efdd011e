-- Who waits after a step, in the engine and in the world.
use Rattle.std.proofs.Common.{◌≡◌, ℕ, suc, List, [], ◌∷◌, length, map, set, Option, Some, None, Bool, true, false, not, cond, nat_eq, refl, sym, ap, ◌∙◌}
use Rattle.std.proofs.Math.ListN.{length-set}
use Rattle.history.specs.World.{World}
use Rattle.history.specs.Cursors.{kept_where}
use Rattle.history.specs.Moves.{stepped, awaited_no_more, with_made_index}
use Rattle.calls.specs.declared.step.Step.{Step}
use Rattle.calls.specs.declared.step.Step.TheVariants as step
use Rattle.calls.specs.declared.reply.Reply.{Reply}
use Rattle.calls.specs.declared.reply.Reply.TheVariants as reply
use Rattle.calls.specs.declared.reply.Refusal.{Refusal}
use Rattle.calls.specs.declared.reply.Refusal.TheVariants as refusal
use Rattle.calls.specs.Steps.{session_of}
use Rattle.refinement.specs.Allowed.{Allows, by_its_session, after_refused_write, next}
use Rattle.waits.specs.View.{wait_in}
use Rattle.waits.proofs.WaitLemmas.{wait_in-ended, wait_in-kept}
use Rattle.session_core.specs.State.{noted_wait, woken, given_back}

-- no list of waits changes its length
pub length-ended : (s : Option ℕ) (waits : List (Option ℕ)) → length (noted_wait s None waits) ≡ length waits
length-ended None waits = refl
length-ended (Some s) waits = length-set waits s None

length-map : {A B : Type 0} (f : A → B) (xs : List A) → length (map f xs) ≡ length xs
length-map f [] = refl
length-map f (x ∷ xs) = ap suc (length-map f xs)

length-given_back : (step : Step) (waits : List (Option ℕ)) → length (given_back step waits) ≡ length waits
length-given_back (step.RollbackTo s) waits = length-map (kept_where (λ o. not (nat_eq o s))) waits
length-given_back (step.Commit s) waits = length-map (kept_where (λ o. not (nat_eq o s))) waits
length-given_back (step.Abort s) waits = length-map (kept_where (λ o. not (nat_eq o s))) waits
length-given_back step waits = refl

-- the keys of a level, or of all, are given back where the step is done
abbrev pub freed : Step → Reply → List (Option ℕ) → List (Option ℕ)
freed step (reply.Refused r) waits = waits
freed step reply waits = given_back step waits

pub length-freed : (step : Step) (reply : Reply) (waits : List (Option ℕ)) → length (freed step reply waits) ≡ length waits
length-freed step (reply.Refused r) waits = refl
length-freed step reply waits = length-given_back step waits

-- an index is made, or is there
index-waits : (w : World) (index : ℕ) (b : Bool) (t : ℕ) → (cond b w (with_made_index w index)).waits_for t ≡ w.waits_for t
index-waits w index true t = refl
index-waits w index false t = refl

-- a step that gives back no key leaves the waits, whatever the reply
freed-as : (step : Step) (reply : Reply) (waits : List (Option ℕ)) → ((xs : List (Option ℕ)) → given_back step xs ≡ xs) → freed step reply waits ≡ waits
freed-as step (reply.Refused r) waits none = refl
freed-as step reply waits none = none waits

module _ (waits : List (Option ℕ)) (w : World) (same : (t : ℕ) → wait_in waits t ≡ w.waits_for t) where
  pub ended-stepped : (s t : ℕ) → wait_in (set waits s None) t ≡ (stepped w s).waits_for t
  ended-stepped s t = wait_in-ended waits s t ∙ ap (cond (nat_eq t s) None) (same t)

  passed-ended : (s : Option ℕ) (t : ℕ) → wait_in (noted_wait s None waits) t ≡ (by_its_session w (stepped w) s).waits_for t
  passed-ended None t = same t
  passed-ended (Some s) t = ended-stepped s t

  woken-awaited : (s t : ℕ) → wait_in (woken s (set waits s None)) t ≡ (awaited_no_more (stepped w s) s).waits_for t
  woken-awaited s t = wait_in-kept (λ o. not (nat_eq o s)) (set waits s None) t ∙ ap (kept_where (λ o. not (nat_eq o s))) (ended-stepped s t)

  refused-write : (s : ℕ) (r : Refusal) (t : ℕ) → wait_in (set waits s None) t ≡ (after_refused_write w s r).waits_for t
  refused-write s refusal.Conflict t = ended-stepped s t
  refused-write s _ t = ended-stepped s t

  -- where the reply is not Busy, the world has the same waits after it
  pub next-waits : (step : Step) (reply : Reply) → Allows w step reply → (t : ℕ) → wait_in (freed step reply (noted_wait (session_of step) None waits)) t ≡ (next w step reply).waits_for t
  next-waits (step.Begin s) reply.Done allows t = ended-stepped s t
  next-waits (step.BeginReadCommitted s) reply.Done allows t = ended-stepped s t
  next-waits (step.Insert s row) reply.Done allows t = ended-stepped s t
  next-waits (step.Insert s row) (reply.Refused r) allows t = refused-write s r t
  next-waits (step.Update s row) reply.Done allows t = ended-stepped s t
  next-waits (step.Update s row) (reply.Refused r) allows t = refused-write s r t
  next-waits (step.Delete s k) reply.Done allows t = ended-stepped s t
  next-waits (step.Delete s k) (reply.Refused r) allows t = refused-write s r t
  next-waits (step.Savepoint s) reply.Done allows t = ended-stepped s t
  next-waits (step.RollbackTo s) reply.Done allows t = woken-awaited s t
  next-waits (step.RollbackTo s) (reply.Refused r) allows t = ended-stepped s t
  next-waits (step.RollbackTo s) _ allows t = absurd allows
  next-waits (step.Release s) reply.Done allows t = ended-stepped s t
  next-waits (step.Commit s) reply.Committed allows t = woken-awaited s t
  next-waits (step.Commit s) reply.RolledBack allows t = woken-awaited s t
  next-waits (step.Commit s) (reply.Refused r) allows t = ended-stepped s t
  next-waits (step.Commit s) _ allows t = absurd allows
  next-waits (step.Abort s) reply.RolledBack allows t = woken-awaited s t
  next-waits (step.Abort s) (reply.Refused r) allows t = ended-stepped s t
  next-waits (step.Abort s) _ allows t = absurd allows
  next-waits (step.OpenIndex s index low high) reply.Done allows t = ended-stepped s t
  next-waits (step.OpenHeap s) reply.Done allows t = ended-stepped s t
  next-waits (step.OpenKeys s low high) reply.Done allows t = ended-stepped s t
  next-waits (step.Next s n) (reply.Rows rows) allows t = ended-stepped s t
  next-waits (step.Next s n) (reply.Keys keys) allows t = ended-stepped s t
  next-waits (step.Close s) reply.Done allows t = ended-stepped s t
  next-waits (step.VacuumBegin mode) reply.Done allows t = same t
  next-waits step.VacuumStep (reply.Ended first) allows t = same t
  next-waits step.VacuumCancel reply.Done allows t = same t
  next-waits (step.CreateIndex c) reply.Done allows t = same t ∙ sym (index-waits w (suc c) (w.has_index (suc c)) t)
  next-waits step reply allows t = ap (λ xs. wait_in xs t) (freed-as step reply (noted_wait (session_of step) None waits) (λ xs. refl)) ∙ passed-ended (session_of step) t
