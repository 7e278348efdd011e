-- A run of steps and replies is a run of the history.
use Rattle.std.proofs.Common.{◌≡◌, ℕ, suc, ◌<◌, ◌≤◌, length, arith, List, [], ◌∷◌, Option, Some, None, Bool, true, false, refl, sym, ap, ◌∙◌, subst}
use Rattle.std.specs.Prelude.{if◌then◌else◌}
use Rattle.std.proofs.lemmas.Option.{none-some, same_Some}
use Rattle.history.specs.World.{World, OpenSession, beginning, MayIndex, IsBlocked, ClosesRing}
use Rattle.history.specs.Moves.{free_to_scan, with_made_index, with_index_on, with_vacuum, stepped, change, as_failed, blocked_by}
use Rattle.history.specs.Events.{Happens, passes, begins, begins_by_statement, conflicts, waits, deadlocks, saves, rolls_back_to, releases, commits, aborts, opens_index, opens_heap, opens_keys, takes, takes_keys, closes, StepsReach, stays, goes_on, begins_vacuum, ends_vacuum}
use Rattle.history.specs.Events as events
use Rattle.history.proofs.HistoryLemmas.{at_other}
use Rattle.history.proofs.RunLemmas.{Lawful-beginning, Lawful-run, indexes-step, vacuum-step, makes_on}
use Rattle.history.proofs.WrittenLemmas.{written-run, written-beginning}
use Rattle.calls.specs.declared.step.Step.{Step}
use Rattle.calls.specs.declared.step.Step.TheVariants as step
use Rattle.calls.specs.declared.reply.Reply.{Reply}
use Rattle.calls.specs.declared.reply.Reply.TheVariants as reply
use Rattle.calls.specs.declared.reply.Refusal.{Refusal}
use Rattle.calls.specs.declared.reply.Refusal.TheVariants as refusal
use Rattle.calls.specs.Words.{row_of}
use Rattle.calls.specs.Writes.{WriteStep, inserts, updates, deletes, key_of}
use Rattle.calls.specs.Steps.{session_of}
use Rattle.refinement.specs.Allowed.{savepoints, by_its_session, Allows, AllowsHindered, after_refused_write, next, AllowsReply, after_reply, IsRun, after, IsLawful}

refused_happens : (w : World) (s : ℕ) (write : WriteStep) (r : Refusal) → AllowsHindered w s r write → Happens w s (after_refused_write w s r)
refused_happens w s write refusal.Conflict allows = conflicts (key_of write) allows.0 allows.1 allows.3
refused_happens w s write _ allows = passes

-- how many levels a session with savepoints has

few_levels : (m : OpenSession) → savepoints m < 32 → length m.levels ≤ 32
few_levels m few = omega arith

several_levels : (m : OpenSession) → 0 < savepoints m → 1 < length m.levels
several_levels m some = omega arith

-- the step may begin or end a vacuum
abbrev TurnsVacuum : Step → Type 0
TurnsVacuum (step.VacuumBegin mode) = Unit {0}
TurnsVacuum step.VacuumStep = Unit {0}
TurnsVacuum step.VacuumCancel = Unit {0}
TurnsVacuum step = ⊥

-- what comes of a step: a session has taken one, or an index was made if it was not there, or a vacuum has begun or ended, or all is as
-- it was
data LeadsTo (w : World) (taken : Step) : World → Type 0 where
  stays_so : LeadsTo w taken w
  by_session : {after : World} (s : ℕ) → Happens w s after → LeadsTo w taken after
  by_making : (c : ℕ) → taken ≡ step.CreateIndex c → MayIndex w c → LeadsTo w taken (with_index_on w c)
  by_beginning : TurnsVacuum taken → w.has_vacuum ≡ false → LeadsTo w taken (with_vacuum true w)
  by_ending : TurnsVacuum taken → w.has_vacuum ≡ true → LeadsTo w taken (with_vacuum false w)

passes_on : (w : World) (step : Step) (s : Option ℕ) → LeadsTo w step (by_its_session w (stepped w) s)
passes_on w step None = stays_so
passes_on w step (Some s) = by_session s passes

-- each step that is allowed leads on as a step of the history does; where `next` has no case of its own, the session only goes on
leads_on : (w : World) (step : Step) (reply : Reply) → Allows w step reply → LeadsTo w step (next w step reply)
leads_on w (step.Begin s) reply.Done allows = by_session s (begins allows.0 allows.1)
leads_on w (step.BeginReadCommitted s) reply.Done allows = by_session s (begins_by_statement allows.0 allows.1)
leads_on w (step.Insert s row) reply.Done allows = by_session s (events.inserts (row_of row) allows.0 allows.2 allows.1.1)
leads_on w (step.Insert s row) (reply.Refused r) allows = by_session s (refused_happens w s (inserts row) r allows)
leads_on w (step.Update s row) reply.Done allows = by_session s (events.updates (row_of row) allows.0 allows.2 allows.1.1)
leads_on w (step.Update s row) (reply.Refused r) allows = by_session s (refused_happens w s (updates row) r allows)
leads_on w (step.Delete s k) reply.Done allows = by_session s (events.deletes k allows.0 allows.2 allows.1)
leads_on w (step.Delete s k) (reply.Refused r) allows = by_session s (refused_happens w s (deletes k) r allows)
leads_on w (step.Savepoint s) reply.Done allows = by_session s (saves allows.0 allows.1 (few_levels allows.0 allows.2))
leads_on w (step.RollbackTo s) reply.Done allows = by_session s (rolls_back_to allows.0 allows.1 allows.2 (several_levels allows.0 allows.3))
leads_on w (step.Release s) reply.Done allows = by_session s (releases allows.0 allows.1 (several_levels allows.0 allows.2))
leads_on w (step.Commit s) reply.Committed allows = by_session s (commits allows.0 allows.1)
leads_on w (step.Commit s) reply.RolledBack allows = by_session s (aborts allows.0 allows.1)
leads_on w (step.Abort s) reply.RolledBack allows = by_session s (aborts allows.0 allows.1)
leads_on w (step.OpenIndex s index low high) reply.Done allows = by_session s (opens_index index low high allows.0 allows.1 allows.2 allows.3)
leads_on w (step.OpenHeap s) reply.Done allows = by_session s (opens_heap allows.0 allows.1)
leads_on w (step.OpenKeys s low high) reply.Done allows = by_session s (opens_keys low high allows.0 allows.1 allows.2)
leads_on w (step.Next s n) (reply.Rows rows) allows = by_session s (takes n rows.items allows.0 allows.1 allows.2 allows.3 allows.4)
leads_on w (step.Next s n) (reply.Keys keys) allows = by_session s (takes_keys n keys.items allows.0 allows.1 allows.2 allows.3 allows.4)
leads_on w (step.Close s) reply.Done allows = by_session s (closes allows.0 allows.1 allows.2)
leads_on w (step.VacuumBegin mode) reply.Done allows = by_beginning tt allows
leads_on w step.VacuumStep (reply.Ended first) allows = by_ending tt allows
leads_on w step.VacuumCancel reply.Done allows = by_ending tt allows
leads_on w (step.CreateIndex c) reply.Done allows = by_making c refl allows.0
leads_on w step reply allows = passes_on w step (session_of step)

reached : (from w : World) (step : Step) {after : World} → StepsReach from w → LeadsTo w step after → StepsReach from after
reached from w step run stays_so = run
reached from w step run (by_making c is may) = makes_on from w c run may
reached from w step run (by_beginning turns none) = begins_vacuum w run none
reached from w step run (by_ending turns runs) = ends_vacuum w run runs
reached from w step run (by_session {after} s happens) = goes_on w after s run happens

-- what Busy tells: another open session holds the key that the step would write
pub record Blocked (w : World) (step : Step) (o : ℕ) : Type 0 where
  pub session : ℕ
  pub of : session_of step ≡ Some session
  pub key : ℕ
  pub model : OpenSession
  pub blocked : IsBlocked w session key o model

blocked_by_write : (w : World) (step : Step) (s o : ℕ) (write : WriteStep) → session_of step ≡ Some s → AllowsHindered w s (refusal.Busy o) write → Blocked w step o
blocked_by_write w step s o write of allows = record { session = s; of = of; key = key_of write; model = allows.0; blocked = allows.2 }

pub blocked_of : (w : World) (step : Step) (o : ℕ) → Allows w step (reply.Refused (refusal.Busy o)) → Blocked w step o
blocked_of w (step.Insert s row) o allows = blocked_by_write w (step.Insert s row) s o (inserts row) refl allows
blocked_of w (step.Update s row) o allows = blocked_by_write w (step.Update s row) s o (updates row) refl allows
blocked_of w (step.Delete s k) o allows = blocked_by_write w (step.Delete s k) s o (deletes k) refl allows
blocked_of w _ o allows = absurd allows

-- a session is told that it waits, or that it would close a ring
leads_to_wait : (w : World) (step : Step) (o : ℕ) → AllowsReply w step (reply.Refused (refusal.Busy o)) → LeadsTo w step (by_its_session w (λ s. blocked_by w s o) (session_of step))
leads_to_wait w step o allows =
    let b = blocked_of w step o allows.0 in
    subst (λ t. LeadsTo w step (by_its_session w (λ s. blocked_by w s o) t)) (sym b.of) (by_session b.session (waits b.key o b.model b.blocked (allows.1 b.session b.of)))

leads_to_deadlock : (w : World) (step : Step) → AllowsReply w step (reply.Refused refusal.Deadlock) → LeadsTo w step (by_its_session w (λ s. change w s as_failed) (session_of step))
leads_to_deadlock w step allows =
    let b = blocked_of w step allows.1 allows.3 in
    let same : allows.0 ≡ b.session = same_Some allows.0 b.session (sym allows.2 ∙ b.of) in
    subst (λ t. LeadsTo w step (by_its_session w (λ s. change w s as_failed) t)) (sym b.of)
    (by_session b.session (deadlocks b.key allows.1 b.model b.blocked (subst (λ s. ClosesRing w.waits_for s allows.1) same allows.4)))

leads_on_reply : (w : World) (step : Step) (reply : Reply) → AllowsReply w step reply → LeadsTo w step (after_reply w step reply)
leads_on_reply w step (reply.Refused (refusal.Busy o)) allows = leads_to_wait w step o allows
leads_on_reply w step (reply.Refused refusal.Deadlock) allows = leads_to_deadlock w step allows
leads_on_reply w step reply allows = leads_on w step reply allows

pub leads : (from w : World) (steps : List Step) (replies : List Reply) → StepsReach from w → IsRun w steps replies → StepsReach from (after w steps replies)
leads from w [] [] run ok = run
leads from w [] (r ∷ rs) run ok = absurd ok
leads from w (s ∷ ss) [] run ok = absurd ok
leads from w (s ∷ ss) (r ∷ rs) run ok = leads from (after_reply w s r) ss rs (reached from w s run (leads_on_reply w s r ok.0)) ok.1

-- the same indexes are there, and the same are too new for each session that is open
pub record KeepsScans (w after : World) : Type 0 where
  pub had : after.has_index ≡ w.has_index
  pub scans : (s : ℕ) (m : OpenSession) → w.session s ≡ Some m → (index : ℕ) → after.too_new s index ≡ w.too_new s index

pub unmade : {w after : World} → after.has_index ≡ w.has_index → after.too_new ≡ w.too_new → KeepsScans w after
unmade had same = record { had = had; scans = λ s m at index. ap (λ (marks : ℕ → ℕ → Bool). marks s index) same }

-- a session that begins may scan each index, and nothing is told of others
scans-begun : (w : World) (s t : ℕ) (m : OpenSession) → w.session s ≡ None → w.session t ≡ Some m → (index : ℕ) → (free_to_scan w s).too_new t index ≡ w.too_new t index
scans-begun w s t m idle at index = at_other t s false (w.too_new t index) (λ same. none-some m (sym idle ∙ (ap w.session (sym same) ∙ at)))

scans-kept : {w : World} {s : ℕ} {after : World} → Happens w s after → (t : ℕ) (m : OpenSession) → w.session t ≡ Some m → (index : ℕ) → after.too_new t index ≡ w.too_new t index
scans-kept {w} {s} (begins within idle) t m at index = scans-begun w s t m idle at index
scans-kept {w} {s} (begins_by_statement within idle) t m at index = scans-begun w s t m idle at index
scans-kept passes t m at index = refl
scans-kept {w} _ t m at index = refl

-- no other step makes an index
abbrev pub MakesNoIndex : Step → Type 0
MakesNoIndex (step.CreateIndex c) = ⊥
MakesNoIndex step = Unit {0}

kept_scans : (w : World) (step : Step) {after : World} → MakesNoIndex step → LeadsTo w step after → KeepsScans w after
kept_scans w step none stays_so = record { had = refl; scans = λ s m at index. refl }
kept_scans w step none (by_session s happens) = record { had = indexes-step happens; scans = scans-kept happens }
kept_scans w step none (by_making c is may) = absurd (subst MakesNoIndex is none)
kept_scans w step none (by_beginning turns idle) = record { had = refl; scans = λ s m at index. refl }
kept_scans w step none (by_ending turns runs) = record { had = refl; scans = λ s m at index. refl }

-- so it is after each of these
pub same_indexes : (w : World) (step : Step) (reply : Reply) → MakesNoIndex step → Allows w step reply → KeepsScans w (next w step reply)
same_indexes w step reply none allows = kept_scans w step none (leads_on w step reply allows)

-- no other step begins or ends a vacuum
abbrev pub IsNoVacuumStep : Step → Type 0
IsNoVacuumStep (step.VacuumBegin mode) = ⊥
IsNoVacuumStep step.VacuumStep = ⊥
IsNoVacuumStep step.VacuumCancel = ⊥
IsNoVacuumStep step = Unit {0}

not_turned : (step : Step) → IsNoVacuumStep step → TurnsVacuum step → ⊥
not_turned (step.VacuumBegin mode) none turns = none
not_turned step.VacuumStep none turns = none
not_turned step.VacuumCancel none turns = none
not_turned _ none turns = turns

kept_vacuum : (w : World) (step : Step) {after : World} → IsNoVacuumStep step → LeadsTo w step after → after.has_vacuum ≡ w.has_vacuum
kept_vacuum w step none stays_so = refl
kept_vacuum w step none (by_session s happens) = vacuum-step happens
kept_vacuum w step none (by_making c is may) = by (w.has_index (suc c))
  where
    by : (has : Bool) → (if has then w else with_made_index w (suc c)).has_vacuum ≡ w.has_vacuum
    by true = refl
    by false = refl
kept_vacuum w step none (by_beginning turns idle) = absurd (not_turned step none turns)
kept_vacuum w step none (by_ending turns runs) = absurd (not_turned step none turns)

pub same_vacuum : (w : World) (step : Step) (reply : Reply) → IsNoVacuumStep step → Allows w step reply → (next w step reply).has_vacuum ≡ w.has_vacuum
same_vacuum w step reply none allows = kept_vacuum w step none (leads_on w step reply allows)

lawful_where : (columns : List Bool) (w : World) → StepsReach (beginning columns) w → IsLawful w
lawful_where columns w reach = let h = Lawful-run reach (Lawful-beginning columns) in record {
  first_committer_wins = h.first;
  held_in_time = λ s m write at among. h.in_time s m write at among;
  held_once = h.once;
  holders_have_written = written-run reach (written-beginning columns);
}

pub lawful : (columns : List Bool) (steps : List Step) (replies : List Reply) → IsRun (beginning columns) steps replies → IsLawful (after (beginning columns) steps replies)
lawful columns steps replies run = lawful_where columns (after (beginning columns) steps replies) (leads (beginning columns) (beginning columns) steps replies stays run)
