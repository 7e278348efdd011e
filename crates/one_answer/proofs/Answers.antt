-- The tests of each step. What is allowed is what they answer.
use Rattle.std.proofs.Common.{◌≡◌, ◌≢◌, ℕ, ◌<◌, length, Option, Some, None, refl, sym, ap, ◌∙◌, subst, arith, inl, inr}
use Rattle.std.specs.Prelude.{IsSome}
use Rattle.std.proofs.lemmas.Option.{same_Some}
use Rattle.tuple_header.specs.declared.version.Row.{Row}
use Rattle.tuple_header.specs.declared.version.TheConstants.{MOST_BODY}
use Rattle.history.specs.History.{IsLate}
use Rattle.history.specs.World.{World, OpenSession, IsWriter, start_now, view, Holds, ClosesRing}
use Rattle.history.specs.Laws.{HasFew, HeldOnce}
use Rattle.calls.specs.declared.step.Step.{Step}
use Rattle.calls.specs.declared.step.Step.TheVariants as step
use Rattle.calls.specs.declared.reply.Reply.{Reply}
use Rattle.calls.specs.declared.reply.Reply.TheVariants as reply
use Rattle.calls.specs.declared.reply.Refusal.{Refusal}
use Rattle.calls.specs.declared.reply.Refusal.TheVariants as refusal
use Rattle.calls.specs.Words.{RowToWrite, FitsRow}
use Rattle.calls.specs.Writes.{WriteStep, inserts, updates, deletes, key_of, Asks}
use Rattle.refinement.specs.Allowed.{AllowsHindered, AllowsWrite, AllowsReply}
use Rattle.refinement.proofs.Hindrances.{IsPut}
use Rattle.one_answer.specs.OneAnswer.{IsLeftOpen}
use Rattle.one_answer.proofs.Tests.{Agrees, same_of, not_both, Or, agree-or, Last, agree-last, AsFree, agree-free, barred_free, past_free}

-- Writes.

abbrev IsTooLarge : WriteStep → Type 0
IsTooLarge (inserts row) = MOST_BODY < length row.body
IsTooLarge (updates row) = MOST_BODY < length row.body
IsTooLarge (deletes k) = ⊥

abbrev Fits : WriteStep → Type 0
Fits (inserts row) = FitsRow row
Fits (updates row) = FitsRow row
Fits (deletes k) = Unit {0}

-- what is found of the key is not what the write asks for, or is
abbrev IsAmiss : WriteStep → Option Row → Type 0
IsAmiss (inserts row) found = IsSome found
IsAmiss (updates row) found = found ≡ None
IsAmiss (deletes k) found = found ≡ None

abbrev IsAsked : WriteStep → Option Row → Type 0
IsAsked (inserts row) found = found ≡ None
IsAsked (updates row) found = IsSome found
IsAsked (deletes k) found = IsSome found

abbrev amiss : WriteStep → Refusal
amiss (inserts row) = refusal.AlreadyThere
amiss (updates row) = refusal.NotThere
amiss (deletes k) = refusal.NotThere

not_large : (write : WriteStep) → IsTooLarge write → Fits write → ⊥
not_large (inserts row) large fits = omega arith
not_large (updates row) large fits = omega arith
not_large (deletes k) large fits = large

not_amiss : (write : WriteStep) (found : Option Row) → IsAmiss write found → IsAsked write found → ⊥
not_amiss (inserts row) found amiss asked = not_both found amiss asked
not_amiss (updates row) found amiss asked = not_both found asked amiss
not_amiss (deletes k) found amiss asked = not_both found asked amiss

fits_of : (write : WriteStep) (found : Option Row) → Asks write found → Fits write
fits_of (inserts row) found asks = asks.0
fits_of (updates row) found asks = asks.0
fits_of (deletes k) found asks = tt

asked_of : (write : WriteStep) (found : Option Row) → Asks write found → IsAsked write found
asked_of (inserts row) found asks = asks.1
asked_of (updates row) found asks = asks.1
asked_of (deletes k) found asks = asks

-- whether another session holds the key, and whether a wait for it would close a ring
data Meets (w : World) (step : Step) (s key : ℕ) (a : Reply) : Type 0 where
  waits : (o : ℕ) → o ≢ s → Holds w o key → ¬ ClosesRing w.waits_for s o → a ≡ reply.Refused (refusal.Busy o) → Meets w step s key a
  rings : (o : ℕ) → o ≢ s → Holds w o key → ClosesRing w.waits_for s o → a ≡ reply.Refused refusal.Deadlock → Meets w step s key a
  free : ((o : ℕ) → o ≢ s → ¬ Holds w o key) → Last w step reply.Done a → Meets w step s key a

agree-meets : (w : World) (step : Step) (s key : ℕ) → HeldOnce w → Agrees w step (Meets w step s key)
agree-meets w step s key once a b (waits o ne holds isnt is) (waits p ne' holds' isnt' is') =
    inl (same_of a b (is ∙ (ap (λ o. reply.Refused (refusal.Busy o)) (once o p key holds holds') ∙ sym is')))
agree-meets w step s key once a b (waits o ne holds isnt is) (rings p ne' holds' ring is') = absurd (isnt (subst (λ o. ClosesRing w.waits_for s o) (once p o key holds' holds) ring))
agree-meets w step s key once a b (waits o ne holds isnt is) (free unheld x) = absurd (unheld o ne holds)
agree-meets w step s key once a b (rings o ne holds ring is) (waits p ne' holds' isnt is') = absurd (isnt (subst (λ o. ClosesRing w.waits_for s o) (once o p key holds holds') ring))
agree-meets w step s key once a b (rings o ne holds ring is) (rings p ne' holds' ring' is') = inl (same_of a b (is ∙ sym is'))
agree-meets w step s key once a b (rings o ne holds ring is) (free unheld x) = absurd (unheld o ne holds)
agree-meets w step s key once a b (free unheld x) (waits o ne holds isnt is) = absurd (unheld o ne holds)
agree-meets w step s key once a b (free unheld x) (rings o ne holds ring is) = absurd (unheld o ne holds)
agree-meets w step s key once a b (free unheld x) (free unheld' y) = agree-last w step reply.Done tt a b x y

abbrev InTime : World → Step → ℕ → ℕ → OpenSession → Reply → Type 0
InTime w step s key m a =
    Or (IsLate w.history (start_now w.history m) key) (¬ IsLate w.history (start_now w.history m) key) (reply.Refused refusal.Conflict) (Meets w step s key) a

abbrev Reads : World → Step → ℕ → WriteStep → OpenSession → Reply → Type 0
Reads w step s write m a =
    Or (IsAmiss write (view w.history m (key_of write))) (IsAsked write (view w.history m (key_of write))) (reply.Refused (amiss write)) (InTime w step s (key_of write) m) a

abbrev Writes : World → Step → ℕ → WriteStep → OpenSession → Reply → Type 0
Writes w step s write m a = Or (IsTooLarge write) (Fits write) (reply.Refused refusal.TooLarge) (Reads w step s write m) a

agree-write : (w : World) (step : Step) (s : ℕ) (write : WriteStep) → HasFew w → HeldOnce w → Agrees w step (AsFree w s (Writes w step s write))
agree-write w step s write few once = agree-free w step s (Writes w step s write) few (λ m at.
    agree-or w step (IsTooLarge write) (Fits write) (reply.Refused refusal.TooLarge) (Reads w step s write m) (not_large write)
    (agree-or w step (IsAmiss write (view w.history m (key_of write))) (IsAsked write (view w.history m (key_of write))) (reply.Refused (amiss write)) (InTime w step s (key_of write) m) (not_amiss write (view w.history m (key_of write)))
    (agree-or w step (IsLate w.history (start_now w.history m) (key_of write)) (¬ IsLate w.history (start_now w.history m) (key_of write)) (reply.Refused refusal.Conflict) (Meets w step s (key_of write)) (λ late timely. timely late)
    (agree-meets w step s (key_of write) once))))

suits_past : (w : World) (step : Step) (s : ℕ) (write : WriteStep) (m : OpenSession) (a : Reply) → IsWriter w s m → Asks write (view w.history m (key_of write)) → InTime w step s (key_of write) m a → AsFree w s (Writes w step s write) a
suits_past w step s write m a writer asks x =
    let found = view w.history m (key_of write) in
    past_free w s (Writes w step s write) m a writer (inr (fits_of write found asks, inr (asked_of write found asks, x)))

taken : (w : World) (step : Step) (s : ℕ) (write : WriteStep) (a : Reply) → Last w step reply.Done a → AllowsWrite w s write → AsFree w s (Writes w step s write) a
taken w step s write a last is = suits_past w step s write is.0 a is.2.writer is.1 (inr (is.2.in_time, free is.2.unheld last))

busy : (w : World) (step : Step) (s : ℕ) (write : WriteStep) (o : ℕ) → AllowsHindered w s (refusal.Busy o) write → ¬ ClosesRing w.waits_for s o → AsFree w s (Writes w step s write) (reply.Refused (refusal.Busy o))
busy w step s write o is isnt = suits_past w step s write is.0 (reply.Refused (refusal.Busy o)) is.2.writer is.1 (inr (is.2.in_time, waits o is.2.other is.2.held isnt refl))

ring : (w : World) (step : Step) (s t : ℕ) (write : WriteStep) (o : ℕ) → AllowsHindered w s (refusal.Busy o) write → Some s ≡ Some t → ClosesRing w.waits_for t o → AsFree w s (Writes w step s write) (reply.Refused refusal.Deadlock)
ring w step s t write o is same closes =
    suits_past w step s write is.0 (reply.Refused refusal.Deadlock) is.2.writer is.1 (inr (is.2.in_time, rings o is.2.other is.2.held (subst (λ s. ClosesRing w.waits_for s o) (sym (same_Some s t same)) closes) refl))

-- what the step leaves open to the write
record LeavesOpen (w : World) (step : Step) (write : WriteStep) : Type 0 where
  ids : IsLeftOpen w step (reply.Refused refusal.NeedsFreeze)
  memory : IsLeftOpen w step (reply.Refused refusal.NoMemory)
  room : IsPut write → IsLeftOpen w step (reply.Refused refusal.NoRoom)

abbrev NotBusy : Refusal → Type 0
NotBusy (refusal.Busy o) = ⊥
NotBusy r = Unit {0}

hindered : (w : World) (step : Step) (s : ℕ) (write : WriteStep) → LeavesOpen w step write → (r : Refusal) → NotBusy r → AllowsHindered w s r write → AsFree w s (Writes w step s write) (reply.Refused r)
hindered w step s write opens (refusal.Busy o) isnt is = absurd isnt
hindered w step s write opens refusal.Conflict isnt is = suits_past w step s write is.0 (reply.Refused refusal.Conflict) is.1 is.2 (inl (is.3, refl))
hindered w step s write opens refusal.NeedsFreeze isnt is = taken w step s write (reply.Refused refusal.NeedsFreeze) (inr opens.ids) is
hindered w step s write opens refusal.NoMemory isnt is = taken w step s write (reply.Refused refusal.NoMemory) (inr opens.memory) is
hindered w step s (inserts row) opens refusal.NoRoom isnt is = taken w step s (inserts row) (reply.Refused refusal.NoRoom) (inr (opens.room tt)) is
hindered w step s (updates row) opens refusal.NoRoom isnt is = taken w step s (updates row) (reply.Refused refusal.NoRoom) (inr (opens.room tt)) is
hindered w step s (deletes k) opens refusal.NoRoom isnt is = absurd is
hindered w step s (inserts row) opens refusal.TooLarge isnt is = past_free w s (Writes w step s (inserts row)) is.0 (reply.Refused refusal.TooLarge) is.1 (inl (is.2, refl))
hindered w step s (updates row) opens refusal.TooLarge isnt is = past_free w s (Writes w step s (updates row)) is.0 (reply.Refused refusal.TooLarge) is.1 (inl (is.2, refl))
hindered w step s (inserts row) opens refusal.AlreadyThere isnt is = past_free w s (Writes w step s (inserts row)) is.0 (reply.Refused refusal.AlreadyThere) is.1 (inr (is.2, inl (is.3, refl)))
hindered w step s (updates row) opens refusal.NotThere isnt is = past_free w s (Writes w step s (updates row)) is.0 (reply.Refused refusal.NotThere) is.1 (inr (is.2, inl (is.3, refl)))
hindered w step s (deletes k) opens refusal.NotThere isnt is = past_free w s (Writes w step s (deletes k)) is.0 (reply.Refused refusal.NotThere) is.1 (inr (tt, inl (is.2, refl)))
hindered w step s (inserts row) opens r isnt is = barred_free w s (Writes w step s (inserts row)) r is
hindered w step s (updates row) opens r isnt is = barred_free w s (Writes w step s (updates row)) r is
hindered w step s (deletes k) opens r isnt is = barred_free w s (Writes w step s (deletes k)) r is

insert_answers : (w : World) (s : ℕ) (row : RowToWrite) (a : Reply) → AllowsReply w (step.Insert s row) a → AsFree w s (Writes w (step.Insert s row) s (inserts row)) a
insert_answers w s row reply.Done is = taken w (step.Insert s row) s (inserts row) reply.Done (inl refl) is
insert_answers w s row (reply.Refused (refusal.Busy o)) is = busy w (step.Insert s row) s (inserts row) o is.0 (is.1 s refl)
insert_answers w s row (reply.Refused refusal.Deadlock) is = ring w (step.Insert s row) s is.0 (inserts row) is.1 is.3 is.2 is.4
insert_answers w s row (reply.Refused r) is = hindered w (step.Insert s row) s (inserts row) (record { ids = tt; memory = tt; room = λ puts. tt }) r tt is
insert_answers w s row _ is = absurd is

update_answers : (w : World) (s : ℕ) (row : RowToWrite) (a : Reply) → AllowsReply w (step.Update s row) a → AsFree w s (Writes w (step.Update s row) s (updates row)) a
update_answers w s row reply.Done is = taken w (step.Update s row) s (updates row) reply.Done (inl refl) is
update_answers w s row (reply.Refused (refusal.Busy o)) is = busy w (step.Update s row) s (updates row) o is.0 (is.1 s refl)
update_answers w s row (reply.Refused refusal.Deadlock) is = ring w (step.Update s row) s is.0 (updates row) is.1 is.3 is.2 is.4
update_answers w s row (reply.Refused r) is = hindered w (step.Update s row) s (updates row) (record { ids = tt; memory = tt; room = λ puts. tt }) r tt is
update_answers w s row _ is = absurd is

delete_answers : (w : World) (s k : ℕ) (a : Reply) → AllowsReply w (step.Delete s k) a → AsFree w s (Writes w (step.Delete s k) s (deletes k)) a
delete_answers w s k reply.Done is = taken w (step.Delete s k) s (deletes k) reply.Done (inl refl) is
delete_answers w s k (reply.Refused (refusal.Busy o)) is = busy w (step.Delete s k) s (deletes k) o is.0 (is.1 s refl)
delete_answers w s k (reply.Refused refusal.Deadlock) is = ring w (step.Delete s k) s is.0 (deletes k) is.1 is.3 is.2 is.4
delete_answers w s k (reply.Refused r) is = hindered w (step.Delete s k) s (deletes k) (record { ids = tt; memory = tt; room = λ puts. absurd puts }) r tt is
delete_answers w s k _ is = absurd is

pub agree-insert : (w : World) (s : ℕ) (row : RowToWrite) → HasFew w → HeldOnce w → Agrees w (step.Insert s row) (AllowsReply w (step.Insert s row))
agree-insert w s row few once a b x y = agree-write w (step.Insert s row) s (inserts row) few once a b (insert_answers w s row a x) (insert_answers w s row b y)

pub agree-update : (w : World) (s : ℕ) (row : RowToWrite) → HasFew w → HeldOnce w → Agrees w (step.Update s row) (AllowsReply w (step.Update s row))
agree-update w s row few once a b x y = agree-write w (step.Update s row) s (updates row) few once a b (update_answers w s row a x) (update_answers w s row b y)

pub agree-delete : (w : World) (s k : ℕ) → HasFew w → HeldOnce w → Agrees w (step.Delete s k) (AllowsReply w (step.Delete s k))
agree-delete w s k few once a b x y = agree-write w (step.Delete s k) s (deletes k) few once a b (delete_answers w s k a x) (delete_answers w s k b y)
