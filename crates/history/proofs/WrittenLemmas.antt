-- Who holds a key has written.
use Rattle.std.proofs.Common.{◌≡◌, ℕ, List, Option, Some, None, true, Bool, refl, sym, ap, ◌∙◌, subst, inl, inr}
use Rattle.std.specs.Prelude.{IsSome, Contains}
use Rattle.std.specs.Option.{option_map}
use Rattle.std.proofs.lemmas.Option.{none-some, same_Some}
use Rattle.std.proofs.lemmas.List.{append-nil}
use Rattle.history.specs.History.{Write}
use Rattle.history.specs.World.{World, Isolation, OpenSession, beginning, joined, own_write}
use Rattle.history.specs.Moves.{put, change, new_session, as_failed, with_savepoint, to_savepoint, without_savepoint, without_cursor}
use Rattle.history.specs.Events.{Happens, passes, begins, begins_by_statement, inserts, updates, deletes, conflicts, waits, deadlocks, saves, rolls_back_to, releases, commits, aborts, opens_index, opens_heap, opens_keys, takes, takes_keys, closes, StepsReach, stays, goes_on, makes_index, begins_vacuum, ends_vacuum}
use Rattle.history.specs.Laws.{HoldersHaveWritten}
use Rattle.history.proofs.HistoryLemmas.{joined-join_newest, fewer-written}
use Rattle.history.proofs.RunLemmas.{session-put_cases, fewer-empty_newest}

-- so it is of one session
abbrev HoldsByWriting : OpenSession → Type 0
HoldsByWriting m = (key : ℕ) → IsSome (own_write m key) → m.has_written ≡ true

written-put : (w : World) (s : ℕ) (new : Option OpenSession) → HoldersHaveWritten w → ((m : OpenSession) → new ≡ Some m → HoldsByWriting m) → HoldersHaveWritten (put w s new)
written-put w s new held by t key m at some = elim (session-put_cases w s new t m at) [
  | inl other ↦ held t key m other.1 some
  | inr same ↦ by m same.1 key some
]

written-change : (w : World) (s : ℕ) (f : OpenSession → OpenSession) (m : OpenSession) → HoldersHaveWritten w → w.session s ≡ Some m → HoldsByWriting (f m) → HoldersHaveWritten (change w s f)
written-change w s f m held at by = subst (λ o. HoldersHaveWritten (put w s o)) (sym (ap (option_map f) at))
    (written-put w s (Some (f m)) held (λ n is. subst HoldsByWriting (same_Some (f m) n is) by))

-- the session changes, and has no more writes than before
written-fewer : (w : World) (s : ℕ) (f : OpenSession → OpenSession) (m : OpenSession) → HoldersHaveWritten w → w.session s ≡ Some m → (f m).has_written ≡ m.has_written
    → ((write : Write) → Contains (joined (f m).levels) write → Contains (joined m.levels) write) → HoldersHaveWritten (change w s f)
written-fewer w s f m held at same fewer =
    written-change w s f m held at (λ key some. same ∙ held s key m at (fewer-written (joined (f m).levels) (joined m.levels) fewer key some))

-- a session that begins holds nothing
written-new : (w : World) (s : ℕ) (isolation : Isolation) → HoldersHaveWritten w → HoldersHaveWritten (put w s (Some (new_session isolation)))
written-new w s isolation held = written-put w s (Some (new_session isolation)) held (λ m is. subst HoldsByWriting (same_Some (new_session isolation) m is) (λ key some. absurd (cc)))

written-ended : (w : World) (s : ℕ) → HoldersHaveWritten w → HoldersHaveWritten (put w s None)
written-ended w s held = written-put w s None held (λ m is. absurd (none-some m is))

written-step : {w : World} {s : ℕ} {after : World} → Happens w s after → HoldersHaveWritten w → HoldersHaveWritten after
written-step passes held = held
written-step (waits key o m blocked free) held = held
written-step {w} {s} (begins within idle) held = written-new w s _ held
written-step {w} {s} (begins_by_statement within idle) held = written-new w s _ held
written-step {w} {s} (inserts row m may absent) held = written-change w s _ m held may.writer.ready.there (λ key some. refl)
written-step {w} {s} (updates row m may there) held = written-change w s _ m held may.writer.ready.there (λ key some. refl)
written-step {w} {s} (deletes key m may there) held = written-change w s _ m held may.writer.ready.there (λ k some. refl)
written-step {w} {s} (conflicts key m writer late) held = written-fewer w s as_failed m held writer.ready.there refl (λ write among. among)
written-step {w} {s} (deadlocks key o m blocked ring) held = written-fewer w s as_failed m held blocked.writer.ready.there refl (λ write among. among)
written-step {w} {s} (saves m writer room) held =
    written-fewer w s with_savepoint m held writer.ready.there refl (λ write among. subst (λ ws. Contains ws write) (append-nil (joined m.levels)) among)
written-step {w} {s} (rolls_back_to m is_open bare saved) held = written-fewer w s to_savepoint m held is_open refl (fewer-empty_newest m.levels)
written-step {w} {s} (releases m writer saved) held =
    written-fewer w s without_savepoint m held writer.ready.there refl (λ write among. subst (λ ws. Contains ws write) (joined-join_newest m.levels) among)
written-step {w} {s} (commits m ready) held = written-ended w s held
written-step {w} {s} (aborts m is_open) held = written-ended w s held
written-step {w} {s} (opens_index index low high m writer may order) held = written-fewer w s _ m held writer.ready.there refl (λ write among. among)
written-step {w} {s} (opens_heap m writer) held = written-fewer w s _ m held writer.ready.there refl (λ write among. among)
written-step {w} {s} (opens_keys low high m writer order) held = written-fewer w s _ m held writer.ready.there refl (λ write among. among)
written-step {w} {s} (takes n rows m c ready there part) held = written-fewer w s _ m held ready.there refl (λ write among. among)
written-step {w} {s} (takes_keys n keys m c ready there part) held = written-fewer w s _ m held ready.there refl (λ write among. among)
written-step {w} {s} (closes m ready there) held = written-fewer w s without_cursor m held ready.there refl (λ write among. among)

pub written-run : {from after : World} → StepsReach from after → HoldersHaveWritten from → HoldersHaveWritten after
written-run stays held = held
written-run (goes_on before after s run step) held = written-step step (written-run run held)
written-run (makes_index before index run absent none) held = written-run run held
written-run (begins_vacuum before run none) held = written-run run held
written-run (ends_vacuum before run runs) held = written-run run held

pub written-beginning : (columns : List Bool) → HoldersHaveWritten (beginning columns)
written-beginning columns s key m at = absurd (none-some m at)
