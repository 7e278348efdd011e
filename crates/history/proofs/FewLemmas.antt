-- Few sessions are open, each with few levels.
use Rattle.std.proofs.Common.{◌≡◌, ℕ, ◌≤◌, List, [], ◌∷◌, length, Option, Some, None, refl, sym, ap, ◌∙◌, subst, arith, inl, inr}
use Rattle.std.specs.Option.{option_map}
use Rattle.std.proofs.lemmas.Bool.{cases_eq}
use Rattle.history.specs.World.{World, OpenSession}
use Rattle.history.specs.History.{Write}
use Rattle.history.specs.Moves.{put, change, add_write, as_failed, with_savepoint, empty_newest, to_savepoint, join_newest, without_savepoint, without_cursor}
use Rattle.history.specs.Events.{Happens, passes, begins, begins_by_statement, inserts, updates, deletes, conflicts, waits, deadlocks, saves, rolls_back_to, releases, commits, aborts, opens_index, opens_heap, opens_keys, takes, takes_keys, closes, StepsReach, stays, goes_on, makes_index, begins_vacuum, ends_vacuum}
use Rattle.history.proofs.RunLemmas.{session-put_cases}
use Rattle.std.proofs.lemmas.Option.{none-some, same_Some}
use Rattle.history.proofs.HistoryLemmas.{at_same, at_other}
use Rattle.history.specs.Laws.{HasFew, HasFewLevels}
use Rattle.calls.specs.declared.step.TheConstants.{MOST_SESSIONS}

-- No session is open under a number that is no session's.

few-put : (w : World) (s : ℕ) (new : Option OpenSession) → HasFew w → (MOST_SESSIONS ≤ s → new ≡ None) → HasFew (put w s new)
few-put w s new few none t far = elim (cases_eq t s) [
  | inl same ↦ subst (λ t. (put w s new).session t ≡ None) (sym same) (at_same s new (w.session s) ∙ none (subst (λ t. MOST_SESSIONS ≤ t) same far))
  | inr ne ↦ at_other t s new (w.session t) ne ∙ few t far
]

few-change : (w : World) (s : ℕ) (f : OpenSession → OpenSession) → HasFew w → HasFew (change w s f)
few-change w s f few = few-put w s (option_map f (w.session s)) few (λ far. ap (option_map f) (few s far))

few-step : {w : World} {s : ℕ} {after : World} → Happens w s after → HasFew w → HasFew after
few-step passes few = few
few-step (waits key o m blocked free) few = few
few-step {w} {s} (begins within idle) few = few-put w s _ few (λ far. absurd (omega arith))
few-step {w} {s} (begins_by_statement within idle) few = few-put w s _ few (λ far. absurd (omega arith))
few-step {w} {s} (commits m ready) few = few-put w s None few (λ far. refl)
few-step {w} {s} (aborts m is_open) few = few-put w s None few (λ far. refl)
few-step {w} {s} (rolls_back_to m is_open bare saved) few = few-change w s to_savepoint few
few-step {w} {s} _ few = few-change w s _ few

pub few-run : {from after : World} → StepsReach from after → HasFew from → HasFew after
few-run stays few = few
few-run (goes_on before after s run step) few = few-step step (few-run run few)
few-run (makes_index before index run absent none) few = few-run run few
few-run (begins_vacuum before run none) few = few-run run few
few-run (ends_vacuum before run runs) few = few-run run few

-- No session has more than 32 savepoints, and so 33 levels.

levels-put : (w : World) (s : ℕ) (new : Option OpenSession) → HasFewLevels w → ((m : OpenSession) → new ≡ Some m → length m.levels ≤ 33) → HasFewLevels (put w s new)
levels-put w s new few fits t m at = elim (session-put_cases w s new t m at) [
  | inl other ↦ few t m other.1
  | inr same ↦ fits m same.1
]

levels-change : (w : World) (s : ℕ) (f : OpenSession → OpenSession) (m : OpenSession) → HasFewLevels w → w.session s ≡ Some m → length (f m).levels ≤ 33 → HasFewLevels (change w s f)
levels-change w s f m few at fits = subst (λ o. HasFewLevels (put w s o)) (sym (ap (option_map f) at))
    (levels-put w s (Some (f m)) few (λ n is. subst (λ (n : OpenSession). length n.levels ≤ 33) (same_Some (f m) n is) fits))

fits-add_write : (write : Write) (levels : List (List Write)) → length levels ≤ 33 → length (add_write write levels) ≤ 33
fits-add_write write [] fits = omega arith
fits-add_write write (level ∷ older) fits = fits

fits-empty_newest : (levels : List (List Write)) → length levels ≤ 33 → length (empty_newest levels) ≤ 33
fits-empty_newest [] fits = fits
fits-empty_newest (level ∷ older) fits = fits

fits-join_newest : (levels : List (List Write)) → length levels ≤ 33 → length (join_newest levels) ≤ 33
fits-join_newest [] fits = fits
fits-join_newest (level ∷ []) fits = fits
fits-join_newest (level ∷ below ∷ older) fits = omega arith

levels-step : {w : World} {s : ℕ} {after : World} → Happens w s after → HasFewLevels w → HasFewLevels after
levels-step passes few = few
levels-step (waits key o m blocked free) few = few
levels-step {w} {s} (begins within idle) few = levels-put w s _ few (λ m is. subst (λ (m : OpenSession). length m.levels ≤ 33) (same_Some _ m is) (omega arith))
levels-step {w} {s} (begins_by_statement within idle) few = levels-put w s _ few (λ m is. subst (λ (m : OpenSession). length m.levels ≤ 33) (same_Some _ m is) (omega arith))
levels-step {w} {s} (inserts row m may absent) few = levels-change w s _ m few may.writer.ready.there (fits-add_write _ m.levels (few s m may.writer.ready.there))
levels-step {w} {s} (updates row m may there) few = levels-change w s _ m few may.writer.ready.there (fits-add_write _ m.levels (few s m may.writer.ready.there))
levels-step {w} {s} (deletes key m may there) few = levels-change w s _ m few may.writer.ready.there (fits-add_write _ m.levels (few s m may.writer.ready.there))
levels-step {w} {s} (conflicts key m writer late) few = levels-change w s as_failed m few writer.ready.there (few s m writer.ready.there)
levels-step {w} {s} (deadlocks key o m blocked ring) few = levels-change w s as_failed m few blocked.writer.ready.there (few s m blocked.writer.ready.there)
levels-step {w} {s} (saves m writer room) few = levels-change w s with_savepoint m few writer.ready.there (omega arith)
levels-step {w} {s} (rolls_back_to m is_open bare saved) few = levels-change w s to_savepoint m few is_open (fits-empty_newest m.levels (few s m is_open))
levels-step {w} {s} (releases m writer saved) few = levels-change w s without_savepoint m few writer.ready.there (fits-join_newest m.levels (few s m writer.ready.there))
levels-step {w} {s} (commits m ready) few = levels-put w s None few (λ n is. absurd (none-some n is))
levels-step {w} {s} (aborts m is_open) few = levels-put w s None few (λ n is. absurd (none-some n is))
levels-step {w} {s} (opens_index index low high m writer may order) few = levels-change w s _ m few writer.ready.there (few s m writer.ready.there)
levels-step {w} {s} (opens_heap m writer) few = levels-change w s _ m few writer.ready.there (few s m writer.ready.there)
levels-step {w} {s} (opens_keys low high m writer order) few = levels-change w s _ m few writer.ready.there (few s m writer.ready.there)
levels-step {w} {s} (takes n rows m c ready there part) few = levels-change w s _ m few ready.there (few s m ready.there)
levels-step {w} {s} (takes_keys n keys m c ready there part) few = levels-change w s _ m few ready.there (few s m ready.there)
levels-step {w} {s} (closes m ready there) few = levels-change w s without_cursor m few ready.there (few s m ready.there)

pub levels-run : {from after : World} → StepsReach from after → HasFewLevels from → HasFewLevels after
levels-run stays few = few
levels-run (goes_on before after s run step) few = levels-step step (levels-run run few)
levels-run (makes_index before index run absent none) few = levels-run run few
levels-run (begins_vacuum before run none) few = levels-run run few
levels-run (ends_vacuum before run runs) few = levels-run run few
