-- A session by statement: it counts its own ids and all that has committed. What another's commit does to it.
use Rattle.std.proofs.Common.{◌≡◌, ℕ, List, [], ◌∷◌, ◌++◌, length, Option, Some, None, false, refl, sym, subst, inl, inr, arith}
use Rattle.std.specs.Prelude.{IsSome, Contains}
use Rattle.std.specs.Option.{is_some, unwrap_or}
use Rattle.std.proofs.lemmas.Bool.{both_ways}
use Rattle.xid_circle.specs.declared.Tid.{Tid}
use Rattle.tuple_header.specs.declared.version.Row.{Row}
use Rattle.tuple_header.specs.Version.{Version}
use Rattle.commit_status.specs.declared.status.Status.{Status}
use Rattle.commit_status.specs.declared.status.Status.TheVariants.{Committed}
use Rattle.history.specs.History.{Write, Transaction, committed, written}
use Rattle.history.specs.World.{OpenSession, joined, own_write}
use Rattle.refinement.specs.Heap.{SeenSession}
use Rattle.history.proofs.HistoryLemmas.{written-append, IsSome-or_second, IsLate-now}
use Rattle.visibility.specs.Seeing.{HasCommitted, Reads, by_itself, by_others, VisibleBy, Touches, inserter, deleter}
use Rattle.refinement.specs.Visible.{HasMissed, IsFreshSnapshot, At}
use Rattle.refinement.specs.Changes.{FinishesIds, SameSight}
use Rattle.refinement.proofs.Readers.{ReaderAgrees-same}
use Rattle.refinement.specs.Agrees.{Shows, ReaderAgrees, LevelsAgree, Traced, LevelTraces, SessionAgrees}
use Rattle.refinement.proofs.ShowsLemmas.{Shows-by_key}
use Rattle.refinement.proofs.Statuses.{IsCommitted-finish_old, IsCommitted-commit_cases, IsActive-finish_other}
use Rattle.refinement.proofs.CursorsLemmas.{CursorAgrees-keeps}
use Rattle.refinement.proofs.Isolations.{running_uncommitted}
use Rattle.refinement.proofs.Others.{same_seen, reads_uncommitted, CursorReads-commit_other}
use Rattle.refinement.proofs.LevelTraces.{Nested, nested_of}
use Rattle.refinement.proofs.Steps.{levels_traced}
use Rattle.visibility.proofs.Verdicts.{VisibleBy-same}

-- what was written counts before what has committed

pub own_or-some : (o : Option (Option Row)) (p q : Option Row) → IsSome o → unwrap_or o p ≡ unwrap_or o q
own_or-some None p q some = cc
own_or-some (Some r) p q some = refl

pub own_or-none : (o : Option (Option Row)) (p : Option Row) → ¬ IsSome o → unwrap_or o p ≡ p
own_or-none None p none = refl
own_or-none (Some r) p none = absurd (none refl)

-- Of one that reads by statement nothing is late, and nothing is missed.
pub none_missed : {status : ℕ → Option Status} (v : Version) → ¬ HasMissed status (λ x. HasCommitted status x) v
none_missed v missed = missed.1.2 missed.1.1

-- Another session commits, whose ids these are: the reader that has these ids of its own, and has written this, sees what it has
-- written itself as before, and of every other key what a new session sees.
module _ (status status' : ℕ → Option Status) (store : Tid → Option Version) (history : List Transaction) (theirs : List ℕ) (t : Transaction)
    (finishes : FinishesIds status status' (λ x. Contains theirs x) Committed)
    (carries : Traced store (λ x. Contains theirs x) t)
    (current : Shows store (λ v. VisibleBy (HasCommitted status') v.header) (committed (history ++ t ∷ []) (length (history ++ t ∷ []))))
    (made : (p : Tid) (y : ℕ) (v : Version) → At store p v → deleter v.header ≡ Some y → HasCommitted status' y → (x : ℕ) → inserter v.header ≡ Some x → HasCommitted status' x) where
  still : {own : List ℕ} (y : ℕ) → Reads status (λ x. HasCommitted status x) own y → Reads status' (λ x. HasCommitted status' x) own y
  still y (by_itself mine) = by_itself mine
  still y (by_others seen done) = let now = IsCommitted-finish_old finishes y done in by_others now now

  pub ReaderAgrees-commit_by_statement : (own : List ℕ) (writes : List Write) → Traced store (λ x. Contains own x) writes
      → ((k : ℕ) → IsSome (written writes k) → IsSome (written t k) → ⊥)
      → ReaderAgrees status store history (λ x. HasCommitted status x) (length history) own writes
      → ReaderAgrees status' store (history ++ t ∷ []) (λ x. HasCommitted status' x) (length (history ++ t ∷ [])) own writes
  ReaderAgrees-commit_by_statement own writes traced alone h = record {
    rows = Shows-by_key (λ k. is_some (written writes k))
        (λ p v at ours. (
          (λ seen. VisibleBy-same (λ y touch r. still y r) (λ y touch r. before p v at ours y touch r) seen),
          (λ seen. VisibleBy-same (λ y touch r. before p v at ours y touch r) (λ y touch r. still y r) seen),
        ))
        (λ k ours. own_or-some (written writes k) (committed (history ++ t ∷ []) (length (history ++ t ∷ [])) k) (committed history (length history) k) ours)
        (λ p v at other. (
          (λ seen. VisibleBy-same (λ y touch done. by_others done done) (λ y touch r. counted p v at other y touch r) seen),
          (λ seen. VisibleBy-same (λ y touch r. counted p v at other y touch r) (λ y touch done. by_others done done) seen),
        ))
        (λ k other. own_or-none (written writes k) (committed (history ++ t ∷ []) (length (history ++ t ∷ [])) k) (both_ways (is_some (written writes k)) other))
        h.rows current;
    whole = λ p y v at is reads x maker. whole p y v at is reads x maker;
    covers = λ p v at seen wrote. h.covers p v at (VisibleBy-same (λ y touch r. before p v at wrote y touch r) (λ y touch r. still y r) seen) wrote;
  }
    where
      -- of a key that it wrote, nothing is theirs
      before : (p : Tid) (v : Version) → At store p v → IsSome (written writes v.row.key) → (y : ℕ) → Touches y v.header
          → Reads status' (λ x. HasCommitted status' x) own y → Reads status (λ x. HasCommitted status x) own y
      before p v at ours y touch (by_itself mine) = by_itself mine
      before p v at ours y touch (by_others seen done) = elim (IsCommitted-commit_cases finishes y done) [
        | inl their ↦ absurd (alone v.row.key ours (carries.there_written p v at (y, touch, their)))
        | inr old ↦ by_others old old
      ]

      -- of any other, nothing is its own
      counted : (p : Tid) (v : Version) → At store p v → is_some (written writes v.row.key) ≡ false → (y : ℕ) → Touches y v.header
          → Reads status' (λ x. HasCommitted status' x) own y → HasCommitted status' y
      counted p v at other y touch (by_itself mine) = absurd (both_ways (is_some (written writes v.row.key)) other (traced.there_written p v at (y, touch, mine)))
      counted p v at other y touch (by_others seen done) = done

      whole : (p : Tid) (y : ℕ) (v : Version) → At store p v → deleter v.header ≡ Some y → Reads status' (λ x. HasCommitted status' x) own y
          → (x : ℕ) → inserter v.header ≡ Some x → Reads status' (λ x. HasCommitted status' x) own x
      whole p y v at is (by_itself mine) x maker = still x (h.whole p y v at is (by_itself mine) x maker)
      whole p y v at is (by_others seen done) x maker = let now = made p y v at is done x maker in by_others now now

  fewer : (ws : List Write) (levels : List (List Write)) → ((k : ℕ) → IsSome (written (joined (ws ∷ levels)) k) → IsSome (written t k) → ⊥)
      → (k : ℕ) → IsSome (written (joined levels) k) → IsSome (written t k) → ⊥
  fewer ws levels alone k wrote = alone k (subst (λ o. IsSome o) (sym (written-append (joined levels) ws k)) (IsSome-or_second (written ws k) (written (joined levels) k) wrote))

  -- and so it is at each savepoint
  pub Levels-commit_by_statement : (own : List ℕ) (saved : List (List ℕ)) (levels : List (List Write)) → Nested own saved → LevelTraces store own saved levels
      → ((k : ℕ) → IsSome (written (joined levels) k) → IsSome (written t k) → ⊥)
      → LevelsAgree status store history (λ x. HasCommitted status x) (length history) own saved levels
      → LevelsAgree status' store (history ++ t ∷ []) (λ x. HasCommitted status' x) (length (history ++ t ∷ [])) own saved levels
  Levels-commit_by_statement own [] [] nested traces alone h = absurd h
  Levels-commit_by_statement own [] (ws ∷ []) nested traces alone h =
      ReaderAgrees-commit_by_statement own (joined (ws ∷ [])) (levels_traced store own [] (ws ∷ []) nested traces) alone h
  Levels-commit_by_statement own [] (ws ∷ (vs ∷ levels)) nested traces alone h = absurd h
  Levels-commit_by_statement own (earlier ∷ saved) [] nested traces alone h = absurd h
  Levels-commit_by_statement own (earlier ∷ saved) (ws ∷ levels) nested traces alone h = (
    ReaderAgrees-commit_by_statement own (joined (ws ∷ levels)) (levels_traced store own (earlier ∷ saved) (ws ∷ levels) nested traces) alone h.0,
    h.1,
    Levels-commit_by_statement earlier saved levels nested.1 traces.1 (fewer ws levels alone) h.2,
  )

  -- The session as a whole.
  pub SessionAgrees-commit_by_statement : {cursor_sees cursor_sees' : ℕ → Type 0} {e : SeenSession} {m : OpenSession} → (IsSome e.cursor → SameSight status cursor_sees cursor_sees')
      → ((x : ℕ) → Contains theirs x → ¬ Contains e.own x) → ((k : ℕ) → IsSome (own_write m k) → IsSome (written t k) → ⊥)
      → SessionAgrees status store history (λ x. HasCommitted status x) (length history) cursor_sees e m
      → SessionAgrees status' store (history ++ t ∷ []) (λ x. HasCommitted status' x) (length (history ++ t ∷ [])) cursor_sees' e m
  SessionAgrees-commit_by_statement {cursor_sees} {cursor_sees'} {e} {m} same foreign alone h = record {
    same_failed = h.same_failed;
    isolation = h.isolation;
    kept = h.kept;
    cursor = CursorAgrees-keeps (λ some. same_seen e.own (λ y done. IsCommitted-finish_old finishes y done) (same some) (reads_uncommitted e.own finishes (same some) (h.cursor_reads some).active_unseen)) h.cursor;
    cursor_reads = λ some. CursorReads-commit_other t finishes (same some) (h.cursor_reads some);
    levels = Levels-commit_by_statement e.own e.saved m.levels (nested_of status store history (λ x. HasCommitted status x) (length history) e.own e.saved m.levels h.levels) h.level_traces alone h.levels;
    level_traces = h.level_traces;
    traces = record {
      late_missed = λ k late. absurd (IsLate-now (history ++ t ∷ []) k late);
      missed_late = λ p v at missed. absurd (none_missed v missed);
      timely = λ p v at current by late. IsLate-now (history ++ t ∷ []) v.row.key late;
    };
    began = omega arith;
    in_time = λ k wrote late. IsLate-now (history ++ t ∷ []) k late;
    active_unseen = λ y active done. running_uncommitted status' y active done;
    own_active = λ y mine. IsActive-finish_other finishes y (λ p. foreign y p mine) (h.own_active y mine);
  }

-- A snapshot that is taken now reads the same: so a cursor may be opened.
pub ReaderAgrees-opens : {status : ℕ → Option Status} {store : Tid → Option Version} {history : List Transaction} {sees : ℕ → Type 0} {start : ℕ} {own : List ℕ} {writes : List Write}
    → IsFreshSnapshot status sees → ReaderAgrees status store history (λ x. HasCommitted status x) start own writes → ReaderAgrees status store history sees start own writes
ReaderAgrees-opens {status} {store} {history} {sees} {start} {own} {writes} fresh h =
    ReaderAgrees-same (λ p x v at touch reads. to x reads) (λ p x v at touch reads. back x reads) (λ x mine. mine) (λ k. refl) (λ k. refl) h
  where
    to : (x : ℕ) → Reads status (λ x. HasCommitted status x) own x → Reads status sees own x
    to x (by_itself mine) = by_itself mine
    to x (by_others seen done) = by_others (fresh.finished x done) done

    back : (x : ℕ) → Reads status sees own x → Reads status (λ x. HasCommitted status x) own x
    back x (by_itself mine) = by_itself mine
    back x (by_others seen done) = by_others done done
