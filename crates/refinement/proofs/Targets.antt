-- The version that an update or a delete takes: the one of the key that the session sees.
use Rattle.std.proofs.Common.{◌≡◌, ℕ, [], ◌∷◌, ◌++◌, Option, Some, None, refl, sym, subst, ◌⊎◌, inl, inr}
use Rattle.std.specs.Prelude.{IsSome, Contains}
use Rattle.std.proofs.lemmas.List.Elements.{Contains-push_cases, Contains-append_left}
use Rattle.xid_circle.specs.declared.Tid.{Tid}
use Rattle.tuple_header.specs.declared.version.Row.{Row}
use Rattle.tuple_header.specs.Version.{Version}
use Rattle.commit_status.specs.declared.status.Status.{Status}
use Rattle.commit_status.specs.declared.status.Status.TheVariants.{InProgress, Committed, Aborted}
use Rattle.snapshot.specs.Snap.{Snap}
use Rattle.history.specs.World.{World}
use Rattle.refinement.specs.Heap.{SeenSession, Heap, SightOfStatement, StatementSees}
use Rattle.visibility.specs.Seeing.{HasCommitted, HasAborted, Reads, by_itself, by_others, Touches, deleted_by, inserter, deleter}
use Rattle.refinement.specs.Visible.{ReaderSees, At}
use Rattle.refinement.specs.Changes.{GivesNext, SameSight}
use Rattle.refinement.specs.Agrees.{HeapAgrees}
use Rattle.refinement.specs.Finds.{Free}
use Rattle.refinement.proofs.Statuses.{keeps-give, none_given, IsCommitted-give}
use Rattle.visibility.proofs.Verdicts.{VisibleBy-same}
use Rattle.refinement.proofs.Isolations.{SameSights, statement_same, committed_sight-give}

-- who made it has committed, or is the session itself
pub maker_of : (h : Heap) (e : SeenSession) (old : Version) → ReaderSees h.status (StatementSees h e.isolation) e.own old → (y : ℕ) → inserter old.header ≡ Some y → HasCommitted h.status y ⊎ Contains e.own y
maker_of h e old seen y is = elim (seen.made y is) [ by_itself mine ↦ inr mine | by_others sees done ↦ inl done ]

-- where nothing keeps the session from the key, who deleted the version before, if anyone did, was rolled back
pub untaken_of : (h : Heap) (w : World) (s : ℕ) (e : SeenSession) (k : ℕ) (found : Option Row) (place : Tid) (old : Version) → Free h s e k found → HeapAgrees h w
    → At h.version place old → old.row.key ≡ k → ReaderSees h.status (StatementSees h e.isolation) e.own old → (y : ℕ) → deleter old.header ≡ Some y → HasAborted h.status y
untaken_of h w s e k found place old free agrees at key seen y is = of (h.status y) refl (agrees.given place y old at (deleted_by is))
  where
    of : (o : Option Status) → h.status y ≡ o → IsSome (h.status y) → h.status y ≡ Some Aborted
    of None is' given = absurd (none_given (h.status y) is' given)
    of (Some Aborted) is' given = is'
    of (Some Committed) is' given = absurd (free.timely (place, old, at, key, (y, (deleted_by is, is', λ sees. seen.kept y is (by_others sees is')))))
    of (Some InProgress) is' given = absurd (free.unheld y (place, old, at, key, record { touch = deleted_by is; active = is'; foreign = λ mine. seen.kept y is (by_itself mine) }))

-- the session still sees it when it has been given an id
pub visible_given : (h : Heap) (w : World) (s : ℕ) (e : SeenSession) (x : ℕ) (place : Tid) (old : Version) (status' : ℕ → Option Status) (sees' : Snap → ℕ → Type 0)
    → h.session s ≡ Some e → GivesNext h.status status' x → SameSights h sees' → HeapAgrees h w → At h.version place old
    → ReaderSees h.status (StatementSees h e.isolation) e.own old → ReaderSees status' (SightOfStatement status' sees' e.isolation) (e.own ++ x ∷ []) old
visible_given h w s e x place old status' sees' at gives sights agrees stood seen = VisibleBy-same (λ y touch. to y) back seen
  where
    same : SameSight h.status (StatementSees h e.isolation) (SightOfStatement status' sees' e.isolation)
    same = statement_same h status' sees' s e at sights (committed_sight-give x gives)

    to : (y : ℕ) → Reads h.status (StatementSees h e.isolation) e.own y → Reads status' (SightOfStatement status' sees' e.isolation) (e.own ++ x ∷ []) y
    to y (by_itself mine) = by_itself (Contains-append_left e.own (x ∷ []) y mine)
    to y (by_others sees done) = by_others ((same y Committed done).0 sees) (keeps-give gives y Committed done)

    back : (y : ℕ) → Touches y old.header → Reads status' (SightOfStatement status' sees' e.isolation) (e.own ++ x ∷ []) y → Reads h.status (StatementSees h e.isolation) e.own y
    back y touch (by_itself mine) = elim (Contains-push_cases e.own x y mine) [
      | inl old' ↦ by_itself old'
      | inr now ↦ absurd (none_given (h.status x) gives.fresh (subst (λ z. IsSome (h.status z)) (sym now) (agrees.given place y old stood touch)))
    ]
    back y touch (by_others sees done) = (let was = IsCommitted-give gives y done in by_others ((same y Committed was).1 sees) was)
