-- The reply to each step is one that the history allows, and the engine agrees with the next world.
use Rattle.std.proofs.Common.{◌≡◌, ℕ, ◌<◌, Option, Some, None, true, false, refl, sym, ap, ◌∙◌, subst, ◌⊎◌}
use Rattle.std.specs.Prelude.{Contains, Vec}
use Rattle.std.specs.declared.alloc.Global.{Global}
use Rattle.xid_circle.specs.declared.Tid.{Tid}
use Rattle.tuple_header.specs.declared.version.Row.{Row}
use Rattle.tuple_header.specs.Version.{Version}
use Rattle.commit_status.specs.declared.status.Status.{Status}
use Rattle.commit_status.specs.declared.status.Status.TheVariants.{Committed, Aborted}
use Rattle.snapshot.specs.Snap.{Snap}
use Rattle.history.specs.World.{World, OpenSession, IsReady, view, world_sessions}
use Rattle.history.specs.Cursors.{AreOf}
use Rattle.history.specs.Moves.{stepped}
use Rattle.calls.specs.Words.{PlanToApply}
use Rattle.calls.specs.declared.step.Step.TheVariants as step
use Rattle.calls.specs.declared.reply.Reply.TheVariants as reply
use Rattle.calls.specs.declared.reply.Refusal.{Refusal}
use Rattle.calls.specs.declared.reply.Refusal.TheVariants as refusal
use Rattle.calls.specs.Bars.{BarsOpen, BarsReady, BarsFree, BarsWithCursor}
use Rattle.calls.proofs.BarsLemmas.{AreAlike, alike-open, alike-ready, alike-free, alike-with_cursor}
use Rattle.refinement.specs.Allowed.{Allows}
use Rattle.refinement.specs.Heap.{seen_by_snapshot, seen_by_statement, SeenSession, Heap, StatementSees, seen_sessions}
use Rattle.refinement.specs.Visible.{IsFreshSnapshot, ReaderSees}
use Rattle.refinement.specs.Changes.{FinishesIds, MayRemove, IsPast}
use Rattle.refinement.specs.Agrees.{HeapAgrees, Shows}
use Rattle.refinement.specs.Finds.{FindsOfKey, HeapFollows}
use Rattle.refinement.proofs.Readers.{Levels-top}
use Rattle.refinement.proofs.CursorsLemmas.{some_model}
use Rattle.refinement.proofs.Itself.{new_session}
use Rattle.refinement.proofs.Pruning.{Agrees-prune}
use Rattle.refinement.proofs.Isolations.{SameSights}
use Rattle.refinement.proofs.Steps.{OnlyIs, Agrees-begin, Agrees-begin_by_statement, Agrees-abort}
use Rattle.refinement.proofs.Commit.{committed-is, Agrees-commit}

-- a step that only passes
pub Agrees-stepped : (h : Heap) (w : World) (s : ℕ) → HeapAgrees h w → HeapAgrees h (stepped w s)
Agrees-stepped h w s agrees = record {
  opened = agrees.opened;
  idle = agrees.idle;
  current = agrees.current;
  made = agrees.made;
  given = agrees.given;
  owned = agrees.owned;
  apart = agrees.apart;
  alone = agrees.alone;
}

-- What bars a session of the engine bars it in the history.

alike : (h : Heap) (w : World) (s : ℕ) → HeapAgrees h w → AreAlike (seen_sessions h) (world_sessions w) s
alike h w s agrees = record {
  idle = agrees.idle s;
  opened = λ e at. let open_ = agrees.opened s e at in (open_.0, open_.1, sym open_.2.same_failed, open_.2.cursor.closed, λ some. some_model some open_.2.cursor);
}

pub allows_closed : (h : Heap) (w : World) (s : ℕ) (r : Refusal) → HeapAgrees h w → BarsOpen (seen_sessions h) s r → BarsOpen (world_sessions w) s r
allows_closed h w s r agrees is = alike-open (alike h w s agrees) r is

pub allows_unready : (h : Heap) (w : World) (s : ℕ) (r : Refusal) → HeapAgrees h w → BarsReady (seen_sessions h) s r → BarsReady (world_sessions w) s r
allows_unready h w s r agrees is = alike-ready (alike h w s agrees) r is

pub allows_barred : (h : Heap) (w : World) (s : ℕ) (r : Refusal) → HeapAgrees h w → BarsFree (seen_sessions h) s r → BarsFree (world_sessions w) s r
allows_barred h w s r agrees is = alike-free (alike h w s agrees) r is

pub allows_bare : (h : Heap) (w : World) (s : ℕ) (r : Refusal) → HeapAgrees h w → BarsWithCursor (seen_sessions h) s r → BarsWithCursor (world_sessions w) s r
allows_bare h w s r agrees is = alike-with_cursor (alike h w s agrees) r is

-- Refusals before a step is tried.

pub Follows-unready_get : (h : Heap) (s k : ℕ) (r : Refusal) → BarsReady (seen_sessions h) s r → HeapFollows h (step.Get s k) (reply.Refused r) h
Follows-unready_get h s k r is w agrees = (allows_unready h w s r agrees is, Agrees-stepped h w s agrees)

pub Follows-closed_commit : (h : Heap) (s : ℕ) (r : Refusal) → BarsOpen (seen_sessions h) s r → HeapFollows h (step.Commit s) (reply.Refused r) h
Follows-closed_commit h s r is w agrees = (allows_closed h w s r agrees is, Agrees-stepped h w s agrees)

pub Follows-closed_abort : (h : Heap) (s : ℕ) (r : Refusal) → BarsOpen (seen_sessions h) s r → HeapFollows h (step.Abort s) (reply.Refused r) h
Follows-closed_abort h s r is w agrees = (allows_closed h w s r agrees is, Agrees-stepped h w s agrees)

pub Follows-begin_refused : (h : Heap) (s : ℕ) (r : Refusal) → ((w : World) → HeapAgrees h w → Allows w (step.Begin s) (reply.Refused r)) → HeapFollows h (step.Begin s) (reply.Refused r) h
Follows-begin_refused h s r allows w agrees = (allows w agrees, Agrees-stepped h w s agrees)

pub Follows-already_open : (h : Heap) (s : ℕ) (e : SeenSession) → h.session s ≡ Some e → s < 64 → HeapFollows h (step.Begin s) (reply.Refused refusal.AlreadyOpen) h
Follows-already_open h s e at within w agrees = (let open_ = agrees.opened s e at in (open_.0, open_.1, within), Agrees-stepped h w s agrees)

-- Begin.

pub Follows-begin : (h : Heap) (s : ℕ) (snapshot : Snap) (session' : ℕ → Option SeenSession)
    → OnlyIs h.session session' s (Some (new_session (seen_by_snapshot snapshot))) → s < 64 → h.session s ≡ None → ((w : World) → HeapAgrees h w → IsFreshSnapshot h.status (h.sees snapshot))
    → HeapFollows h (step.Begin s) reply.Done (record h { session = session' })
Follows-begin h s snapshot session' only within idle fresh w agrees =
    ((within, agrees.idle s idle), Agrees-begin h w s snapshot session' only idle (fresh w agrees) agrees)

-- BeginReadCommitted.

pub Follows-begin_by_statement : (h : Heap) (s : ℕ) (session' : ℕ → Option SeenSession)
    → OnlyIs h.session session' s (Some (new_session (seen_by_statement None))) → s < 64 → h.session s ≡ None → HeapFollows h (step.BeginReadCommitted s) reply.Done (record h { session = session' })
Follows-begin_by_statement h s session' only within idle w agrees = ((within, agrees.idle s idle), Agrees-begin_by_statement h w s session' only idle agrees)

pub Follows-begin_by_statement_refused : (h : Heap) (s : ℕ) (r : Refusal) → ((w : World) → HeapAgrees h w → Allows w (step.BeginReadCommitted s) (reply.Refused r)) → HeapFollows h (step.BeginReadCommitted s) (reply.Refused r) h
Follows-begin_by_statement_refused h s r allows w agrees = (allows w agrees, Agrees-stepped h w s agrees)

pub Follows-already_open_by_statement : (h : Heap) (s : ℕ) (e : SeenSession) → h.session s ≡ Some e → s < 64 → HeapFollows h (step.BeginReadCommitted s) (reply.Refused refusal.AlreadyOpen) h
Follows-already_open_by_statement h s e at within w agrees = (let open_ = agrees.opened s e at in (open_.0, open_.1, within), Agrees-stepped h w s agrees)

-- Get.

pub reads_rows : (h : Heap) (w : World) (s : ℕ) (e : SeenSession) (at : h.session s ≡ Some e) (agrees : HeapAgrees h w) → let m = (agrees.opened s e at).0 in
    Shows h.version (ReaderSees h.status (StatementSees h e.isolation) e.own) (view w.history m)
reads_rows h w s e at agrees = let open_ = agrees.opened s e at in (Levels-top e.own e.saved open_.0.levels open_.2.levels).rows

found_is_row : (store : Tid → Option Version) (seen : Version → Type 0) (rows : ℕ → Option Row) (k : ℕ) (found : Option Row) → Shows store seen rows → FindsOfKey store seen k found → found ≡ rows k
found_is_row store seen rows k None shows none = nothing (rows k) refl
  where
    nothing : (o : Option Row) → rows k ≡ o → None ≡ o
    nothing None is = refl
    nothing (Some r) is = (let some = shows.there k r is in absurd (none some.0 some.1 some.2 some.4 some.3))
found_is_row store seen rows k (Some row) shows some =
    ap Some some.4.1 ∙ (sym (shows.sound some.0 some.1 some.2 some.4.0) ∙ ap rows some.3)

pub found_is_view : (h : Heap) (w : World) (s : ℕ) (e : SeenSession) (k : ℕ) (found : Option Row) (at : h.session s ≡ Some e) (agrees : HeapAgrees h w)
    → FindsOfKey h.version (ReaderSees h.status (StatementSees h e.isolation) e.own) k found → found ≡ view w.history (agrees.opened s e at).0 k
found_is_view h w s e k found at agrees finds =
    found_is_row h.version (ReaderSees h.status (StatementSees h e.isolation) e.own) (view w.history (agrees.opened s e at).0) k found (reads_rows h w s e at agrees) finds

pub Follows-get : (h : Heap) (s : ℕ) (e : SeenSession) (k : ℕ) (found : Option Row) → h.session s ≡ Some e → e.failed ≡ false
    → FindsOfKey h.version (ReaderSees h.status (StatementSees h e.isolation) e.own) k found → HeapFollows h (step.Get s k) (reply.Found found) h
Follows-get h s e k found at sound finds w agrees = let open_ = agrees.opened s e at in (
  (open_.0, record { there = open_.1; sound = sym open_.2.same_failed ∙ sound }, found_is_view h w s e k found at agrees finds),
  Agrees-stepped h w s agrees,
)

-- TakePage.

pub Follows-unready_page : (h : Heap) (s p : ℕ) (r : Refusal) → BarsReady (seen_sessions h) s r → HeapFollows h (step.TakePage s p) (reply.Refused r) h
Follows-unready_page h s p refusal.NoSuchPage is w agrees = absurd is
Follows-unready_page h s p refusal.NoMemory is w agrees = absurd is
Follows-unready_page h s p r is w agrees = (allows_unready h w s r agrees is, Agrees-stepped h w s agrees)

pub Follows-page_refused : (h : Heap) (s p : ℕ) (e : SeenSession) (r : Refusal) → h.session s ≡ Some e → e.failed ≡ false
    → ((w : World) (m : OpenSession) → IsReady w s m → Allows w (step.TakePage s p) (reply.Refused r)) → HeapFollows h (step.TakePage s p) (reply.Refused r) h
Follows-page_refused h s p e r at sound allows w agrees = let open_ = agrees.opened s e at in
    (allows w open_.0 (record { there = open_.1; sound = sym open_.2.same_failed ∙ sound }), Agrees-stepped h w s agrees)

-- of one world, in which the rows are the view's
pub rows-follow : (h : Heap) (s p : ℕ) (e : SeenSession) (rows : Vec Row Global) (at : h.session s ≡ Some e) → e.failed ≡ false → (w : World) (agrees : HeapAgrees h w)
    → AreOf (view w.history (agrees.opened s e at).0) rows.items → Allows w (step.TakePage s p) (reply.Rows rows) × HeapAgrees h (stepped w s)
rows-follow h s p e rows at sound w agrees of = let open_ = agrees.opened s e at in
    ((open_.0, record { there = open_.1; sound = sym open_.2.same_failed ∙ sound }, of), Agrees-stepped h w s agrees)

-- Commit and Abort.

pub Follows-abort : (h : Heap) (s : ℕ) (e : SeenSession) (status' : ℕ → Option Status) (sees' : Snap → ℕ → Type 0) (session' : ℕ → Option SeenSession)
    → OnlyIs h.session session' s None → h.session s ≡ Some e → ((w : World) → HeapAgrees h w → FinishesIds h.status status' (λ x. Contains e.own x) Aborted) → SameSights h sees'
    → HeapFollows h (step.Abort s) reply.RolledBack (record h { status = status'; sees = sees'; session = session' })
Follows-abort h s e status' sees' session' only at finishes same w agrees = let open_ = agrees.opened s e at in
    ((open_.0, open_.1), Agrees-abort h w s e status' sees' session' only at (finishes w agrees) same agrees)

pub Follows-commit_failed : (h : Heap) (s : ℕ) (e : SeenSession) (status' : ℕ → Option Status) (sees' : Snap → ℕ → Type 0) (session' : ℕ → Option SeenSession)
    → OnlyIs h.session session' s None → h.session s ≡ Some e → e.failed ≡ true → ((w : World) → HeapAgrees h w → FinishesIds h.status status' (λ x. Contains e.own x) Aborted) → SameSights h sees'
    → HeapFollows h (step.Commit s) reply.RolledBack (record h { status = status'; sees = sees'; session = session' })
Follows-commit_failed h s e status' sees' session' only at failed finishes same w agrees = let open_ = agrees.opened s e at in
    ((open_.0, open_.1, sym open_.2.same_failed ∙ failed), Agrees-abort h w s e status' sees' session' only at (finishes w agrees) same agrees)

pub Follows-commit : (h : Heap) (s : ℕ) (e : SeenSession) (status' : ℕ → Option Status) (sees' : Snap → ℕ → Type 0) (session' : ℕ → Option SeenSession)
    → OnlyIs h.session session' s None → h.session s ≡ Some e → e.failed ≡ false → ((w : World) → HeapAgrees h w → FinishesIds h.status status' (λ x. Contains e.own x) Committed) → SameSights h sees' → ((snap : Snap) (x : ℕ) → h.sees snap x ⊎ (¬ h.sees snap x))
    → HeapFollows h (step.Commit s) reply.Committed (record h { status = status'; sees = sees'; session = session' })
Follows-commit h s e status' sees' session' only at sound finishes same decided w agrees = let open_ = agrees.opened s e at in (
  (open_.0, record { there = open_.1; sound = sym open_.2.same_failed ∙ sound }),
  subst (λ w'. HeapAgrees (record h { status = status'; sees = sees'; session = session' }) w') (sym (committed-is w s open_.0 open_.1))
      (Agrees-commit h w s e open_.0 status' sees' session' only at open_.1 (finishes w agrees) same decided open_.2 agrees),
)

-- Cleaning.

pub Follows-prune : (h : Heap) (p : ℕ) (store' : Tid → Option Version) → MayRemove h.version store' (IsPast h.status h.sees h.session)
    → HeapFollows h (step.Prune p) reply.Done (record h { version = store' })
Follows-prune h p store' removes w agrees = (tt, Agrees-prune h w store' removes agrees)

pub Follows-unpruned : (h : Heap) (p : ℕ) (r : Refusal) → ((w : World) → Allows w (step.Prune p) (reply.Refused r)) → HeapFollows h (step.Prune p) (reply.Refused r) h
Follows-unpruned h p r allows w agrees = (allows w, agrees)

-- a plan that checks takes no more than a prune may
pub Follows-apply : (h : Heap) (p : ℕ) (plan : PlanToApply) (store' : Tid → Option Version) → MayRemove h.version store' (IsPast h.status h.sees h.session)
    → HeapFollows h (step.ApplyPlan p plan) reply.Done (record h { version = store' })
Follows-apply h p plan store' removes w agrees = (tt, Agrees-prune h w store' removes agrees)

pub Follows-unapplied : (h : Heap) (p : ℕ) (plan : PlanToApply) (r : Refusal) → ((w : World) → Allows w (step.ApplyPlan p plan) (reply.Refused r)) → HeapFollows h (step.ApplyPlan p plan) (reply.Refused r) h
Follows-unapplied h p plan r allows w agrees = (allows w, agrees)

-- the same sessions are seen, session by session
pub Agrees-sessions : (h : Heap) (w : World) (session' : ℕ → Option SeenSession) → ((s : ℕ) → session' s ≡ h.session s) → HeapAgrees h w → HeapAgrees (record h { session = session' }) w
Agrees-sessions h w session' same agrees = record {
  opened = λ s e at. agrees.opened s e (sym (same s) ∙ at);
  idle = λ s at. agrees.idle s (sym (same s) ∙ at);
  current = agrees.current;
  made = agrees.made;
  given = agrees.given;
  owned = λ x active. let by = agrees.owned x active in (by.0, by.1, same by.0 ∙ by.2, by.3);
  apart = λ s o e f x at bt. agrees.apart s o e f x (sym (same s) ∙ at) (sym (same o) ∙ bt);
  alone = agrees.alone;
}
