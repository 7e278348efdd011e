-- By which snapshots an index may be scanned: those of sessions for which it is not too new, of cursors, and those that are taken now.
use Rattle.std.proofs.Common.{◌≡◌, ℕ, List, Option, Some, None, false, refl, sym, subst, arith}
use Rattle.std.specs.Prelude.{Contains}
use Rattle.std.proofs.lemmas.Option.{same_Some}
use Rattle.xid_circle.proofs.Members.{Contains-none}
use Rattle.commit_status.specs.Window.{Window, IsWindow, IsActive, next_id}
use Rattle.commit_status.proofs.Places.{upto-next}
use Rattle.snapshot.specs.Snap.{Snap, empty_at}
use Rattle.snapshot.specs.Laws.{IsInWindow}
use Rattle.sound_entries.specs.Leading.{SeesNoExcused}
use Rattle.table_indexes.specs.Indexes.{IsInUse, since_at}
use Rattle.index_lookup.specs.declared.index_scan.IndexRange.{IndexRange}
use Rattle.history.specs.World.{World}
use Rattle.table_scans.specs.declared.progress.CursorScan.TheVariants.{Rows}
use Rattle.table_scans.specs.declared.progress.Scan.TheVariants.{Index}
use Rattle.sessions.specs.declared.session.Session.{Session}
use Rattle.sessions.specs.declared.session.SessionIsolation.{SessionIsolation}
use Rattle.sessions.specs.declared.session.SessionIsolation.TheVariants.{BySnapshot, ByStatement}
use Rattle.session_steps.specs.State.{State, session_at}
use Rattle.sessions.specs.Session.{owns_of, kept_by, keeping, is_too_new, statement_snapshot, cursor_snapshot}
use Rattle.session_steps.specs.Agrees.{Agrees}
use Rattle.sound_entries.specs.Since.{MayScanSince}
use Rattle.sound_entries.proofs.Since.{scan-unexcused, begin-scan}
use Rattle.session_steps.proofs.Owns.{now_taken, are-open, taken-within}

-- the snapshot that lists nobody is one of the window
pub empty-within : (w : Window) → IsWindow w → IsInWindow w (empty_at (next_id w))
empty-within w is = record {
  bounds = record { xmin = upto-next w is; xmax = upto-next w is; ordered = omega arith };
  listed = λ x among. absurd (Contains-none x among);
}

-- a snapshot lies in the window, and who reads by it may scan what is exact from this id on
pub record ScansBy (w : Window) (since : Option ℕ) (snap : Snap) : Type 0 where
  pub within : IsInWindow w snap
  pub may : MayScanSince w since snap

module _ (st : State) (w : World) (agrees : Agrees st w) (n : ℕ) where
  pub now-scans : ScansBy st.heap.statuses (since_at st.heap.indexes n) (now_taken st)
  now-scans = record {
    within = taken-within st w agrees;
    may = (begin-scan st.heap.statuses (since_at st.heap.indexes n) (owns_of st.sessions) agrees.sound.window (are-open st w agrees) (agrees.sound.since n)).0;
  }

  empty-scans : ScansBy st.heap.statuses (since_at st.heap.indexes n) (empty_at (next_id st.heap.statuses))
  empty-scans = record {
    within = empty-within st.heap.statuses agrees.sound.window;
    may = (begin-scan st.heap.statuses (since_at st.heap.indexes n) (owns_of st.sessions) agrees.sound.window (are-open st w agrees) (agrees.sound.since n)).1;
  }

  -- with ids in progress of its own, who reads so sees nothing that the index leaves out
  pub scans-unexcused : (snap : Snap) (own : List ℕ) → ScansBy st.heap.statuses (since_at st.heap.indexes n) snap → ((x : ℕ) → Contains own x → IsActive st.heap.statuses x)
      → SeesNoExcused st.heap.statuses (since_at st.heap.indexes n) snap own
  scans-unexcused snap own by active = scan-unexcused st.heap.statuses (since_at st.heap.indexes n) snap own agrees.sound.window by.within (agrees.sound.since n) by.may active

  module _ (s : ℕ) (e : Session) (at : session_at st s ≡ Some e) where
    -- a statement of a session for which it is not too new
    pub statement-scans : is_too_new e n ≡ false → ScansBy st.heap.statuses (since_at st.heap.indexes n) (statement_snapshot st.heap.statuses e.isolation)
    statement-scans may = by e.isolation refl
      where
        by : (i : SessionIsolation) → e.isolation ≡ i → ScansBy st.heap.statuses (since_at st.heap.indexes n) (statement_snapshot st.heap.statuses i)
        by (BySnapshot snap) is = record {
          within = (agrees.sound.sessions s e at).snapshot snap (subst (λ i. kept_by i ≡ Some snap) (sym is) refl);
          may = (agrees.sound.scans s e at).by_snapshot n snap is may;
        }
        by (ByStatement kept) is = empty-scans

    -- the snapshot that is kept for a cursor which it opens
    pub opened-scans : is_too_new e n ≡ false → (snap : Snap) → kept_by (keeping (Some (now_taken st)) e.isolation) ≡ Some snap → MayScanSince st.heap.statuses (since_at st.heap.indexes n) snap
    opened-scans may snap kept = by e.isolation refl kept
      where
        by : (i : SessionIsolation) → e.isolation ≡ i → kept_by (keeping (Some (now_taken st)) i) ≡ Some snap → MayScanSince st.heap.statuses (since_at st.heap.indexes n) snap
        by (BySnapshot own) is kept = subst (MayScanSince st.heap.statuses (since_at st.heap.indexes n)) (same_Some own snap kept) ((agrees.sound.scans s e at).by_snapshot n own is may)
        by (ByStatement old) is kept = subst (MayScanSince st.heap.statuses (since_at st.heap.indexes n)) (same_Some (now_taken st) snap kept) now-scans.may

-- the cursor of an open session
pub cursor-scans : (st : State) (w : World) (s : ℕ) (e : Session) (span : IndexRange) → Agrees st w → session_at st s ≡ Some e → e.cursor ≡ Some (Rows (Index span))
    → ScansBy st.heap.statuses (since_at st.heap.indexes span.index) (cursor_snapshot st.heap.statuses e.isolation)
cursor-scans st w s e span agrees at opened = by e.isolation refl
  where
    kept-scans : (snap : Snap) → kept_by e.isolation ≡ Some snap → ScansBy st.heap.statuses (since_at st.heap.indexes span.index) snap
    kept-scans snap kept = record { within = (agrees.sound.sessions s e at).snapshot snap kept; may = ((agrees.sound.scans s e at).cursor span opened).1 snap kept }

    by : (i : SessionIsolation) → e.isolation ≡ i → ScansBy st.heap.statuses (since_at st.heap.indexes span.index) (cursor_snapshot st.heap.statuses i)
    by (BySnapshot snap) is = kept-scans snap (subst (λ i. kept_by i ≡ Some snap) (sym is) refl)
    by (ByStatement (Some snap)) is = kept-scans snap (subst (λ i. kept_by i ≡ Some snap) (sym is) refl)
    by (ByStatement None) is = empty-scans st w agrees span.index

-- the index is in use, and the session's cursor sees nothing that it leaves out
pub record IsScanned (st : State) (e : Session) (index : ℕ) : Type 0 where
  pub used : IsInUse st.heap.indexes index
  pub unexcused : SeesNoExcused st.heap.statuses (since_at st.heap.indexes index) (cursor_snapshot st.heap.statuses e.isolation) e.own.ids
