-- By which snapshot a statement of a session reads, and its cursor: what these count is what the relation has them count.
use Rattle.std.proofs.Common.{◌≡◌, ℕ, List, Option, Some, None, refl, sym, ap, ◌∙◌, ◌⊎◌, inl, inr}
use Rattle.std.specs.Prelude.{◌↔◌}
use Rattle.std.proofs.lemmas.Option.{same_Some, none-some}
use Rattle.tuple_header.specs.declared.version.Header.{Header}
use Rattle.tuple_header.specs.Version.{Version}
use Rattle.commit_status.specs.declared.status.Status.TheVariants.{Committed}
use Rattle.commit_status.specs.Window.{Window, IsWindow, next_id}
use Rattle.snapshot.specs.Snap.{Snap, Sees, empty_at}
use Rattle.visibility.specs.Seeing.{Reads, VisibleBy}
use Rattle.visibility.specs.Visible.{state_of, ReadsIn, IsVisible, IsNewerCommitIn}
use Rattle.visibility.proofs.Makers.{state-some}
use Rattle.visibility.proofs.Statements.{given-before, statement-reads}
use Rattle.refinement.specs.Heap as relation
use Rattle.refinement.specs.Visible.{ReaderSees, HasMissed}
use Rattle.sessions.specs.declared.session.Session.{Session}
use Rattle.sessions.specs.declared.session.SessionIsolation.{SessionIsolation}
use Rattle.sessions.specs.declared.session.SessionIsolation.TheVariants.{BySnapshot, ByStatement}
use Rattle.session_steps.specs.State.{State, session_at, seen, isolation_seen}
use Rattle.sessions.specs.Session.{kept_by, statement_snapshot, cursor_snapshot, keeping}
use Rattle.session_steps.proofs.Owns.{reader-at}

-- what a statement of the session sees of the ids, and what its cursor does
abbrev pub statement_sight : State → SessionIsolation → ℕ → Type 0
statement_sight st i = relation.StatementSees (seen st) (isolation_seen i)

abbrev pub cursor_sight : State → SessionIsolation → ℕ → Type 0
cursor_sight st i = relation.CursorSees (seen st) (isolation_seen i)

-- what sees the same ids sees the same versions
same-visible : (A B : ℕ → Type 0) (h : Header) → ((x : ℕ) → A x ↔ B x) → VisibleBy A h ↔ VisibleBy B h
same-visible A B h same = (
  λ v. record { made = λ x is. (same x).0 (v.made x is); kept = λ x is reads. v.kept x is ((same x).1 reads) },
  λ v. record { made = λ x is. (same x).1 (v.made x is); kept = λ x is reads. v.kept x is ((same x).0 reads) },
)

module _ (st : State) (is : IsWindow st.heap.statuses) where
  statement-counts : (i : SessionIsolation) (own : List ℕ) (x : ℕ) → ReadsIn st.heap.statuses (statement_snapshot st.heap.statuses i) own x ↔ Reads (state_of st.heap.statuses) (statement_sight st i) own x
  statement-counts (BySnapshot snap) own x = (λ r. r, λ r. r)
  statement-counts (ByStatement kept) own x = statement-reads st.heap.statuses own x is

  cursor-counts : (i : SessionIsolation) (own : List ℕ) (x : ℕ) → ReadsIn st.heap.statuses (cursor_snapshot st.heap.statuses i) own x ↔ Reads (state_of st.heap.statuses) (cursor_sight st i) own x
  cursor-counts (BySnapshot snap) own x = (λ r. r, λ r. r)
  cursor-counts (ByStatement (Some snap)) own x = (λ r. r, λ r. r)
  cursor-counts (ByStatement None) own x = statement-reads st.heap.statuses own x is

  -- the versions that a statement sees
  pub statement-sees : (i : SessionIsolation) (own : List ℕ) (v : Version)
      → IsVisible st.heap.statuses (statement_snapshot st.heap.statuses i) own v.header ↔ ReaderSees (state_of st.heap.statuses) (statement_sight st i) own v
  statement-sees i own v = same-visible (ReadsIn st.heap.statuses (statement_snapshot st.heap.statuses i) own) (Reads (state_of st.heap.statuses) (statement_sight st i) own) v.header (statement-counts i own)

  -- and those that the cursor does
  pub cursor-sees : (i : SessionIsolation) (own : List ℕ) (v : Version)
      → IsVisible st.heap.statuses (cursor_snapshot st.heap.statuses i) own v.header ↔ ReaderSees (state_of st.heap.statuses) (cursor_sight st i) own v
  cursor-sees i own v = same-visible (ReadsIn st.heap.statuses (cursor_snapshot st.heap.statuses i) own) (Reads (state_of st.heap.statuses) (cursor_sight st i) own) v.header (cursor-counts i own)

  -- a commit that a statement does not see: by statement there is none
  pub statement-misses : (i : SessionIsolation) (v : Version) → ((x : ℕ) × IsNewerCommitIn st.heap.statuses (statement_snapshot st.heap.statuses i) x v.header) ↔ HasMissed (state_of st.heap.statuses) (statement_sight st i) v
  statement-misses (BySnapshot snap) v = (λ m. m, λ m. m)
  statement-misses (ByStatement kept) v = (
    λ m. absurd (m.1.2 (Sees.early (given-before st.heap.statuses m.0 is (state-some st.heap.statuses m.0 Committed m.1.1).0))),
    λ m. absurd (m.1.2 m.1.1),
  )

-- Snapshots that are kept.

pub seen-kept : (i : SessionIsolation) → relation.kept_snapshot (isolation_seen i) ≡ kept_by i
seen-kept (BySnapshot snap) = refl
seen-kept (ByStatement kept) = refl

-- whose it is
pub kept-at : (st : State) (snap : Snap) → relation.IsKeptSnapshot (seen st).session snap → (s : ℕ) × (e : Session) × (session_at st s ≡ Some e) × (kept_by e.isolation ≡ Some snap)
kept-at st snap (s, r, at, kept) =
    let e = reader-at st s r at in
    (s, e.0, e.1, sym (seen-kept e.0.isolation) ∙ (ap (λ (r : relation.SeenSession). relation.kept_snapshot r.isolation) e.2 ∙ kept))

-- What a session keeps.

-- by statement nothing is kept where nothing is taken
pub kept-after : (i : SessionIsolation) (taken : Option Snap) (snap : Snap) → kept_by (keeping taken i) ≡ Some snap → (kept_by i ≡ Some snap) ⊎ (taken ≡ Some snap)
kept-after (BySnapshot s) taken snap is = inl is
kept-after (ByStatement old) taken snap is = inr is

-- the cursor of who keeps a snapshot reads by it, and else by one that lists nobody

pub kept-cursor : (w : Window) (i : SessionIsolation) (snap : Snap) → kept_by i ≡ Some snap → cursor_snapshot w i ≡ snap
kept-cursor w (BySnapshot s) snap is = same_Some s snap is
kept-cursor w (ByStatement (Some s)) snap is = same_Some s snap is
kept-cursor w (ByStatement None) snap is = absurd (none-some snap is)

pub bare-cursor : (w : Window) (i : SessionIsolation) → kept_by i ≡ None → cursor_snapshot w i ≡ empty_at (next_id w)
bare-cursor w (BySnapshot s) none = absurd (none-some s (sym none))
bare-cursor w (ByStatement (Some s)) none = absurd (none-some s (sym none))
bare-cursor w (ByStatement None) none = refl
