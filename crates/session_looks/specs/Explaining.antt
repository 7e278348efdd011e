-- Why a session finds the row of a key, or none.
use Rattle.std.specs.Prelude.{◌≡◌, ◌↔◌, ℕ, true, Option, Some, None, slice_get}
use Rattle.xid_circle.specs.Numbers.{Key, PageNo, Count}
use Rattle.xid_circle.specs.declared.Tid.{Tid}
use Rattle.tuple_header.specs.Version.{Version}
use Rattle.page_sheet.specs.Slots.{version_at}
use Rattle.page_slots.specs.View.{PageView}
use Rattle.prune.specs.declared.action.PrunePlan.{PrunePlan}
use Rattle.prune.specs.Pruning.{IsPlan}
use Rattle.index_lookup.specs.Pages.{slots_on}
use Rattle.table_indexes.specs.Indexes.{entries_in}
use Rattle.heap_write.specs.Heap.{slots_of}
use Rattle.history.specs.World.{World, OpenSession, view}
use Rattle.explanations.specs.declared.versions.ShownVersion.{ShownVersion}
use Rattle.explanations.specs.Shown.{IsNextPlace, IsShownAlong}
use Rattle.sound_explanations.specs.Showing.{Vantage, ShowsOnly}
use Rattle.slot_fates.specs.declared.fate.VersionFate.{VersionFate}
use Rattle.slot_fates.specs.Fates.{IsVersionFate, goes}
use Rattle.sessions.specs.declared.session.Session.{Session}
use Rattle.session_steps.specs.State.{State, session_at, horizon_of}
use Rattle.sessions.specs.Session.{statement_snapshot}
use Rattle.session_steps.specs.Agrees.{Agrees}
use Rattle.session_steps.specs.Exact.{Cleans}

-- the place to which the key's next entry leads, in the order of the index by key
abbrev pub IsNextEntry : State → Key → Option Tid → Option Tid → Type 0
IsNextEntry st key after answer = IsNextPlace (entries_in st.heap.indexes 0) key after answer

-- The version at this place of the chain to which an entry leads, if the chain is so long. The answer also says why a statement of the
-- session, begun now, sees it, or does not.
abbrev pub IsExplained : State → Session → Tid → Count → Option ShownVersion → Type 0
IsExplained st e place n answer =
    IsShownAlong st.heap.statuses (statement_snapshot st.heap.statuses e.isolation) e.own.ids (slots_on (slots_of st.heap) place.page) place.slot n answer

-- what pruning would follow now on a page
pub record IsPlanNow (st : State) (number : PageNo) (plan : PrunePlan) : Type 0 where
  pub page : PageView
  pub there : slice_get st.heap.pages.pages number ≡ Some page
  pub change : plan.change ≡ page.change
  pub exact : IsPlan st.heap.statuses (horizon_of st) page.slots plan.actions.items

-- from where a statement of the session, begun now, looks for a key
abbrev pub vantage_of : State → Session → Vantage
vantage_of st e = record {
  statuses = st.heap.statuses;
  snapshot = statement_snapshot st.heap.statuses e.isolation;
  own = e.own.ids;
  pages = slots_of st.heap;
  entries = entries_in st.heap.indexes 0;
}

-- Whatever world the engine agrees with: of all that an explanation of a key shows an open session, exactly one version is seen, with
-- the row of its view. Or none is seen, where the view has none.
abbrev pub ExplanationsShowTheView : Type 0
ExplanationsShowTheView = (st : State) (w : World) → Agrees st w → (s : ℕ) (e : Session) (m : OpenSession) → session_at st s ≡ Some e → w.session s ≡ Some m
    → (key : ℕ) → ShowsOnly (vantage_of st e) key (view w.history m key)

-- Whatever world the engine agrees with: where a page is pruned, a version goes exactly where its fate said so before.
abbrev pub FatesForeseePruning : Type 0
FatesForeseePruning = (st st' : State) (w : World) (p n : ℕ) (t : Version) (fate : VersionFate) → Agrees st w → Cleans st st' p
    → version_at (slots_on (slots_of st.heap) p) n ≡ Some t
    → IsVersionFate st.heap.statuses (horizon_of st) (slots_on (slots_of st.heap) p) n t.header fate
    → (version_at (slots_on (slots_of st'.heap) p) n ≡ None) ↔ (goes fate ≡ true)
