-- Pages as they are, for plans that are made while steps go on.
use Rattle.std.specs.Prelude.{◌≡◌, ◌≤◌, ◌-◌, length, take, drop}
use Rattle.xid_circle.specs.Numbers.{PageNo}
use Rattle.page_views.specs.View.{PagesAt, numbered}
use Rattle.calls.specs.declared.reply.Refusal.{Refusal}
use Rattle.calls.specs.declared.reply.Refusal.TheVariants as refusal
use Rattle.session_steps.specs.State.{State, horizon_of}

-- the pages from one number up to another, the statuses of all ids that are remembered, and the horizon
pub record AreViews (st : State) (from to : PageNo) (views : PagesAt) : Type 0 where
  pub pages : views.pages ≡ numbered from (take (to - from) (drop from st.heap.pages.pages))
  pub statuses : views.statuses ≡ record st.heap.statuses { spare = views.statuses.spare }
  pub horizon : views.horizon ≡ horizon_of st

-- the numbers stand in order, and the last is not over that of the pages
abbrev pub AreNumbersOfPages : State → (from to : PageNo) → Type 0
AreNumbersOfPages st from to = (from ≤ to) × (to ≤ length st.heap.pages.pages)

abbrev pub RefusesViews : State → (from to : PageNo) → Refusal → Type 0
RefusesViews st from to refusal.NoSuchPage = ¬ AreNumbersOfPages st from to
RefusesViews st from to refusal.NoMemory = AreNumbersOfPages st from to
RefusesViews st from to _ = ⊥
