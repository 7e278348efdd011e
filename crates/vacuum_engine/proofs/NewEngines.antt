-- A new engine, with no page and no vacuum.
use Rattle.std.proofs.Common.{◌≡◌, ℕ, List, [], length, Some, None, arith, sym, ap, ◌∙◌, slice_get}
use Rattle.std.specs.Prelude.{is_some}
use Rattle.std.proofs.lemmas.Option.{none-some, slice_get_past}
use Rattle.page_slots.specs.View.{PageView}
use Rattle.space_maps.specs.declared.mark.Mark.{Mark}
use Rattle.calls.specs.declared.settings.Settings.{Settings}
use Rattle.session_steps.specs.New.{IsNew}
use Rattle.vacuum_engine.specs.State.{EngineView}
use Rattle.vacuum_engine.specs.New.{IsNewEngine}

no-page : (pages : List PageView) → pages ≡ [] → (n : ℕ) (page : PageView) → slice_get pages n ≡ Some page → ⊥
no-page pages none n page at =
    none-some page (sym (slice_get_past {X = PageView} [] n (omega arith)) ∙ ap (λ (ps : List PageView). slice_get ps n) (sym none) ∙ at)

pub new-engine : (asked : Settings) (e : EngineView) → IsNew asked e.core → e.vacuum ≡ None → IsNewEngine asked e
new-engine asked e new none = record {
  core = new;
  vacuum = none;
  agrees = record {
    core = new.agrees;
    runs = ap is_some (sym none);
    maps = record {
      count = ap (λ (ms : List Mark). length ms) new.marks ∙ sym (ap (λ (ps : List PageView). length ps) new.pages);
      true_marks = λ n page at. absurd (no-page e.core.heap.pages.pages new.pages n page at);
      true_flags = λ n page at. absurd (no-page e.core.heap.pages.pages new.pages n page at);
    };
    vacuum = λ v is. absurd (none-some v (sym none ∙ is));
    within = λ v is. absurd (none-some v (sym none ∙ is));
  };
}
