use Rattle.std.proofs.Common.{rules, ◌≡◌, ◌∙◌, ◌+◌, if◌then◌else◌, ap, sym, subst, ℕ, List}
use Rattle.freeze.specs.DeadSlots.{ListsDead}
use Rattle.vacuum_passes.proofs.visiting.clean_and_collect.Goals as goal

pub returns : goal.returns
returns c =
    let clean = c.clean-dead.ensures in
    let noted = clean.freezes in
    let collect = c.collect-left_over in
    let same : c.as_slice.result.now ≡ c.clean-dead.result.items = search rules in
    record {
      page = record { visited = noted.frozen; visits = record { pruned = clean.pruned; prunes = clean.prunes; freezes = noted.freezes }; notes = noted.notes };
      dead = c.as_slice.result.now;
      lists = subst (λ (dead : List ℕ). ListsDead noted.notes.page.slots dead) (sym same) noted.lists;
      store = collect.ensures.store;
      onward = c.page_after.ensures ∙ ap (λ b. if b then c.args.number else c.args.number + 1) collect.ensures.left;
      phase = c.phase_after.ensures;
    }
