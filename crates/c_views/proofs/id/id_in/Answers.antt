use Rattle.std.proofs.Common.{ap, ◌∙◌}
use Rattle.c_views.specs.Ids.{shown_id}
use Rattle.c_views.proofs.id.id_in.Goals as goal

pub returns-clause-shown : goal.returns-clause-shown
returns-clause-shown c = record {
  owner = c.owner_of-owner.result;
  owns = c.owner_of-owner.ensures.owner;
  is_shown = c.of_id.ensures ∙ ap (λ state. shown_id state c.owner_of-owner.result) c.status_of-state.ensures.value;
}
