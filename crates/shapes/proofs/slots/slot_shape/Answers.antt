use Rattle.std.proofs.Common.{◌≡◌, true, refl, sym, subst}
use Rattle.std.specs.Prelude.{◌↔◌, Bool}
use Rattle.sound_page.specs.Dead.{IsDeadAt}
use Rattle.session_steps.specs.State.{horizon_of}
use Rattle.shapes.specs.Shapes.{slots_at}
use Rattle.shapes.proofs.SlotLemmas.{dead-fate}
use Rattle.shapes.proofs.slots.slot_shape.Goals as goal

pub returns : goal.returns
returns c =
    let st = c.args.engine.now.engine.core in
    let place = c.args.place in
    record {
      place_is = refl;
      fate = c.requires;
      dead = subst (λ (b : Bool). IsDeadAt st.heap.statuses (horizon_of st) (slots_at st place.page) place.slot ↔ (b ≡ true)) (sym c.is_dead.ensures)
          (dead-fate st.heap.statuses (horizon_of st) (slots_at st place.page) place.slot c.args.fate c.requires);
      version = c.version_at_place.ensures;
    }
