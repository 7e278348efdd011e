use Rattle.std.proofs.Common.{◌≡◌, ℕ, List, ap, ◌∙◌}
use Rattle.tuple_header.specs.declared.version.Row.{Row}
use Rattle.sandpiper_c.proofs.PlacesLemmas.{places-next}
use Rattle.sandpiper_c.proofs.taking.put_rows.Goals as goal

pub loop-number-preserved : goal.loop-number-preserved
loop-number-preserved c =
    let row : Row = c.index-rows-number.result in
    let same : c.new.result ≡ row = c.new.ensures ∙ ap (λ (body : List ℕ). record row { body = record { items = body } }) c.as_slice.ensures.value in
    places-next c.args.rows.now c.args.places.now c.loop-number.places c.loop-number.number c.new.result _ _ c.put_into.new.place c.loop-number-test.true c.requires c.loop-number.invariant
    (same ∙ c.index-rows-number.is) c.put_into.ensures
