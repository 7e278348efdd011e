use Rattle.std.proofs.Common.{◌∙◌, sym}
use Rattle.std.proofs.lemmas.Bool.{OnTrue_from}
use Rattle.dead_places.proofs.PlaceLemmas.{less_from_test, room_behind}
use Rattle.dead_places.proofs.dead_set.is_above.Goals as goal

pub returns-in-Some : goal.returns-in-Some
returns-in-Some c =
    OnTrue_from c.is_lt.result _
    (λ less. room_behind c.args.tids.now c.args.tid.now c.in-Some.last.now c.requires (sym c.in-Some.ensures.value)
    (sym c.compare_places.ensures ∙ less_from_test c.compare_places.result (sym c.is_lt.ensures ∙ less)))
