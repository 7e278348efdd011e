use Rattle.std.proofs.Common.{ap, sym, ◌∙◌}
use Rattle.std.specs.Prelude.{Option, unwrap_or}
use Rattle.std.proofs.lemmas.Option.{unwrap_or-slice_get}
use Rattle.space_maps.specs.declared.mark.Mark.{Mark}
use Rattle.space_maps.specs.declared.mark.Mark.TheVariants.{Nothing}
use Rattle.space_maps.specs.View.{says_visible}
use Rattle.index_lookup.proofs.key_scan.is_noted_visible.Goals as goal

pub returns-in-None : goal.returns-in-None
returns-in-None c =
    ap says_visible (ap (λ (o : Option Mark). unwrap_or o Nothing) (sym c.in-None.is ∙ c.mark.ensures) ∙ unwrap_or-slice_get c.args.pages.now.marks c.args.number Nothing)
