use Rattle.std.proofs.Common.{sym, ◌∙◌}
use Rattle.visibility.specs.Reading.{IsSeenBy}
use Rattle.index_lookup.proofs.KeyLemmas.{place-hides}
use Rattle.index_lookup.proofs.key_scan.place_shows.Goals as goal

pub returns-in-None : goal.returns-in-None
returns-in-None c = (
  λ yes. absurd (cc),
  λ shows. absurd (place-hides c.args.reader.now.statuses.now (IsSeenBy c.args.reader.now) c.args.pages.now c.args.place
      (λ noted. absurd (let is = sym c.is_noted_visible.ensures ∙ c.if-is_noted_visible.false in cc)) c.in-None.ensures shows),
)
