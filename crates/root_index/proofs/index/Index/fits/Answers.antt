use Rattle.std.proofs.Common.{◌↔◌, IsTrue, subst}
use Rattle.entry_columns.specs.Fits.{Fits}
use Rattle.root_index.specs.View.{IndexView}
use Rattle.root_index.proofs.index.Index.fits.Goals as goal

pub returns : goal.returns
returns g c = subst (λ (v : IndexView). IsTrue c.fits.result ↔ Fits v.is_by_key v.is_narrow c.args.entry.now) c.self.view_is c.fits.ensures
