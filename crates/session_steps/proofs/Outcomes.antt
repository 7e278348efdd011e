-- What is said of a refusal, where it holds, and what `?` hands on.
use Rattle.std.proofs.Common.{◌≡◌, Result, Err, ap, ◌∙◌}
use Rattle.std.specs.Prelude.{IsErrAnd}
use Rattle.std.proofs.lemmas.Result.{err_from_is_err_and}

-- it is the refusal that was met
pub handed-on : {T E : Type 0} {e : E} (r : Result T E) → IsErrAnd r (λ f. f ≡ e) → r ≡ Err e
handed-on r is = let met = err_from_is_err_and r is in met.1 ∙ ap Err met.2
