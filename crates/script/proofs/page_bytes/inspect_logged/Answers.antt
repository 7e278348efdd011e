use Rattle.script.proofs.InspectLemmas.{read_outcome}
use Rattle.script.proofs.page_bytes.inspect_logged.Goals as goal

pub returns-in-Ok-read_page-clause-outcome : goal.returns-in-Ok-read_page-clause-outcome
returns-in-Ok-read_page-clause-outcome g c =
    let told = rw c.as_slice.ensures at c.write_page.ensures.outcome in
    read_outcome _ _ _ _ _ _ _ c.in-Ok.ensures c.read_page.ensures.takes c.in-Ok-read_page.ensures.end told
