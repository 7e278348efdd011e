use Rattle.script_text.proofs.PageLemmas.{ok_page}
use Rattle.script.proofs.InspectLemmas.{told_outcome, page_text, whole_page}
use Rattle.script.proofs.page_bytes.write_page.Goals as goal

pub tell_bytes-requires : goal.tell_bytes-requires
tell_bytes-requires g c = whole_page _ (ok_page _ _ _ c.in-Ok.ensures).0

pub returns-clause-outcome : goal.returns-clause-outcome
returns-clause-outcome g c =
    let checked = ok_page _ _ _ c.in-Ok.ensures in
    let text = page_text _ _ _ _ checked.1 c.new-text.ensures.items c.in_default.ensures in
    told_outcome _ _ _ _ _ _ checked.0 text c.write_out.ensures.all c.write_out.ensures.prefix c.write_out.ensures.fault
