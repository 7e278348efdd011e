use Rattle.std.proofs.Common.{◌∙◌, sym, ap, Ok}
use Rattle.page_slots.proofs.CheckLemmas.{checked-page}
use Rattle.page_slots.proofs.check.reads_back.Goals as goal

pub returns : goal.returns
returns c = c.check_page.ensures ∙ sym (checked-page c.bytes.result.now (c.bytes.ensures.accepted c.requires)) ∙ ap Ok c.bytes.ensures.page
