use Rattle.c_views.proofs.BytesLemmas.{page-written}
use Rattle.c_views.proofs.bytes.put_page.Goals as goal

pub returns : goal.returns
returns c = page-written _ _ _ _ c.bytes.ensures.page c.bytes.ensures.long c.bytes.ensures.accepted c.requires c.put_bytes.ensures
