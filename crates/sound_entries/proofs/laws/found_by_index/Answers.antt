use Rattle.sound_entries.proofs.Leads.{visible-found}
use Rattle.sound_entries.proofs.laws.found_by_index.Goals as goal

pub returns : goal.returns
returns c = λ value_of since w pages entries s own sound active sees_none value key p t. visible-found value_of since w pages entries sound s own active sees_none value key p t
