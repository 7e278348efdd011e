use Rattle.sound_entries.proofs.Leads.{touched-found}
use Rattle.sound_entries.proofs.laws.touched_by_index.Goals as goal

pub returns : goal.returns
returns c = λ value_of w pages entries x sound alive value key p t. touched-found value_of w pages entries sound x alive value key p t
