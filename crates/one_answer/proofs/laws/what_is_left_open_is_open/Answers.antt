use Rattle.one_answer.proofs.Opens.{where_done, where_lacking}
use Rattle.one_answer.proofs.laws.what_is_left_open_is_open.Goals as goal

pub returns : goal.returns
returns c w = record { done = where_done w; lacking = where_lacking w }
