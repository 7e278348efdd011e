use Rattle.stories.proofs.OutcomeLemmas.{no-story, told-from_first}
use Rattle.stories.proofs.story.tell_logged.Goals as goal

pub returns-clause-outcome : goal.returns-clause-outcome
returns-clause-outcome g c = told-from_first _ _ _ _ _ _ _ _ _ _ c.in-Ok-first_of.ensures.begins c.in-Ok-first_of.ensures.quiet c.as_slice.ensures.value c.tell_from.ensures.told

pub returns-in-Err-first_of-clause-outcome : goal.returns-in-Err-first_of-clause-outcome
returns-in-Err-first_of-clause-outcome g c = no-story c.in-Err-first_of.fault _ _ _ c.in-Err-first_of.ensures.fails c.in-Err-first_of.ensures.quiet
