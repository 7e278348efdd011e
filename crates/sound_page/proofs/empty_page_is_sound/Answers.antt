use Rattle.sound_page.proofs.Empty.{empty-page}
use Rattle.sound_page.proofs.empty_page_is_sound.Goals as goal

pub returns : goal.returns
returns c = empty-page
