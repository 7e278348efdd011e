use Rattle.sound_page.proofs.ReaderLemmas.{open-reader}
use Rattle.sound_page.proofs.open_readers_are_readers.Goals as goal

pub returns : goal.returns
returns c = open-reader
