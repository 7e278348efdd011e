use Rattle.sound_entries.proofs.Going.{led-then}
use Rattle.sound_entries.proofs.laws.led_by_two_steps.Goals as goal

pub returns : goal.returns
returns c = led-then
