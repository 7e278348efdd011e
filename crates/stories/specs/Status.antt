-- The statuses that the program ends with.
use Rattle.std.specs.Prelude.{ℕ}
use Rattle.stories.specs.DrawStatus.{draw_status_of}
use Rattle.stories.specs.declared.fault.StoryFault.{StoryFault}
use Rattle.stories.specs.declared.fault.StoryFault.TheVariants.{Drawing, TooManyLines}

abbrev pub story_status_of : StoryFault → ℕ
story_status_of (Drawing fault) = draw_status_of fault
story_status_of TooManyLines = 1
