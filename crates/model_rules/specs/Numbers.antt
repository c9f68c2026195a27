-- Numbers given back, as a caller can work them out: the lines of each call's table after a story.
use Rattle.std.specs.Prelude.{List, length}
use Rattle.lists.specs.Checks.{Check}
use Rattle.model_rules.specs.Calls.{queuing_checks, taking_checks}
use Rattle.model_rules.specs.History.{Call, queue, take}
use Rattle.model_rules.specs.Story.{Told}

-- by the messages that wait and the time of the last frame, as they are told
unfoldable pub checks : Told → Call → List Check
unfolding queuing_checks taking_checks
checks s (queue m b) = queuing_checks (length s.messages) m
checks s (take time draw f) = taking_checks s.time time draw f
