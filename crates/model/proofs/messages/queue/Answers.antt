-- `model::messages::queue` meets its contract: check by check.
use mathlib.Core.Path.{◌≡◌}
use Rattle.frames_rules.specs.Bytes.{number_of_bytes}
use Rattle.frames_rules.proofs.Numbers.{seven_bytes}
use borrow.Author.Rules.{rules}
use Rattle.lists.proofs.Checks.{all, stop, end, tests}
use Rattle.model_rules.specs.Calls.{not_queued, queuing}
use Rattle.model.proofs.Steps.{counted}
use Rattle.model.proofs.messages.queue.Goals as goal
use Rattle.model.proofs.messages.queue.Goals.{After-number_of}

-- the number that the code makes of the message
message : (c : After-number_of) → c.number_of.result ≡ number_of_bytes c.args.message.now
message c = seven_bytes c.args.message.now c.number_of.ensures (search rules)

pub returns-then-message-ne7 : goal.returns-then-message-ne7
unfolding queuing
returns-then-message-ne7 c = stop (not_queued _) _ 1 all (search tests depth 12) (search tests)

pub returns-then-count-ge8 : goal.returns-then-count-ge8
unfolding queuing
returns-then-count-ge8 c = stop (not_queued _) _ 6 all (search tests depth 12) (search counted)

pub push-requires : goal.push-requires
unfolding queuing
push-requires c = search counted

pub returns : goal.returns
unfolding queuing
returns c = rw (c.push.ensures, message (goal.at.returns c).After-number_of) (end (not_queued _) _ all (search counted depth 12))
