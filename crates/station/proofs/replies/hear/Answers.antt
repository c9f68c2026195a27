-- `station::replies::hear` meets its contract: by the target list.
use Rattle.std.proofs.Common.{sym, ◌∙◌}
use Rattle.station_rules.specs.Replies.{targets_heard}
use Rattle.station.proofs.replies.hear.Goals as goal

pub returns-then-in_list : goal.returns-then-in_list
unfolding targets_heard
returns-then-in_list c = simp (sym c.in_list.ensures ∙ c.if-in_list.true, c.put.ensures, c.say.ensures, c.expected.ensures, c.target_at-x.ensures)

pub returns-else-in_list : goal.returns-else-in_list
unfolding targets_heard
returns-else-in_list c = simp (sym c.in_list.ensures ∙ c.if-in_list.false)
