-- `put_locks` has put the codes of the timers before place i.
use native.Mathlib.Omega.{arith}
use Rattle.lists.proofs.Front.{length_mapped}
use Rattle.text_rules.proofs.Laid.{put_inside, put_out, still_first}
use Rattle.console_aircraft.proofs.Texts.{locks_more, locks_end}
use borrow.Author.Rules.{rules}
use Rattle.console_aircraft.proofs.showing.put_locks.Goals as goal

pub returns-then-out-at : goal.returns-then-out-at
returns-then-out-at c = search put_out

pub loop-i-init : goal.loop-i-init
loop-i-init c = (still_first _ _ _, omega arith, search (rules, length_mapped))

pub loop-i-preserved : goal.loop-i-preserved
loop-i-preserved c = (search locks_more, search put_inside, search)

pub returns : goal.returns
returns c = search locks_end
