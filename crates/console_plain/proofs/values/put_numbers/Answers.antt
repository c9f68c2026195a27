-- `put_numbers` has put the numbers so far.
use native.Mathlib.Omega.{arith}
use Rattle.text_rules.proofs.Laid.{put_inside, put_out, still_first}
use Rattle.console_plain.proofs.Frames.{numbers_more, numbers_end}
use Rattle.console_plain.proofs.values.put_numbers.Goals as goal

pub returns-then-out-at : goal.returns-then-out-at
returns-then-out-at c = search put_out

pub loop-n-init : goal.loop-n-init
loop-n-init c = (still_first _ _ _, omega arith)

pub loop-n-preserved : goal.loop-n-preserved
loop-n-preserved c = (search numbers_more, search put_inside)

pub returns : goal.returns
returns c = search (numbers_end, arith)
