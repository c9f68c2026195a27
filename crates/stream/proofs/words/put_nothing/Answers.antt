-- `put_nothing` lays nothing.
use Rattle.std.proofs.Common.{[], arith}
use Rattle.text_rules.proofs.Laid.{put_none, put_out}
use Rattle.stream.proofs.words.put_nothing.Goals as goal

pub returns-then-out-at : goal.returns-then-out-at
returns-then-out-at c = record { put = put_out [] _ _ c.if-out-at.true; short = omega arith }

pub returns : goal.returns
returns c = record { put = put_none _ _ (omega arith); short = omega arith }
