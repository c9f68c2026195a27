-- One byte: it is written where it stands in the buffer.
use Rattle.text_rules.proofs.Laid.{put_one, put_out}
use Rattle.text.proofs.put.put_byte.Goals as goal

pub returns-then-at-out : goal.returns-then-at-out
returns-then-at-out c = put_one c.args.b c.args.at c.args.out.now c.if-at-out.true

pub returns : goal.returns
returns c = put_out _ c.args.at c.args.out.now c.if-at-out.false
