-- `frames::frame::code_overlay` meets its contract: the number is the only answer that comes.
use native.Mathlib.Omega.{arith}
use Rattle.parity_rules.proofs.Laws.{code_is}
use Rattle.frames_rules.proofs.Told.{the_value, no_refusal}
use Rattle.frames.proofs.frame.code_overlay.Goals as goal

pub unwrap-requires : goal.unwrap-requires
unwrap-requires c = no_refusal _ _ (code_is _ c.args.cl c.args.ic (omega arith) (omega arith) c.code_overlay.ensures)

pub returns : goal.returns
returns c = the_value _ _ _ c.unwrap.ensures (code_is _ c.args.cl c.args.ic (omega arith) (omega arith) c.code_overlay.ensures)
