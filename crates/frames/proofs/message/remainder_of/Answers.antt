-- `frames::message::remainder_of` meets its contract: the number is the only answer that comes.
use native.Mathlib.Omega.{arith}
use Rattle.parity_rules.proofs.Laws.{remainder_is, remainder_lt}
use Rattle.frames_rules.proofs.Told.{the_value, no_refusal}
use Rattle.frames.proofs.message.remainder_of.Goals as goal

pub unwrap-requires : goal.unwrap-requires
unwrap-requires c = no_refusal _ _ (remainder_is _ c.args.msg.now c.requires c.remainder.ensures)

pub returns : goal.returns
returns c =
    let e = the_value _ _ _ c.unwrap.ensures (remainder_is _ c.args.msg.now c.requires c.remainder.ensures) in
    (e, omega (arith, e, remainder_lt c.args.msg.now))
