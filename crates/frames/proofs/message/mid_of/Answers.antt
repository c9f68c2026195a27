-- `frames::message::mid_of` meets its contract: zero, or the number of the seven bytes.
use borrow.Author.Tests.{eq-eqb, ne_eqb}
use Rattle.frames_rules.specs.Fields.{mid_of}
use Rattle.frames.proofs.message.mid_of.Goals as goal

pub returns-then-msg-ne14 : goal.returns-then-msg-ne14
unfolding mid_of
returns-then-msg-ne14 c = simp (ne_eqb _ _ c.if-msg-ne14.true)

pub returns : goal.returns
unfolding mid_of
returns c = simp (eq-eqb _ _ c.if-msg-ne14.false) c.number_in.ensures.0
