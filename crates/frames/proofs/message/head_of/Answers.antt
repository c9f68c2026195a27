-- `frames::message::head_of` meets its contract: the number of the first four bytes.
use mathlib.Core.Path.{◌≡◌}
use native.Mathlib.Omega.{arith}
use lib.ListN.{length, take}
use lib.Seq.{length-take-le}
use Rattle.frames_rules.proofs.Laying.{at_least_seven}
use Rattle.frames_rules.specs.Fields.{head_of}
use Rattle.frames.proofs.message.head_of.Goals as goal

pub slice_bounds-number_in-end : goal.slice_bounds-number_in-end
slice_bounds-number_in-end c = omega (arith, at_least_seven (length c.args.msg.now) c.requires)

pub overflow_cast-result : goal.overflow_cast-result
overflow_cast-result c =
    let m = c.args.msg.now in
    let l : length (take 4 m) ≡ 4 = length-take-le 4 m (omega (arith, at_least_seven (length m) c.requires)) in
    omega (arith, rw l at c.number_in.ensures.1)

pub returns : goal.returns
unfolding head_of
returns c = c.number_in.ensures.0
