-- `five_hundreds` is the Gray value of the eight bits.
use mathlib.Core.Path.{ap, ◌∙◌}
use Rattle.altitude_rules.specs.Code.{five_hundreds, gray_value}
use Rattle.altitude.proofs.code.five_hundreds.Goals as goal

pub returns : goal.returns
unfolding five_hundreds
returns c =
    let r = c.from_gray.ensures in
    (r.0 ∙ ap (gray_value 8) c.eight_bits.ensures.0, r.1)
