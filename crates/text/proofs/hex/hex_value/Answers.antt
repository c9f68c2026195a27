-- What a byte counts: one return for each range.
use native.Mathlib.Omega.{arith}
use Rattle.text_rules.specs.Number.{is_digit}
use Rattle.text_rules.specs.Hex.{hex_value}
use Rattle.text.proofs.Values.{in_range_is, under, over}
use Rattle.text.proofs.hex.hex_value.Goals as goal

pub returns-then-b-lt48 : goal.returns-then-b-lt48
unfolding hex_value is_digit
returns-then-b-lt48 c =
    let b = c.args.b in
    rw (under 48 57 b (omega arith), under 65 70 b (omega arith), under 97 102 b (omega arith))

pub returns-then-b-le57 : goal.returns-then-b-le57
unfolding hex_value is_digit
returns-then-b-le57 c =
    let b = c.args.b in
    rw (in_range_is 48 57 b (omega arith) (omega arith))

pub returns-then-b-lt65 : goal.returns-then-b-lt65
unfolding hex_value is_digit
returns-then-b-lt65 c =
    let b = c.args.b in rw (over 48 57 b (omega arith) (omega arith), under 65 70 b (omega arith), under 97 102 b (omega arith))

pub returns-then-b-le70 : goal.returns-then-b-le70
unfolding hex_value is_digit
returns-then-b-le70 c =
    let b = c.args.b in rw (over 48 57 b (omega arith) (omega arith), in_range_is 65 70 b (omega arith) (omega arith))

pub returns-then-b-lt97 : goal.returns-then-b-lt97
unfolding hex_value is_digit
returns-then-b-lt97 c =
    let b = c.args.b in rw (over 48 57 b (omega arith) (omega arith), over 65 70 b (omega arith) (omega arith), under 97 102 b (omega arith))

pub returns-then-b-le102 : goal.returns-then-b-le102
unfolding hex_value is_digit
returns-then-b-le102 c =
    let b = c.args.b in
    rw (over 48 57 b (omega arith) (omega arith), over 65 70 b (omega arith) (omega arith), in_range_is 97 102 b (omega arith) (omega arith))

pub returns : goal.returns
unfolding hex_value is_digit
returns c =
    let b = c.args.b in rw (over 48 57 b (omega arith) (omega arith), over 65 70 b (omega arith) (omega arith), over 97 102 b (omega arith) (omega arith))
