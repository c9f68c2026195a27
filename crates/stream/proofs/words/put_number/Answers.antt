-- `put_number` lays the number and the byte behind it.
use Rattle.std.proofs.Common.{◌≤◌, length, arith, length-append}
use Rattle.text_rules.specs.Put.{decimal}
use Rattle.text_rules.proofs.Decimal.{decimal_fits}
use Rattle.text_rules.proofs.Laid.{put_then}
use Rattle.stream.proofs.Lengths.{within}
use Rattle.stream.proofs.words.put_number.Goals as goal

pub returns : goal.returns
returns c =
    let n = c.args.n in
    let d : length (decimal n) ≤ 10 = decimal_fits n (omega arith) in
    within 12 (simp length-append (omega (arith, d)))
    (put_then c.put_decimal-end.ensures c.put_byte.ensures)
