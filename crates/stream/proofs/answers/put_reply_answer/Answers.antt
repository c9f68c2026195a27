-- `put_reply_answer` lays four numbers, the delay with its sign, and the places.
use Rattle.std.proofs.Common.{◌≤◌, length, arith, w32}
use mir.ValLaws.{to_z-of_z}
use Rattle.places.proofs.Laying.{told_whole}
use Rattle.stream_rules.proofs.Placed.{reply_line_is, places_short}
use Rattle.stream.proofs.Lengths.{within, within_then, within_of, signed_short}
use Rattle.stream.proofs.answers.put_reply_answer.Goals as goal

pub returns : goal.returns
returns c =
    let ps = c.args.places.now in
    let fits = c.ranges.delay in
    let room : length ps ≤ 124 = omega (arith, c.requires.0) in
    let many = places_short ps room in
    let told = told_whole _ room c.put_places-end.ensures in
    within_of (reply_line_is _ _ _ _ _)
    (within_then c.put_number-at_kind.ensures
    (within_then c.put_number-at_answer.ensures
    (within_then c.put_number-at_flips.ensures
    (within_then c.put_number-at_delay.ensures
    (within_then (within 11 (signed_short _ fits) (rw (to_z-of_z w32 _ fits) at c.put_signed-at_places.ensures))
    (within_then (within 48 (omega (arith, many, c.requires.1)) told) (within 1 (omega arith) c.put_byte.ensures)))))))
