-- `put_values` lays 0, the flips, the delay, the places and the message.
use mir.Syntax.{w32}
use mir.ValLaws.{to_z-of_z}
use Rattle.text_rules.proofs.Laid.{put_then}
use Rattle.places.proofs.Laying.{told_whole}
use Rattle.console_rules.specs.Texts.{done_text}
use Rattle.console_station.proofs.replying.put_values.Goals as goal

pub returns : goal.returns
unfolding done_text
returns c =
    let signed = c.put_signed-behind.ensures in
    let ps = told_whole _ c.requires c.put_places-space.ensures in
    put_then c.put_bytes-first.ensures
    (put_then
    (put_then c.put_decimal-gap.ensures
    (put_then c.put_byte-second.ensures
    (put_then (rw (to_z-of_z w32 _ c.ranges.delay) at signed)
    (put_then ps (put_then c.put_byte-third.ensures c.put_hex-end.ensures)))))
    c.put_byte.ensures)
