-- `put_taken` lays what the station answers and leaves in its buffers.
use Rattle.std.proofs.Common.{◌∙◌, rules}
use Rattle.station_rules.specs.Answers.{reply_as}
use Rattle.station_rules.proofs.Replies.{places_few}
use Rattle.stream.proofs.Steps.{reply_number}
use Rattle.console_station.proofs.Said.{reply_answered, into_zeros, zeros_few}
use Rattle.console_station.proofs.replying.put_taken.Goals as goal

pub put_replied-requires : goal.put_replied-requires
put_replied-requires c =
    let r = c.take_reply-r.result in
    let s = c.take_reply-r.new.s in
    (search (rules, zeros_few), search (rules, zeros_few), λ z. places_few _ _ (reply_as r s) _ c.take_reply-r.ensures (reply_number r s ∙ z))

pub returns : goal.returns
returns c = reply_answered (into_zeros _ _ _ _ _ c.take_reply-r.ensures c.requires.0 c.requires.1) (c.put_replied.ensures c.take_reply-r.new.s)
