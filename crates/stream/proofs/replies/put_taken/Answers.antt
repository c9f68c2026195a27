-- `put_taken` lays the line of what the station answers; a taken reply has 12 places at most.
use Rattle.std.proofs.Common.{◌∙◌, rules}
use Rattle.station_rules.specs.Answers.{reply_as}
use Rattle.station_rules.proofs.Replies.{places_few}
use Rattle.stream.proofs.Steps.{reply_number}
use Rattle.stream.proofs.replies.put_taken.Goals as goal

pub put_replied-requires : goal.put_replied-requires
put_replied-requires c =
    let r = c.take_reply-r.result in
    let st = c.take_reply-r.new.s in
    (search rules, λ z. places_few _ _ (reply_as r st) _ c.take_reply-r.ensures (reply_number r st ∙ z))
