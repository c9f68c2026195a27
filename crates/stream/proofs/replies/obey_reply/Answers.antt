-- `obey_reply` takes the reply with the parts of the stream that hold message and marks, and lends zeros as long as the message, twice.
use Rattle.std.proofs.Common.{take, replicate, ap, ◌∙◌}
use Rattle.reader_rules.specs.declared.fields.Reply.{Reply}
use Rattle.station_rules.specs.Replies.{received, replied}
use Rattle.stream_rules.specs.Step.{part_of, replied_to, reply_to}
use Rattle.stream.proofs.Steps.{did_of, front_zeros}
use Rattle.stream.proofs.replies.obey_reply.Goals as goal

pub returns : goal.returns
returns c =
    let a = c.args in
    let n = c.message_length-size.result in
    did_of
    (ap (replied_to _ _)
    (ap (λ (q : Reply). replied a.st.now
    (received q.entry q.tag (part_of a.s.now q.message q.marks) (part_of a.s.now q.marks q.end)
    (take n (replicate 14 0)) (take n (replicate 14 0))))
    c.reply_at-q.ensures
    ∙ ap (reply_to a.s.now a.kind a.b a.st.now) (front_zeros a.kind n c.message_length-size.ensures.0)))
    c.put_taken.ensures
