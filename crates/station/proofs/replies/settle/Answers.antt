-- `station::replies::settle` meets its contract: by the correction.
use Rattle.parity_rules.specs.Answers.{buffers}
use Rattle.station.proofs.Settling.{settled_refused, settled_taken}
use Rattle.station_rules.specs.Replies.{delay_of, received}
use Rattle.std.proofs.Common.{ap, ◌∙◌, w32, to_z, of_z}
use Rattle.std.proofs.lemmas.Result.{err_from_is_err_and}
use mir.ValLaws.{to_z-of_z}
use Rattle.station.proofs.replies.settle.Goals as goal

pub returns-in_err-flips : goal.returns-in_err-flips
returns-in_err-flips c = let a = c.args in
    let p = err_from_is_err_and c.from_residual.result c.from_residual.ensures.1 in
    rw (p.1, p.2)
    (settled_refused a.s.now (received a.entry a.tag a.msg.now a.marks.now a.out.now a.places.now) c.entry_of-e.result c.entry_of-e.ensures
    c.expected.result c.byte.result c.expected.ensures c.byte.ensures
    c.correct_as.result (buffers c.correct_as.new.out c.correct_as.new.places) c.correct_as.ensures _ c.in_err-flips.was)

pub returns : goal.returns
returns c = let a = c.args in
    let n = c.delay-delay.ensures in
    settled_taken a.s.now (received a.entry a.tag a.msg.now a.marks.now a.out.now a.places.now) c.entry_of-e.result c.entry_of-e.ensures
    c.expected.result c.byte.result c.expected.ensures c.byte.ensures
    c.correct_as.result (buffers c.correct_as.new.out c.correct_as.new.places) c.correct_as.ensures _ c.in_ok-flips.was
    c.value_in.result c.value_in.ensures (to_z w32 (of_z w32 c.delay-delay.result))
    ((rw n.0 (to_z-of_z w32 (delay_of c.entry_of-e.result c.start_of.result) n.1)) ∙ ap (delay_of c.entry_of-e.result) c.start_of.ensures)
    c.hear.new.t c.hear.ensures c.answer.new.p c.answer.ensures
