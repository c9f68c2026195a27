-- `station::replies::take_reply` meets its contract: the first lines of its table, then its entry's, then the correction's.
use Rattle.lists.proofs.Checks.{all, stop, tests}
use Rattle.parity_rules.specs.Correction.{sized}
use Rattle.station.proofs.Replying.{entry_refused, entry_passed, entry_window}
use Rattle.station_rules.specs.Replies.{Received, received, refused_reply, replied}
use Rattle.station_rules.specs.State.{entries_of}
use Rattle.std.proofs.Common.{◌≡◌, ◌<◌, true, length, sym, ◌∙◌, arith}
use Rattle.std.proofs.lemmas.Result.{err_from_is_err_and}
use Rattle.station.proofs.replies.take_reply.Goals as goal
use Rattle.station.proofs.replies.take_reply.Goals.{After-judge_entry}

-- ---- what is known where the entry is judged
abbrev reply : After-judge_entry → Received
reply c = let a = c.args in received a.entry a.tag a.msg.now a.marks.now a.out.now a.places.now

sizes : (c : After-judge_entry) → let a = c.args in
    sized (length a.msg.now) (length a.marks.now) (length a.out.now) (length a.places.now) ≡ true
sizes c = sym c.sized.ensures ∙ c.if-not-sized.false

listed : (c : After-judge_entry) → let a = c.args in a.entry < length (entries_of a.s.now.plan)
listed c = omega arith

pub returns-then-not-sized : goal.returns-then-not-sized
unfolding replied
returns-then-not-sized c = stop (refused_reply _ _) _ 1 all (search tests depth 12) (search tests)

pub returns-then-entry_count-entry : goal.returns-then-entry_count-entry
unfolding replied
returns-then-entry_count-entry c = stop (refused_reply _ _) _ 7 all (search tests depth 12) (search tests)

pub returns-in_err-judge_entry : goal.returns-in_err-judge_entry
returns-in_err-judge_entry c = let k = (goal.at.returns-in_err-judge_entry c).After-judge_entry in
    let p = err_from_is_err_and c.from_residual.result c.from_residual.ensures.1 in
    rw (p.1, p.2)
    (entry_refused c.args.s.now (reply k) (sizes k) (listed k) _ c.entry_of.ensures _ c.start_of.ensures _ c.in_err-judge_entry.ensures)

pub settle-requires-clause-tag_value : goal.settle-requires-clause-tag_value
settle-requires-clause-tag_value c = let k = (goal.at.settle-requires-clause-tag_value c).After-judge_entry in
    entry_window c.args.s.now (reply k) (sizes k) (listed k) _ c.entry_of.ensures _ c.start_of.ensures c.in_ok-judge_entry.ensures

pub returns : goal.returns
returns c = let k = (goal.at.returns c).After-judge_entry in
    c.settle.ensures
    ∙ entry_passed c.args.s.now (reply k) (sizes k) (listed k) _ c.entry_of.ensures _ c.start_of.ensures c.in_ok-judge_entry.ensures
