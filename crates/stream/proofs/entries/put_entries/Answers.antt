-- `put_entries` has put the lines of the entries before number k.
use Rattle.std.proofs.Common.{◌≤◌, length, take, arith, rules, ap, length-take}
use Rattle.lists.proofs.Front.{length_mapped}
use Rattle.text_rules.proofs.Laid.{put_inside}
use Rattle.stream_rules.specs.Lines.{entry_lines}
use Rattle.stream.proofs.Lengths.{going_first, going_next, going_end, within_then, within_of}
use Rattle.stream.proofs.PlanLines.{entries_more, entries_none, entries_live}
use Rattle.stream.proofs.entries.put_entries.Goals as goal

pub loop-k-init : goal.loop-k-init
loop-k-init c = going_first _ _ _ (search put_inside)

pub loop-k-preserved : goal.loop-k-preserved
loop-k-preserved c =
    let l = c.loop-k in
    going_next l.invariant 72 _ (entries_more _ l.k _ c.loop-k-test.true) c.put_entry-next.ensures (omega arith)

pub returns : goal.returns
returns c =
    let es = c.args.entries.now in
    let l = c.loop-k in
    let short : length (take c.live.result es) ≤ 128 = simp length-take (omega (arith, c.live.ensures.1)) in
    within_of (ap (entry_lines 0) (entries_live es c.args.n c.live.ensures.0 (search (rules, length_mapped))))
    (within_then c.put_nothing-next.ensures
    (going_end l.invariant 9216 (entries_none _ l.k c.loop-k-test.false) (omega (arith, short, l.auto.k-end))))
