-- `put_list` has laid the lines of the targets before the one that comes.
use Rattle.std.proofs.Common.{◌≡◌, ◌≤◌, length, take, arith, rules, length-take}
use Rattle.lists.proofs.Front.{length_mapped}
use Rattle.text_rules.proofs.Laid.{put_inside}
use Rattle.stream.proofs.Lengths.{going_first, going_next, going_end}
use Rattle.console_station.proofs.Listed.{targets_more, targets_none, targets_laid}
use Rattle.console_station.proofs.listing.put_list.Goals as goal

pub loop-t-init : goal.loop-t-init
loop-t-init c = going_first _ _ _ (search put_inside)

pub loop-t-preserved : goal.loop-t-preserved
loop-t-preserved c =
    let l = c.loop-t in
    going_next l.invariant 84 _ (targets_more _ l.t-index _ c.loop-t-test.true) c.put_target-next.ensures (omega arith)

pub returns : goal.returns
returns c =
    let ts = c.args.targets.now in
    let l = c.loop-t in
    let n = c.live-m.ensures in
    let all : length ts ≡ 64 = search (rules, length_mapped) in
    let short : length (take c.live-m.result ts) ≤ 64 = simp length-take (omega (arith, n.1)) in
    targets_laid c.args.n ts (omega (arith, n.0, all)) n.1 c.put_bytes-first.ensures c.put_decimal-end.ensures c.put_byte-next.ensures
    (going_end l.invariant 5376 (targets_none _ l.t-index c.loop-t-test.false) (omega (arith, short, l.auto.t-index-end)))
