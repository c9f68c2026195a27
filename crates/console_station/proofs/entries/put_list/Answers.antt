-- `put_list` has laid the lines of the entries before number k.
use Rattle.std.proofs.Common.{◌≡◌, ◌≤◌, length, take, arith, rules, length-take}
use Rattle.lists.proofs.Front.{length_mapped}
use Rattle.text_rules.proofs.Laid.{put_inside}
use Rattle.stream.proofs.Lengths.{going_first, going_next, going_end}
use Rattle.console_station.proofs.Listed.{entries_more, entries_none, entries_laid}
use Rattle.console_station.proofs.entries.put_list.Goals as goal

pub loop-k-init : goal.loop-k-init
loop-k-init c = going_first _ _ _ (search put_inside)

pub loop-k-preserved : goal.loop-k-preserved
loop-k-preserved c =
    let l = c.loop-k in
    going_next l.invariant 82 _ (entries_more _ l.k _ c.loop-k-test.true) c.put_line-next.ensures (omega arith)

pub returns : goal.returns
returns c =
    let a = c.args in
    let es = a.entries.now in
    let l = c.loop-k in
    let n = c.live-m.ensures in
    let all : length es ≡ 128 = search (rules, length_mapped) in
    let short : length (take c.live-m.result es) ≤ 128 = simp length-take (omega (arith, n.1)) in
    entries_laid a.n es a.tag (omega (arith, n.0, all)) n.1 (omega arith) c.put_bytes-first.ensures c.put_decimal-gap.ensures
    c.put_byte-behind.ensures c.put_decimal-end.ensures c.put_byte-next.ensures
    (going_end l.invariant 10496 (entries_none _ l.k c.loop-k-test.false) (omega (arith, short, l.auto.k-end)))
