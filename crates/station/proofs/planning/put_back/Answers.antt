-- `station::planning::put_back` meets its contract: each request into the slots.
use Rattle.std.proofs.Common.{◌≡◌, length, refl, ◌∙◌, arith, length-set, rules}
use Rattle.lists.proofs.Front.{length_mapped}
use Rattle.lists.proofs.Copied.{copied_none, copied_more, copied_front, copied_count}
use Rattle.station_rules.specs.Planning.{request_of}
use Rattle.station.proofs.planning.put_back.Goals as goal

pub loop-i-init : goal.loop-i-init
loop-i-init c = (copied_none request_of c.args.asks c.args.w.now.list, refl)

pub loop-i-preserved : goal.loop-i-preserved
loop-i-preserved c = let e : length c.args.asks ≡ 128 = search (rules, length_mapped) in
    let f : length c.loop-i.w.list ≡ 128 = search (rules, length_mapped) in (
      copied_more _ c.args.asks _ c.loop-i.i _ _ (omega (arith, e)) (omega (arith, f, c.loop-i.invariant.1)) c.loop-i.invariant.0,
      length-set c.loop-i.w.list c.loop-i.i _ ∙ c.loop-i.invariant.1,
    )

pub returns : goal.returns
returns c = let e : length c.args.asks ≡ 128 = search (rules, length_mapped) in
    let l = copied_front _ c.args.m c.args.asks _ c.loop-i.i _ (omega arith) c.loop-i.invariant.0 in
    let k = copied_count request_of c.args.m c.args.asks c.live-n.result (omega arith) in
    rw (l, k)
