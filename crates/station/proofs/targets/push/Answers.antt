-- `station::targets::push` meets its contract: one more after those held.
use Rattle.std.proofs.Common.{◌≡◌, ◌+◌, [], ◌∷◌, ◌++◌, length, take, ap, arith, length-append}
use Rattle.lists.proofs.Over.{front_push}
use Rattle.station.proofs.targets.push.Goals as goal

pub returns : goal.returns
returns c = let t = c.args.t.now in
    let n = ap length c.held-n.ensures.value in
    let l = front_push t.n t.list c.args.x _ n (omega (arith, n, c.held-n.ensures.slots, c.requires)) in
    let k = length-append (take t.n t.list) (c.args.x ∷ []) in
    let m : length c.held-n.result.now + 1 ≡ length (take t.n t.list ++ (c.args.x ∷ [])) = omega (arith, n, k) in
    rw (l, m)
