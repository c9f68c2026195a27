-- `station::waiting::push` meets its contract: one more after those that wait.
use Rattle.std.proofs.Common.{◌≡◌, ◌+◌, [], ◌∷◌, ◌++◌, length, take, ap, arith, length-append}
use Rattle.lists.proofs.Over.{front_push}
use Rattle.station.proofs.waiting.push.Goals as goal

pub returns : goal.returns
returns c = let t = c.args.w.now in
    let n = ap length c.requests-n.ensures.value in
    let l = front_push t.n t.list c.args.q _ n (omega (arith, n, c.requests-n.ensures.slots, c.requires)) in
    let k = length-append (take t.n t.list) (c.args.q ∷ []) in
    let m : length c.requests-n.result.now + 1 ≡ length (take t.n t.list ++ (c.args.q ∷ [])) = omega (arith, n, k) in
    rw (l, m)
