-- `is_reached` asks for a multiple, then for both ends.
use Prim.Native.Nat.{◌%◌}
use borrow.Author.Tests.{eq-eqb, ne_eqb, le-leb, lt-leb}
use Rattle.altitude_rules.specs.WayBack.{reaches}
use Rattle.altitude.proofs.way_back.is_reached.Goals as goal

pub returns-then-up-step-ne0 : goal.returns-then-up-step-ne0
unfolding reaches
returns-then-up-step-ne0 c =
    let a = c in
    let u = a.args in
    rw (ne_eqb (u.up % u.step) 0 c.if-up-step-ne0.true)

pub returns-then-up-low : goal.returns-then-up-low
unfolding reaches
returns-then-up-low c =
    let a = c in
    let u = a.args in
    rw (eq-eqb (u.up % u.step) 0 c.if-up-step-ne0.false, lt-leb u.low u.up c.if-up-low.true)

pub returns : goal.returns
unfolding reaches
returns c =
    let a = c in
    let u = a.args in
    rw (eq-eqb (u.up % u.step) 0 c.if-up-step-ne0.false, le-leb u.low u.up c.if-up-low.false)
