-- `frames::frame::fill` meets its contract: the first four bytes, then the seven of a long frame.
use mathlib.Core.Path.{sym, ap, ◌∙◌}
use mathlib.Core.List.{List}
use Prim.Native.Nat.{ℕ}
use native.Mathlib.Omega.{arith}
use lib.ListN.{length}
use lib.Seq.{sets, length-sets}
use Rattle.frames_rules.specs.Bytes.{bytes_of}
use Rattle.frames_rules.proofs.Laying.{at_least_seven, fill_short, fill_long}
use Rattle.frames.proofs.frame.fill.Goals as goal

pub put-requires : goal.put-requires
put-requires c =
    (omega arith, omega (arith, at_least_seven (length c.args.out.now) c.requires))

pub returns-then-out-ne14 : goal.returns-then-out-ne14
returns-then-out-ne14 c =
    let a = c.args in
    let e = c.put.ensures in
    e ∙ fill_short a.out.now a.head a.mid c.requires (λ q. c.if-out-ne14.true (ap length e ∙ length-sets a.out.now 0 (bytes_of 4 a.head) ∙ q))

pub returns : goal.returns
returns c =
    let a = c.args in
    let e = c.put.ensures in
    c.put-2.ensures
    ∙ ap (λ (l : List ℕ). sets l 4 (bytes_of 7 a.mid)) e
    ∙ fill_long a.out.now a.head a.mid (sym (length-sets a.out.now 0 (bytes_of 4 a.head)) ∙ sym (ap length e) ∙ c.if-out-ne14.false)
