-- `frames::formats::surveillance` meets its contract: the two short formats, then the long ones.
use borrow.Author.Tests.{eq-eqb, ne_eqb}
use Rattle.frames.proofs.formats.surveillance.Goals as goal

pub returns-then-f-eq4 : goal.returns-then-f-eq4
returns-then-f-eq4 c = simp (eq-eqb _ _ c.if-f-eq4.true)

pub returns-then-f-eq5 : goal.returns-then-f-eq5
returns-then-f-eq5 c = simp (ne_eqb _ _ c.if-f-eq4.false, eq-eqb _ _ c.if-f-eq5.true)

pub returns : goal.returns
returns c = simp (ne_eqb _ _ c.if-f-eq4.false, ne_eqb _ _ c.if-f-eq5.false) c.long_format.ensures
