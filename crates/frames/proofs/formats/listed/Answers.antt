-- `frames::formats::listed` meets its contract: the length, then the formats.
use borrow.Author.Tests.{eq-eqb, ne_eqb}
use Rattle.frames.proofs.formats.listed.Goals as goal

pub returns-then-n-length_of : goal.returns-then-n-length_of
returns-then-n-length_of c = simp (← c.length_of.ensures, ne_eqb _ _ c.if-n-length_of.true)

pub returns-then-f-eq11 : goal.returns-then-f-eq11
returns-then-f-eq11 c = simp (← c.length_of.ensures, eq-eqb _ _ c.if-n-length_of.false, eq-eqb _ _ c.if-f-eq11.true)

pub returns : goal.returns
returns c =
    simp (← c.length_of.ensures, eq-eqb _ _ c.if-n-length_of.false, ne_eqb _ _ c.if-f-eq11.false) c.surveillance.ensures
