-- `frames::formats::short_reply` meets its contract: AC for UF 4 and 20, else ID.
use native.Mathlib.Omega.{arith}
use borrow.Author.Tests.{eq-eqb, ne_eqb}
use Rattle.frames.proofs.formats.short_reply.Goals as goal

pub returns-then-uf-eq4 : goal.returns-then-uf-eq4
returns-then-uf-eq4 c = (simp (eq-eqb _ _ c.if-uf-eq4.true), omega arith)

pub returns-then-uf-eq20 : goal.returns-then-uf-eq20
returns-then-uf-eq20 c = (simp (ne_eqb _ _ c.if-uf-eq4.false, eq-eqb _ _ c.if-uf-eq20.true), omega arith)

pub returns : goal.returns
returns c = (simp (ne_eqb _ _ c.if-uf-eq4.false, ne_eqb _ _ c.if-uf-eq20.false), omega arith)
