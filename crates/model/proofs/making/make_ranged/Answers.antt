-- `model::making::make_ranged` meets its contract: test by test.
use borrow.Author.Tests.{le-leb, lt-leb}
use native.Mathlib.Omega.{arith}
use Rattle.model_rules.specs.Calls.{make_ranged}
use Rattle.model.proofs.making.make_ranged.Goals as goal

pub returns-then-address-eq0 : goal.returns-then-address-eq0
unfolding make_ranged
returns-then-address-eq0 c = simp c.if-address-eq0.true

pub returns-then-address-gt16777214 : goal.returns-then-address-gt16777214
unfolding make_ranged
returns-then-address-gt16777214 c = simp (le-leb 1 c.args.address (omega arith), lt-leb _ _ c.if-address-gt16777214.true)

pub returns-then-ac-gt8191 : goal.returns-then-ac-gt8191
unfolding make_ranged
returns-then-ac-gt8191 c =
    simp (le-leb 1 c.args.address (omega arith), le-leb _ _ c.if-address-gt16777214.false, lt-leb _ _ c.if-ac-gt8191.true)

pub returns-then-id-gt8191 : goal.returns-then-id-gt8191
unfolding make_ranged
returns-then-id-gt8191 c =
    simp (le-leb 1 c.args.address (omega arith), le-leb _ _ c.if-address-gt16777214.false, le-leb _ _ c.if-ac-gt8191.false, lt-leb _ _ c.if-id-gt8191.true)

pub returns-then-fs-gt7 : goal.returns-then-fs-gt7
unfolding make_ranged
returns-then-fs-gt7 c =
    simp (
      le-leb 1 c.args.address (omega arith),
      le-leb _ _ c.if-address-gt16777214.false,
      le-leb _ _ c.if-ac-gt8191.false,
      le-leb _ _ c.if-id-gt8191.false,
      lt-leb _ _ c.if-fs-gt7.true,
    )

pub returns : goal.returns
unfolding make_ranged
returns c =
    simp (
      le-leb 1 c.args.address (omega arith),
      le-leb _ _ c.if-address-gt16777214.false,
      le-leb _ _ c.if-ac-gt8191.false,
      le-leb _ _ c.if-id-gt8191.false,
      le-leb _ _ c.if-fs-gt7.false,
    )
