-- `parity::syndrome::syndrome_of` meets its contract. The invariant: r is the syndrome of x^k less the bytes that are left.
use Rattle.std.proofs.Common.{◌≡◌, ◌-◌, ◌*◌, ◌/◌}
use Rattle.parity_rules.specs.Division.{syndrome}
use Rattle.parity.proofs.syndrome.syndrome_of.Given as goal

abbrev pub invariant-loop : goal.invariant-loop
invariant-loop l = l.r ≡ syndrome (l.k - 8 * (l.k / 8 - l.counter))
