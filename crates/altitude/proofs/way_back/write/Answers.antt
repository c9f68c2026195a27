-- `write` asks which form reaches, the 25 ft form first, and writes its code.
use native.Mathlib.Omega.{arith}
use mathlib.Core.Path.{◌≡◌, sym, ap, ◌∙◌}
use mathlib.Core.Bool.{true, false}
use mir.Syntax.{w32}
use mir.ValLaws.{to_z-of_z}
use Rattle.altitude_rules.specs.WayBack.{raised, reaches25, reaches100}
use Rattle.altitude_rules.proofs.WayBack.{reached, written_by_25, written_by_100, not_written}
use Rattle.altitude.proofs.way_back.write.Goals as goal
use Rattle.altitude.proofs.way_back.write.Goals.{After-is_reached, After-raise-up, Else-is_reached, Else-is_reached-2, Then-is_reached, Then-is_reached-2}

lifted : (c : After-raise-up) → c.raise-up.result ≡ raised c.args.feet
lifted c = c.raise-up.ensures ∙ ap raised (to_z-of_z w32 _ c.ranges.feet)

by-25 : (c : Then-is_reached) → reaches25 c.raise-up.result ≡ true
by-25 c = sym c.is_reached.ensures ∙ c.if-is_reached.true

beyond-25 : (c : Else-is_reached) → reaches25 c.raise-up.result ≡ false
beyond-25 c = sym c.is_reached.ensures ∙ c.if-is_reached.false

by-100 : (c : Then-is_reached-2) → reaches100 c.raise-up.result ≡ true
by-100 c = sym c.is_reached-2.ensures ∙ c.if-is_reached-2.true

beyond-100 : (c : Else-is_reached-2) → reaches100 c.raise-up.result ≡ false
beyond-100 c = sym c.is_reached-2.ensures ∙ c.if-is_reached-2.false

pub overflow_sub-up : goal.overflow_sub-up
overflow_sub-up c = omega (arith, (reached _ _ _ _ (by-25 search)).1.0)

pub code_by_25-requires : goal.code_by_25-requires
code_by_25-requires c = omega (arith, (reached _ _ _ _ (by-25 search)).1.0, (reached _ _ _ _ (by-25 search)).1.1)

pub returns-then-is_reached : goal.returns-then-is_reached
returns-then-is_reached c = written_by_25 _ _ (lifted search) (by-25 search) c.code_by_25.ensures

pub overflow_sub-up-then-is_reached-2 : goal.overflow_sub-up-then-is_reached-2
overflow_sub-up-then-is_reached-2 c = omega (arith, (reached _ _ _ _ (by-100 search)).1.0)

pub code_by_100-requires : goal.code_by_100-requires
code_by_100-requires c = omega (arith, (reached _ _ _ _ (by-100 search)).1.0, (reached _ _ _ _ (by-100 search)).1.1)

pub returns-then-is_reached-2 : goal.returns-then-is_reached-2
returns-then-is_reached-2 c = written_by_100 _ _ (lifted search) (beyond-25 search) (by-100 search) c.code_by_100.ensures

pub returns : goal.returns
returns c = not_written _ _ (lifted search) (beyond-25 search) (beyond-100 search)
