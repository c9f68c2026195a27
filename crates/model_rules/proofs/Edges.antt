-- The edges that no theorem tells: every row of the listing says the same twice.
use mathlib.Core.Path.{refl}
use Rattle.lists.specs.Checks.{checked}
use Rattle.lists.specs.Listing.{Agrees, ◌also◌}
use Rattle.model_rules.specs.Calls.{taking_checks}
use Rattle.model_rules.specs.Edges.{listing}

-- the one claim
pub table_agrees : Agrees listing
unfolding checked taking_checks
table_agrees = refl also refl also refl also refl also refl also refl also refl also tt
