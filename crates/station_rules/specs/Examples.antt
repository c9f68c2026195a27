-- The examples of document 01 that are marked with a star, those of parity and those of plans, as one listing with one claim.
use Rattle.std.specs.Prelude.{List, ◌++◌}
use Rattle.lists.specs.Listing.{Row, Agrees, agrees_append}
use Rattle.parity_rules.specs.Examples as parity
use Rattle.planner_rules.specs.Examples as plans

abbrev pub listing : List Row
listing = parity.listing ++ plans.listing

pub starred_agree : Agrees listing
starred_agree = agrees_append parity.listing plans.listing parity.corrections_agree plans.edges_agree
