-- `begin` has no aircraft, and the station before any setup.
use mathlib.Core.Path.{ap}
use mathlib.Core.Bool.{false}
use Rattle.std.specs.Prelude.{None}
use Rattle.station_rules.specs.declared.state.Station.{Station}
use Rattle.console_rules.specs.Aircraft.{unmade}
use Rattle.console_lines.proofs.console.begin.Goals as goal

pub returns : goal.returns
unfolding unmade
returns c = ap (λ (s : Station). record { aircraft = None; station = s; over = false }) c.before_setup.ensures
