-- `put_locks` has put the codes of the timers before place i.
use Prim.Native.Nat.{◌≤◌}
use mathlib.Core.Path.{◌≡◌}
use lib.ListN.{length, drop}
use Rattle.text_rules.proofs.Laid.{Still}
use Rattle.console_rules.specs.Aircraft.{locks_text}
use Rattle.console_aircraft.proofs.showing.put_locks.Given as goal

abbrev pub invariant-loop-i : goal.invariant-loop-i
invariant-loop-i l =
    Still (locks_text 0 l.timers.list) l.initial.next l.initial.out (locks_text l.i (drop l.i l.timers.list)) l.next l.out
    × (l.next ≤ length l.out)
    × (length l.timers.list ≡ 79)
