-- `put_numbers` has put the numbers so far.
use Prim.Native.Nat.{◌≤◌}
use mathlib.Core.List.{[]}
use lib.ListN.{length, drop}
use Rattle.text_rules.proofs.Laid.{Still}
use Rattle.console_rules.specs.Frames.{numbers_text}
use Rattle.console_plain.proofs.values.put_numbers.Given as goal

abbrev pub invariant-loop-n : goal.invariant-loop-n
invariant-loop-n l =
    Still (numbers_text l.numbers []) l.initial.next l.initial.out (numbers_text (drop l.n-index l.numbers) []) l.next l.out × (l.next ≤ length l.out)
