-- A word read digit by digit: what is still to be read decides.
use Prim.Native.Nat.{◌<◌}
use mathlib.Core.Path.{◌≡◌}
use lib.ListN.{drop}
use Rattle.text_rules.specs.Number.{number_in}
use Rattle.text.proofs.Values.{judged}
use Rattle.text.proofs.numbers.number.Given as goal

abbrev pub invariant-loop-b : goal.invariant-loop-b
invariant-loop-b l = (judged l.value (drop l.b-index l.word) ≡ number_in l.most l.word) × (l.value < 4294967296)
