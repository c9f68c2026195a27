-- Digits read one by one: what is still to be read says the rest.
use Rattle.text.proofs.HexNumbers.{Came}
use Rattle.text.proofs.bases.hex_number.Given as goal

abbrev pub invariant-loop-b : goal.invariant-loop-b
invariant-loop-b l = Came l.digits l.b-index l.value
