-- Bytes laid one by one, each from its two digits: what is still to be laid decides.
use Prim.Native.Nat.{◌*◌}
use mathlib.Core.Path.{◌≡◌}
use mathlib.Core.Bool.{true}
use lib.ListN.{drop}
use Rattle.text_rules.specs.Put.{laid}
use Rattle.text_rules.specs.Hex.{pairs, all_hex}
use Rattle.text.proofs.hex.fill.Given as goal

abbrev pub invariant-loop-i : goal.invariant-loop-i
invariant-loop-i l =
    (laid (pairs (drop (2 * l.i) l.word)) l.i l.out ≡ laid (pairs l.word) 0 l.initial.out) × (all_hex (drop (2 * l.i) l.word) ≡ true)
