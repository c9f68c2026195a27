-- A word read as bytes: none where its length or a byte of it is not that of digits.
use native.Mathlib.Omega.{arith}
use mathlib.Core.Path.{sym, ◌∙◌}
use Rattle.text_rules.proofs.HexRead.{hex_empty, hex_long, hex_odd, hex_even, read_dash, read_not, read_bytes}
use Rattle.text.proofs.hex.hex_bytes.Goals as goal

pub returns-then-same : goal.returns-then-same
returns-then-same c = read_dash _ _ (sym c.same.ensures ∙ c.if-same.true)

pub returns-then-is_empty : goal.returns-then-is_empty
returns-then-is_empty c = read_not _ _ (sym c.same.ensures ∙ c.if-same.false) (grind (arith, hex_empty, hex_long, hex_odd, hex_even))

pub returns : goal.returns
returns c = read_bytes _ _ (sym c.same.ensures ∙ c.if-same.false) (grind (arith, hex_even)) c.fill.ensures
