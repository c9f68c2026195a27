-- `sort_at` looks at the places one after the other.
use native.Mathlib.Omega.{arith}
use Rattle.console_lines.proofs.Judging.{first_bytes, more_bytes, with_sign, without_sign}
use Rattle.console_lines.proofs.reasons.sort_at.Goals as goal

pub returns-then-k-r-2 : goal.returns-then-k-r-2
returns-then-k-r-2 c = grind (arith, first_bytes, more_bytes)

pub returns-then-k-r-3 : goal.returns-then-k-r-3
returns-then-k-r-3 c = grind (arith, with_sign)

pub returns-else-k-r-3 : goal.returns-else-k-r-3
returns-else-k-r-3 c = grind (arith, without_sign)
