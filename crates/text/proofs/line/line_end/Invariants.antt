-- The first newline at or after a place, by a run of bytes that are none.
use mathlib.Core.Path.{◌≡◌}
use Rattle.text_rules.specs.Line.{in_line, run_end}
use Rattle.text.proofs.line.line_end.Given as goal

abbrev pub invariant-loop-i : goal.invariant-loop-i
invariant-loop-i l = run_end in_line l.s l.i ≡ run_end in_line l.s l.at
