-- The end of a run of blanks.
use mathlib.Core.Path.{◌≡◌}
use Rattle.text_rules.specs.Line.{blank, run_end}
use Rattle.text.proofs.line.blanks_end.Given as goal

abbrev pub invariant-loop-i : goal.invariant-loop-i
invariant-loop-i l = run_end blank l.line l.i ≡ run_end blank l.line l.at
