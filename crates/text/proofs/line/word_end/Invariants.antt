-- The end of a run of bytes that are no blank.
use mathlib.Core.Path.{◌≡◌}
use Rattle.text_rules.specs.Line.{in_word, run_end}
use Rattle.text.proofs.line.word_end.Given as goal

abbrev pub invariant-loop-i : goal.invariant-loop-i
invariant-loop-i l = run_end in_word l.line l.i ≡ run_end in_word l.line l.at
