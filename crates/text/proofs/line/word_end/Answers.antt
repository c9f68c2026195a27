-- The end of a run of bytes that are no blank.
use Rattle.text_rules.specs.Line.{in_word}
use Rattle.lists.proofs.Checks.{told, not_on, not_off}
use Rattle.text.proofs.Ends.{ends}
use Rattle.text.proofs.line.word_end.Goals as goal

pub returns-then-is_blank : goal.returns-then-is_blank
unfolding in_word
returns-then-is_blank c = search (ends, told, not_off)

pub loop-i-preserved : goal.loop-i-preserved
unfolding in_word
loop-i-preserved c = search (ends, told, not_on)

pub returns : goal.returns
unfolding in_word
returns c = search ends
