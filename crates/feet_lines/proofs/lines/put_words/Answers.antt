-- `put_words` lays what a line prints: nothing, its one code, or "- 2".
use Rattle.console_rules.specs.FeetLines.{number_text}
use Rattle.feet_lines.proofs.Texts.{spans}
use Rattle.feet_lines.proofs.lines.put_words.Goals as goal

pub returns-then-to-from : goal.returns-then-to-from
unfolding number_text
returns-then-to-from c = search spans

pub returns-then-second : goal.returns-then-second
unfolding number_text
returns-then-second c = search spans

pub returns-in-Some : goal.returns-in-Some
unfolding number_text
returns-in-Some c = search spans

pub returns-in-None : goal.returns-in-None
unfolding number_text
returns-in-None c = search spans
