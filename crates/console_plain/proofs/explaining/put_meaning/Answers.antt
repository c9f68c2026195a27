-- `put_meaning` finds the line of a number among the meanings.
use Rattle.text_rules.proofs.Laid.{put_then}
use Rattle.console_rules.specs.Texts.{done_text}
use Rattle.console_rules.specs.Explain.{meanings}
use Rattle.console_plain.proofs.ByWords.{meaning_none, meaning_line}
use Rattle.console_plain.proofs.explaining.put_meaning.Goals as goal

pub returns-then-n-ge-NUMBERS : goal.returns-then-n-ge-NUMBERS
unfolding done_text meanings
returns-then-n-ge-NUMBERS c = search meaning_none

pub returns : goal.returns
unfolding done_text meanings
returns c = search (meaning_line, put_then)
