-- `put_words` answers a line that has words, the first of which begins no comment.
use Rattle.console_plain.proofs.Texts.{word_of}
use Rattle.console_lines.proofs.Lines.{lines, stays_silent}
use Rattle.console_lines.proofs.console.put_words.Goals as goal

pub returns-then-word_count-eq0 : goal.returns-then-word_count-eq0
returns-then-word_count-eq0 c = search (lines, stays_silent)

pub returns-then-is_comment : goal.returns-then-is_comment
returns-then-is_comment c = search (lines, stays_silent)

pub put_command-requires : goal.put_command-requires
put_command-requires c = search word_of

pub returns : goal.returns
returns c = search lines
