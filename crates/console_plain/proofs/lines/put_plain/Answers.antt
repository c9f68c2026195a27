-- `put_plain` goes by the line.
use Rattle.console_rules.specs.PlainLines.{plain_text}
use Rattle.console_plain.proofs.ByWords.{plain_line, fitting}
use Rattle.console_plain.proofs.lines.put_plain.Goals as goal

pub returns-in-Remainder : goal.returns-in-Remainder
unfolding plain_text
returns-in-Remainder c = search (plain_line, fitting)

pub returns-in-Overlay : goal.returns-in-Overlay
unfolding plain_text
returns-in-Overlay c = search (plain_line, fitting)

pub returns-in-Correct : goal.returns-in-Correct
unfolding plain_text
returns-in-Correct c = search (plain_line, fitting)

pub returns-in-Build : goal.returns-in-Build
unfolding plain_text
returns-in-Build c = search (plain_line, fitting)

pub returns-in-AllCall : goal.returns-in-AllCall
unfolding plain_text
returns-in-AllCall c = search (plain_line, fitting)

pub returns-in-Up : goal.returns-in-Up
unfolding plain_text
returns-in-Up c = search (plain_line, fitting)

pub returns-in-Down : goal.returns-in-Down
unfolding plain_text
returns-in-Down c = search (plain_line, fitting)

pub returns-in-Code : goal.returns-in-Code
unfolding plain_text
returns-in-Code c = search (plain_line, fitting)

pub returns-in-Feet : goal.returns-in-Feet
unfolding plain_text
returns-in-Feet c = search (plain_line, fitting)

pub returns-in-Ac : goal.returns-in-Ac
unfolding plain_text
returns-in-Ac c = search (plain_line, fitting)

pub returns-in-Explain : goal.returns-in-Explain
unfolding plain_text
returns-in-Explain c = search (plain_line, fitting)

pub returns-in-Help : goal.returns-in-Help
unfolding plain_text
returns-in-Help c = search (plain_line, fitting)
