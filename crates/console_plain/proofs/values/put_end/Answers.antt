-- `put_end` lays the bytes and the remainder of a long format, and the remainder alone of a short one.
use borrow.Author.Tests.{not-true, not-false}
use Rattle.lists.proofs.Checks.{tests}
use Rattle.text_rules.proofs.Laid.{laying}
use Rattle.console_rules.specs.Frames.{end_text}
use Rattle.console_plain.proofs.values.put_end.Goals as goal

pub returns-then-not-is_long : goal.returns-then-not-is_long
unfolding end_text
returns-then-not-is_long c = search (laying, tests, not-true, not-false) depth 8

pub returns : goal.returns
unfolding end_text
returns c = search (laying, tests, not-true, not-false) depth 8
