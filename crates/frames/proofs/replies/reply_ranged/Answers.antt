-- `frames::replies::reply_ranged` meets its contract: each range in turn.
use mathlib.Core.Path.{sym}
use Rattle.frames_rules.specs.Building.{reply_ranged}
use Rattle.frames_rules.proofs.Lines.{ranges}
use Rattle.frames.proofs.replies.reply_ranged.Goals as goal

pub returns-then-fs-gt7 : goal.returns-then-fs-gt7
unfolding reply_ranged
returns-then-fs-gt7 c = sym (search ranges depth 12)

pub returns-then-dr-gt31 : goal.returns-then-dr-gt31
unfolding reply_ranged
returns-then-dr-gt31 c = sym (search ranges depth 12)

pub returns-then-um-gt63 : goal.returns-then-um-gt63
unfolding reply_ranged
returns-then-um-gt63 c = sym (search ranges depth 12)

pub returns-then-value-gt8191 : goal.returns-then-value-gt8191
unfolding reply_ranged
returns-then-value-gt8191 c = sym (search ranges depth 12)

pub returns-then-not-is_address : goal.returns-then-not-is_address
unfolding reply_ranged
returns-then-not-is_address c = sym (search ranges depth 12)

pub returns-then-mb-eq0 : goal.returns-then-mb-eq0
unfolding reply_ranged
returns-then-mb-eq0 c = sym (search ranges depth 12 fits 20000)

pub returns-then-mb-gt72057594037927935 : goal.returns-then-mb-gt72057594037927935
unfolding reply_ranged
returns-then-mb-gt72057594037927935 c = sym (search ranges depth 12)

pub returns : goal.returns
unfolding reply_ranged
returns c = search ranges depth 12 fits 20000
