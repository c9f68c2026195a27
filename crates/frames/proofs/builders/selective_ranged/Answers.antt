-- `frames::builders::selective_ranged` meets its contract: each range in turn.
use mathlib.Core.Path.{sym}
use Rattle.frames_rules.specs.Building.{selective_ranged}
use Rattle.frames_rules.proofs.Lines.{ranges}
use Rattle.frames.proofs.builders.selective_ranged.Goals as goal

pub returns-then-not-surveillance : goal.returns-then-not-surveillance
unfolding selective_ranged
returns-then-not-surveillance c = sym (search ranges depth 12)

pub returns-then-pc-gt7 : goal.returns-then-pc-gt7
unfolding selective_ranged
returns-then-pc-gt7 c = sym (search ranges depth 12)

pub returns-then-rr-gt31 : goal.returns-then-rr-gt31
unfolding selective_ranged
returns-then-rr-gt31 c = sym (search ranges depth 12)

pub returns-then-di-gt7 : goal.returns-then-di-gt7
unfolding selective_ranged
returns-then-di-gt7 c = sym (search ranges depth 12)

pub returns-then-sd-gt65535 : goal.returns-then-sd-gt65535
unfolding selective_ranged
returns-then-sd-gt65535 c = sym (search ranges depth 12)

pub returns-then-not-is_address : goal.returns-then-not-is_address
unfolding selective_ranged
returns-then-not-is_address c = sym (search ranges depth 12)

pub returns-then-ma-eq0 : goal.returns-then-ma-eq0
unfolding selective_ranged
returns-then-ma-eq0 c = sym (search ranges depth 12 fits 20000)

pub returns-then-ma-gt72057594037927935 : goal.returns-then-ma-gt72057594037927935
unfolding selective_ranged
returns-then-ma-gt72057594037927935 c = sym (search ranges depth 12)

pub returns : goal.returns
unfolding selective_ranged
returns c = search ranges depth 12 fits 20000
