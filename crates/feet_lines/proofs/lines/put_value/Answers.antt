-- `put_value` lays what stands behind the number, one case of the answer after the other.
use borrow.Author.Rules.{rules, sfits_of}
use Rattle.text_rules.proofs.Laid.{put_case, put_then}
use Rattle.console_rules.specs.FeetLines.{value_text}
use Rattle.feet_lines.proofs.Texts.{signed_put, value_is}
use Rattle.feet_lines.proofs.lines.put_value.Goals as goal

pub returns-in-Ok-Feet : goal.returns-in-Ok-Feet
unfolding value_text
returns-in-Ok-Feet c = value_is c.in-Ok-Feet.is (rw c.in-Ok-Feet.is at c.in-Ok-Feet.field-0-is) (search (put_then, signed_put, sfits_of, rules))

pub returns-in-Ok-None : goal.returns-in-Ok-None
unfolding value_text
returns-in-Ok-None c = value_is c.in-Ok-None.is (rw c.in-Ok-None.is at c.in-Ok-None.field-0-is) c.put_bytes.ensures

pub returns-in-Ok-Metric : goal.returns-in-Ok-Metric
unfolding value_text
returns-in-Ok-Metric c = value_is c.in-Ok-Metric.is (rw c.in-Ok-Metric.is at c.in-Ok-Metric.field-0-is) c.put_bytes-in-Ok-Metric.ensures

pub returns-in-Err : goal.returns-in-Err
unfolding value_text
returns-in-Err c = put_case value_text c.in-Err.is c.put_byte-in-Err.ensures
