-- `put_place` lays a space and the bit's number where the bit is marked.
use mathlib.Core.Path.{sym}
use borrow.Author.Rules.{rules}
use Rattle.text_rules.proofs.Laid.{put_of, put_none, put_then}
use Rattle.places.proofs.Laying.{unmarked, marked}
use Rattle.places.proofs.text_of.put_place.Goals as goal

pub returns-then-bit-eq0 : goal.returns-then-bit-eq0
returns-then-bit-eq0 c = put_of (sym (unmarked _ _ c.if-bit-eq0.true)) (put_none _ _ (search rules))

pub returns : goal.returns
returns c = put_of (sym (marked _ _ c.if-bit-eq0.false)) (put_then c.put_byte-end.ensures c.put_decimal.ensures)
