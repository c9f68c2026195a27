-- `put_dash` lays the dash and the byte behind it.
use Rattle.std.proofs.Common.{arith}
use Rattle.text_rules.proofs.Laid.{put_then}
use Rattle.stream.proofs.Lengths.{within}
use Rattle.stream.proofs.report.put_dash.Goals as goal

pub returns : goal.returns
returns c = within 12 (omega arith) (put_then c.put_byte-end.ensures c.put_byte.ensures)
