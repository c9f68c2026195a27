-- `frames::bytes::number_of` meets its contract: of the first seven bytes, or of all where there are no more.
use Rattle.frames_rules.proofs.Numbers.{few_bytes}
use Rattle.frames.proofs.bytes.number_of.Goals as goal

pub returns : goal.returns
returns c = search few_bytes
