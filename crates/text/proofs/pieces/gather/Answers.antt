-- `gather` lays what a piece has of the line behind what is held of it.
use Rattle.text_rules.proofs.Pieces.{gathers}
use Rattle.text.proofs.pieces.gather.Goals as goal

pub returns : goal.returns
returns c = search gathers
