-- `put_word` lays the number and a space.
use Rattle.console_station.proofs.Listed.{word_laid}
use Rattle.console_station.proofs.listing.put_word.Goals as goal

pub returns : goal.returns
returns c = search word_laid
