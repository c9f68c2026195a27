-- `parity::search::count` meets its contract. The measure: the marked bits left to decide.
use Rattle.parity.proofs.search.+count.Given as goal

abbrev pub decreases-count : goal.decreases-count
decreases-count l = l.k
