-- `put_move` hands the three numbers to the station, or refuses an edge that is too wide.
use Rattle.console_station.proofs.ByWords.{was_read, not_read, move_read}
use Rattle.console_station.proofs.targets.put_move.Goals as goal

pub returns-in-Some : goal.returns-in-Some
returns-in-Some c =
    was_read _ _ (move_read c.args.s.now _) _ c.in-Some.ensures
    (rw (c.move_target.ensures, c.number_at.ensures) at (c.put_outcome.ensures c.move_target.new.s))

pub returns-in-None : goal.returns-in-None
returns-in-None c = not_read _ _ (move_read c.args.s.now _) c.in-None.ensures (c.put_refused.ensures c.args.s.now)
