-- Seven marks of a short message are never in doubt: the distance at 56 bits is 8.
use mathlib.Core.Path.{◌≡◌, refl}
use mathlib.Core.Bool.{true}
use mathlib.Core.List.{List, []}
use Rattle.parity_rules.specs.Division.{shift_in, divide, remainder_of, syndrome}
use Rattle.parity_rules.specs.Distance.{Distance}
use Rattle.parity_rules.proofs.Planted.{put, lacks, plant}
use Rattle.parity_rules.proofs.Distance.{climb, clear, apart, by_test}
use Rattle.station_rules.specs.History.{Call}
use Rattle.certain.specs.Certain.{Certain}
use Rattle.certain.specs.Replies.{RepliesCertain}
use Rattle.certain.specs.Lines.{LinesCertain}
use Rattle.certain.proofs.Five.{certain}
use Rattle.certain.proofs.Replies.{replies_certain}
use Rattle.certain.proofs.Lines.{lines_certain}
use Prim.Native.Nat.{ℕ}

short_test : apart (syndrome 55) (climb 55 (syndrome 0) []) 3 ≡ true
unfolding syndrome remainder_of divide shift_in put lacks plant clear climb
short_test = refl

-- no one to seven of at most 56 places have the XOR zero
pub distance_short : Distance 56 8
distance_short = by_test 55 3 short_test

pub seven_marks : Certain 7 7
seven_marks = certain 7 7 distance_short

pub seven_replies : (cs : List Call) → RepliesCertain 7 7 cs
seven_replies = replies_certain 7 7 seven_marks

pub seven_lines : (s : List ℕ) → LinesCertain 7 7 s
seven_lines = lines_certain 7 7 seven_marks
