-- What is certain of replies with few marks, in every history.
use Rattle.std.specs.Prelude.{ℕ, ◌≤◌, ◌≡◌, List, [], ◌∷◌, length}
use Rattle.lists.specs.Lists.{Among}
use Rattle.parity_rules.specs.Messages.{AreBytes}
use Rattle.parity_rules.specs.Corrected.{Fitting}
use Rattle.frames_rules.specs.Reading.{format_of}
use Rattle.station_rules.specs.Replies.{Received, request_for, expected, taken_as, replied}
use Rattle.station_rules.specs.History.{Call, after}
use Rattle.station_rules.specs.Seen.{setup_seen}
use Rattle.certain.specs.Certain.{marked, sent_back}

-- the numbers that are given before the correction is tried: lengths, entry, start
abbrev pub before_correction : List ℕ
before_correction = 1 ∷ 7 ∷ 8 ∷ 9 ∷ 10 ∷ []

-- of replies of at most n bytes with at most k marks, after a history; the limit is that of the newest setup answered 0
pub record RepliesCertain (n k : ℕ) (cs : List Call) : Type 0 where
  -- with a limit of k or less no reply is refused with 13
  pub undoubted : (r : Received) → length r.message ≤ n → (setup_seen cs).limit ≤ k → (replied (after cs) r).number ≡ 13 → ⊥
  -- at most k bits are marked, no more than the limit, and the frame sent has the entry's address as its overlay, the expected format, and differs at marked
  -- bits alone: the reply is taken as the frame sent, but for what is refused before the correction
  pub sent : (r : Received) (frame : List ℕ) → length r.message ≤ n → AreBytes r.message → marked r.marks ≤ k → marked r.marks ≤ (setup_seen cs).limit
      → Fitting r.message r.marks (request_for (after cs) r).address frame → format_of frame ≡ expected (request_for (after cs) r)
      → (Among (replied (after cs) r).number before_correction → ⊥)
      → replied (after cs) r ≡ taken_as (after cs) r (sent_back r.message frame)
