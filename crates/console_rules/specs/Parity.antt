-- The lines `remainder HEX`, `overlay NUMBER` and `correct HEX MARKS OVERLAY LIMIT`.
use Rattle.std.specs.Prelude.{ℕ, List, ◌++◌, length, get_or, replicate}
use Rattle.text_rules.specs.Put.{decimal, numbers_behind}
use Rattle.text_rules.specs.Plain.{plain}
use Rattle.text_rules.specs.Hex.{hex_in, hex_of}
use Rattle.lists.specs.Answers.{Answer}
use Rattle.parity_rules.specs.Answers.{Buffers, buffers, Correction}
use Rattle.parity_rules.specs.Places.{places_in}
use Rattle.parity_rules.specs.Division.{remainder_answer}
use Rattle.parity_rules.specs.Overlays.{uplink_overlay}
use Rattle.parity_rules.specs.Correction.{correction}
use Rattle.console_rules.specs.Texts.{number_at, bytes_at, answer_text}

-- a remainder or an overlay has six digits
unfoldable pub reckoned_text : Answer → List ℕ
reckoned_text a = answer_text a.number (hex_in 6 (get_or a.values 0 0))

-- the corrected message, how many bits were flipped, and which
unfoldable pub corrected_text : Correction → List ℕ
corrected_text o =
    answer_text o.number (hex_of o.buffers.output ++ (plain " " ++ (decimal o.flips ++ numbers_behind (places_in o.buffers.places))))

unfoldable pub remainder_text : List (List ℕ) → List ℕ
remainder_text ws = reckoned_text (remainder_answer (bytes_at 1 ws))

unfoldable pub overlay_text : List (List ℕ) → List ℕ
overlay_text ws = reckoned_text (uplink_overlay (number_at 1 ws))

-- a correction whose buffers are lent as long as the message
abbrev pub lent_for : List ℕ → Buffers
lent_for msg = buffers (replicate (length msg) 0) (replicate (length msg) 0)

unfoldable pub fixed_text : List ℕ → List ℕ → ℕ → ℕ → List ℕ
fixed_text msg marks overlay limit = corrected_text (correction msg marks overlay limit (lent_for msg))

unfoldable pub correct_text : List (List ℕ) → List ℕ
correct_text ws = fixed_text (bytes_at 1 ws) (bytes_at 2 ws) (number_at 3 ws) (number_at 4 ws)
