-- The lines `build UF PC RR DI SD MA ADDRESS` and `allcall PR IC CL`.
use Rattle.std.specs.Prelude.{ℕ, List, replicate}
use Rattle.text_rules.specs.Hex.{hex_of}
use Rattle.frames_rules.specs.Answers.{Building}
use Rattle.frames_rules.specs.Formats.{length_of}
use Rattle.frames_rules.specs.Building.{building, all_calling}
use Rattle.console_rules.specs.Texts.{number_at, bytes_at, answer_text}

-- the frame that was built
unfoldable pub built_text : Building → List ℕ
built_text o = answer_text o.number (hex_of o.output)

-- UF 4, 5, 20 or 21, whose output buffer is lent as long as the message: 1 is then that of an MA not of seven bytes
unfoldable pub selective_text : ℕ → ℕ → ℕ → ℕ → ℕ → List ℕ → ℕ → List ℕ
selective_text uf pc rr di sd ma address = built_text (building uf pc rr di sd ma address (replicate (length_of uf) 0))

unfoldable pub build_text : List (List ℕ) → List ℕ
build_text ws = selective_text (number_at 1 ws) (number_at 2 ws) (number_at 3 ws) (number_at 4 ws) (number_at 5 ws) (bytes_at 6 ws) (number_at 7 ws)

-- UF 11, whose output buffer is lent as long as the message
unfoldable pub all_call_text : List (List ℕ) → List ℕ
all_call_text ws = built_text (all_calling (number_at 1 ws) (number_at 2 ws) (number_at 3 ws) (replicate 7 0))
