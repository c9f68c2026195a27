-- The line `explain NUMBER`: what the number of an answer means.
use Rattle.std.specs.Prelude.{ℕ, List, [], ◌∷◌, ltb, length, get_or}
use Rattle.lists.specs.Lists.{pick}
use Rattle.text_rules.specs.Plain.{plain}
use Rattle.console_rules.specs.Texts.{number_at, done_text, refusal_text}

-- the meanings of the numbers from 0 on
unfoldable pub meanings : List (List ℕ)
meanings =
    plain "done" ∷
    plain "a message not of 7 or 14 bytes, or a buffer not as long as the message" ∷
    plain "a number outside its range" ∷
    plain "a guarantee above its ceiling, or shares that do not fit the period" ∷
    plain "the address is not in the target list" ∷
    plain "the address is there already" ∷
    plain "full: 64 targets, 16 requests of the unit, 8 messages in the model" ∷
    plain "no such entry in the plan" ∷
    plain "the entry is answered or withdrawn" ∷
    plain "the reply has not the entry's length" ∷
    plain "the reply starts outside the entry's limits" ∷
    plain "more marked bits than the station's limit" ∷
    plain "no subset of the marked bits matches" ∷
    plain "more than one subset matches" ∷
    plain "the format is not the expected one, or not listed" ∷
    plain "a model time before its last time" ∷
    plain "an unknown kind of record; the run ends" ∷
    plain "a record cut by the end of the stream; the run ends" ∷
    plain "an altitude pattern that the 100 ft code does not have" ∷
    plain "an altitude that has no code" ∷ []

-- 0 and the meaning; 2 for a number that has none
unfoldable pub meaning_text : ℕ → List ℕ
meaning_text n = pick (ltb n (length meanings)) (done_text (get_or meanings n [])) (refusal_text 2)

unfoldable pub explain_text : List (List ℕ) → List ℕ
explain_text ws = meaning_text (number_at 1 ws)
