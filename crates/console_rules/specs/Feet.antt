-- The lines `feet AC` and `ac FEET`.
use Rattle.std.specs.Prelude.{ℕ, List, get_or}
use Rattle.lists.specs.Answers.{Answer}
use Rattle.text_rules.specs.Put.{decimal}
use Rattle.altitude_rules.specs.Code.{altitude}
use Rattle.altitude_rules.specs.WayBack.{way_back}
use Rattle.console_rules.specs.FeetLines as feet-lines
use Rattle.console_rules.specs.Texts.{number_at, integer_at, answer_text}

-- the altitude's own answer: feet, none, metric, or the refusal's number alone
unfoldable pub feet_text : List (List ℕ) → List ℕ
feet_text ws = feet-lines.answer_text (altitude (number_at 1 ws))

-- the way back's own answer: the code, or the refusal's number alone
unfoldable pub written_text : Answer → List ℕ
written_text a = answer_text a.number (decimal (get_or a.values 0 0))

unfoldable pub ac_text : List (List ℕ) → List ℕ
ac_text ws = written_text (way_back (integer_at 1 ws))
