-- Numbers given back: what each case of what stands at a place says in document 01's terms.
use Rattle.std.specs.Prelude.{ℕ, List, [], ◌∷◌}
use Rattle.lists.specs.Answers.{Answer, done}
use Rattle.reader_rules.specs.declared.reading.Found.{Found}
use Rattle.reader_rules.specs.declared.reading.Found.TheVariants.{End, Unknown, Cut, Whole}
use Rattle.reader_rules.specs.Records.{record_at}

-- 16 with the byte, 17 with the kind; 0 with kind, body and the next place of a whole record, and with nothing at the end
abbrev pub found_said : Found → Answer
found_said End = done []
found_said (Unknown b) = record { number = 16; values = b ∷ [] }
found_said (Cut kind) = record { number = 17; values = kind ∷ [] }
found_said (Whole kind body next) = done (kind ∷ body ∷ next ∷ [])

abbrev pub found_number : Found → ℕ
found_number f = (found_said f).number

-- what is answered for a place
unfoldable pub said_at : List ℕ → ℕ → Answer
said_at s at = found_said (record_at s at)
