-- Streams that end at once, computed: no byte, an unknown kind, and a record that is cut.
use mathlib.Core.Path.{◌≡◌, refl}
use mathlib.Core.List.{[], ◌∷◌}
use Rattle.lists.specs.Checks.{checked}
use Rattle.text_rules.specs.Put.{decimal_in, decimal}
use Rattle.text_rules.specs.Plain.{plain}
use Rattle.reader_rules.specs.Records.{body_length, record_at}
use Rattle.stream_rules.specs.Lines.{line, answer_line}
use Rattle.stream_rules.specs.Run.{obeyed_at, goes_on, text_from, transcript}

-- empty input prints nothing
no_record : transcript [] ≡ []
unfolding transcript text_from checked record_at obeyed_at goes_on
no_record = refl

-- an unknown kind, also as the last byte
unknown_kind : transcript (200 ∷ []) ≡ plain "1 200 16\n"
unfolding transcript text_from checked record_at body_length obeyed_at goes_on answer_line line decimal decimal_in
unknown_kind = refl

-- a new target of which one byte is missing
cut_record : transcript (2 ∷ 0 ∷ 0 ∷ 1 ∷ 0 ∷ 0 ∷ 0 ∷ []) ≡ plain "1 2 17\n"
unfolding transcript text_from checked record_at body_length obeyed_at goes_on answer_line line decimal decimal_in
cut_record = refl
