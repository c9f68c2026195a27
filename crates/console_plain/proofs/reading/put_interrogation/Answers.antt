-- `put_interrogation` lays the values or the refusal, one case of the answer after the other.
use Rattle.console_rules.specs.Texts.{answer_text}
use Rattle.console_rules.specs.Frames.{numbers_text, fields_text, values_text, read_text}
use Rattle.console_plain.proofs.Frames.{frame}
use Rattle.console_plain.proofs.reading.put_interrogation.Goals as goal

pub returns-in-Ok-Selective : goal.returns-in-Ok-Selective
unfolding read_text answer_text values_text fields_text numbers_text
returns-in-Ok-Selective c = search frame

pub returns-in-Ok-AllCall : goal.returns-in-Ok-AllCall
unfolding read_text answer_text values_text fields_text numbers_text
returns-in-Ok-AllCall c = search frame

pub returns-in-Err : goal.returns-in-Err
returns-in-Err c = search frame
