-- `put_refused` lays the number, which is not that of a call that is done.
use Rattle.refusals.proofs.Numbers.{not_done}
use Rattle.text_rules.proofs.Laid.{put_as}
use Rattle.console_rules.specs.Texts.{refusal_text, answer_text}
use Rattle.console_plain.proofs.answers.put_refused.Goals as goal

pub returns : goal.returns
unfolding answer_text
returns c = λ value. rw (not_done c.args.r) (put_as refusal_text c.from.ensures c.put_refusal.ensures)
