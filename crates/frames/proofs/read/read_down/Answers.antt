-- `frames::read::read_down` meets its contract: the refusals of its head, then the fields.
use mathlib.Core.Path.{◌∙◌}
use borrow.Author.Rules.{rules}
use Rattle.std.proofs.lemmas.Result.{err_from_is_err_and}
use Rattle.lists.specs.Answers.{refused_by}
use Rattle.lists.proofs.Checks.{all, end}
use Rattle.frames_rules.specs.Reading.{read_as, all_call_reply_read, surveillance_read}
use Rattle.frames_rules.proofs.Lines.{head_judged, head_refused, read_eleven, read_others}
use Rattle.frames.proofs.read.read_down.Goals as goal

pub returns-in_err-head : goal.returns-in_err-head
returns-in_err-head c =
    let p = err_from_is_err_and c.from_residual.result c.from_residual.ensures.1 in
    rw (p.1, p.2) (head_refused c.args.msg.now all_call_reply_read surveillance_read _ c.in_err-head.ensures)

pub remainder_of-remainder-requires : goal.remainder_of-remainder-requires
remainder_of-remainder-requires c = (head_judged _ _ c.in_ok-head.ensures).sized

pub returns-then-head-eq11 : goal.returns-then-head-eq11
unfolding read_as
returns-then-head-eq11 c =
    let j = head_judged _ _ c.in_ok-head.ensures in
    read_eleven all_call_reply_read surveillance_read _ c.all_call_reply.ensures j.head_is (search rules) (search rules) ∙ end refused_by _ all j.none

pub returns : goal.returns
unfolding read_as
returns c =
    let j = head_judged _ _ c.in_ok-head.ensures in
    read_others all_call_reply_read surveillance_read _ c.surveillance.ensures j.head_is (search rules) (search rules) (search rules)
    ∙ end refused_by _ all j.none
