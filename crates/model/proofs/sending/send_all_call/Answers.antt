-- `model::sending::send_all_call` meets its contract: the frame that was built, or none.
use Rattle.model.proofs.Built.{sent_done, sent_refused}
use Rattle.model.proofs.sending.send_all_call.Goals as goal

pub returns-in_err-ok : goal.returns-in_err-ok
returns-in_err-ok c = rw c.from_residual.ensures (sent_refused _ _ _ c.all_call_reply.ensures c.ok.ensures.value c.in_err-ok.was)

pub returns : goal.returns
returns c = sent_done _ _ _ c.all_call_reply.ensures c.ok.ensures.value c.in_ok-ok.was
