-- `Exchange::lasting` lays the numbers of Annex 10 around near and far.
use borrow.Author.Rules.{rules}
use Rattle.planner.proofs.exchange.Exchange.lasting.Goals as goal

pub returns : goal.returns
returns c = let w = c.wide-open.ensures in
    let v = c.wide.ensures in
    let r = c.reply.ensures in
    (rw (w, v, r.0), search rules)
