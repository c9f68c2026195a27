-- `put_words` reckons the window from the start, and lays six numbers.
use Rattle.stream.proofs.PlanLines.{entry_put}
use Rattle.stream.proofs.entries.put_words.Goals as goal

pub returns : goal.returns
returns c =
    let a = c.args in
    entry_put a.k a.e a.behind c.of-x.ensures.0 c.put_numbers.ensures
