-- `put_call` goes by the call.
use Rattle.console_rules.specs.Console.{call_told}
use Rattle.console_lines.proofs.Lines.{its_call, briefly, flies, serves, ends}
use Rattle.console_lines.proofs.console.put_call.Goals as goal

pub returns-in-Plain : goal.returns-in-Plain
unfolding call_told
returns-in-Plain c = search (its_call, briefly)

pub returns-in-Flight : goal.returns-in-Flight
unfolding call_told
returns-in-Flight c = search (its_call, flies)

pub returns-in-Station : goal.returns-in-Station
unfolding call_told
returns-in-Station c = search (its_call, serves)

pub returns-in-Quit : goal.returns-in-Quit
unfolding call_told
returns-in-Quit c = search (its_call, ends)
