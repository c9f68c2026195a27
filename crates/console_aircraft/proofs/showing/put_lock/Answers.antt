-- `put_lock` lays nothing for a timer that locks nobody, else its code.
use Rattle.lists.proofs.Checks.{tests}
use Rattle.text_rules.proofs.Laid.{laying, put_none}
use Rattle.console_rules.specs.Aircraft.{timer_text}
use Rattle.console_aircraft.proofs.Texts.{lock}
use Rattle.console_aircraft.proofs.showing.put_lock.Goals as goal

pub returns-then-is_none : goal.returns-then-is_none
returns-then-is_none c = search (lock, put_none)

pub returns-then-k-lt16 : goal.returns-then-k-lt16
unfolding timer_text
returns-then-k-lt16 c = search (lock, laying, tests) depth 8

pub returns : goal.returns
unfolding timer_text
returns c = search (lock, laying, tests) depth 8
