-- `put_replied` lays the values of a taken reply, or the refusal.
use Rattle.std.proofs.Common.{Ok, Err, refl, ap, arith, rules, w32, SFits}
use mir.ValLaws.{to_z-of_z}
use Rattle.refusals.specs.Refusals.{number_given}
use Rattle.station_rules.specs.Answers.{reply_as}
use Rattle.console_station.proofs.Said.{refused, reply_refused, reply_taken}
use Rattle.console_station.proofs.replying.put_replied.Goals as goal

pub returns-in-Ok : goal.returns-in-Ok
returns-in-Ok c =
    let t = c.in-Ok.t in
    let fits : SFits w32 t.delay = search rules in
    let pre = c.requires in
    λ s. rw c.in-Ok.is
    (reply_taken (reply_as (Ok t) s) _ refl pre.0 pre.1 (pre.2 (ap number_given c.in-Ok.is)) (omega arith) fits
    (rw (to_z-of_z w32 t.delay fits) at c.put_values.ensures))

pub returns-in-Err : goal.returns-in-Err
returns-in-Err c = λ s. rw c.in-Err.is (reply_refused (reply_as (Err c.in-Err.refusal) s) _ (refused _) (c.put_refused.ensures s))
