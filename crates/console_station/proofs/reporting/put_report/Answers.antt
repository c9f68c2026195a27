-- `put_report` lays what was heard of the address of the line, or the refusal.
use Rattle.std.proofs.Common.{refl}
use Rattle.console_station.proofs.Said.{refused, report_refused, report_taken}
use Rattle.console_station.proofs.reporting.put_report.Goals as goal

pub returns-in-Ok : goal.returns-in-Ok
returns-in-Ok c = report_taken c.args.s.now _ c.number_at.ensures c.in-Ok.ensures refl c.put_bytes-first.ensures c.put_report.ensures

pub returns-in-Err : goal.returns-in-Err
returns-in-Err c =
    report_refused c.args.s.now _ c.number_at.ensures c.in-Err.ensures (refused c.in-Err.refusal) (c.put_refused.ensures c.args.s.now)
