-- Numbers given back: document 01's table, as the checks of each call in their order.
use Rattle.std.specs.Prelude.{List, ◌++◌}
use Rattle.lists.specs.Checks.{Check}
use Rattle.parity_rules.specs.Correction.{mark_checks}
use Rattle.station_rules.specs.declared.state.Station.{Station}
use Rattle.station_rules.specs.Calls.{sixteen_wait, request_checks}
use Rattle.station_rules.specs.Replies.{expected, request_for, matches_for, entry_checks, format_checks}
use Rattle.station_rules.specs.History.{Call, setup, new, remove, move, request, plan, reply, report, checks_of}

-- the lines that a call can meet in a history: those of its checks. Two that a history never meets are left out: a waiting list without a slot while the
-- unit has fewer than 16 requests, and an entry whose address, or a station whose limit, no correction takes
abbrev pub checks : Station → Call → List Check
checks s (setup h) = checks_of s (setup h)
checks s (new a near far) = checks_of s (new a near far)
checks s (remove a) = checks_of s (remove a)
checks s (move a near far) = checks_of s (move a near far)
checks s (request q) = request_checks (sixteen_wait q.unit s.waiting) s q
checks s (plan tag) = checks_of s (plan tag)
checks s (reply r) =
    entry_checks s r
    ++ (mark_checks r.message r.marks (request_for s r).address s.setup.limit
    ++ format_checks (expected (request_for s r)) r.message (matches_for (request_for s r) r))
checks s (report a) = checks_of s (report a)
