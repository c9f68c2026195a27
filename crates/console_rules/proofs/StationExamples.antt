-- Runs of the console with the station beside what they print, computed: the night of the stream's pages typed line by line, and each refusal of a line.
use mathlib.Core.Path.{refl}
use mathlib.Core.List.{List, [], ◌∷◌}
use Rattle.lists.specs.Checks.{checked}
use Rattle.lists.specs.Lists.{every, count_of, index_of, filter, over, total}
use Rattle.text_rules.specs.Put.{decimal_in, decimal, numbers_behind}
use Rattle.text_rules.specs.Signed.{signed_decimal}
use Rattle.text_rules.specs.Line.{newline, lines_of}
use Rattle.text_rules.specs.Hex.{hex_digit, hex_in, hex_of}
use Rattle.parity_rules.specs.Messages.{bits, xor_bits}
use Rattle.parity_rules.specs.Division.{shift_in, divide, remainder_of, syndrome}
use Rattle.parity_rules.specs.Places.{places_from}
use Rattle.parity_rules.specs.Correction.{size_of, subsets, xor_of, matching, flipped}
use Rattle.planner_rules.specs.Exchange.{sent_for, reply_for, apart, clear}
use Rattle.planner_rules.specs.Fits.{clear_of, fits, first, place}
use Rattle.planner_rules.specs.Shares.{shares_fit, setup_number}
use Rattle.planner_rules.specs.Plan as plans
use Rattle.frames_rules.specs.Fields.{head_of}
use Rattle.frames_rules.specs.Shared.{drawn}
use Rattle.frames_rules.specs.Building.{selective_ranged}
use Rattle.station_rules.specs.State as state
use Rattle.station_rules.specs.Calls.{set_up, target_ranged, request_ranged, unit_full, new_target, without, removed, moved, requested, reported}
use Rattle.station_rules.specs.Planning.{asked, board_for, next_plan}
use Rattle.station_rules.specs.Replies.{expected, value_in, start_of, in_window, targets_heard, after_reply, settled, replied}
use Rattle.stream_rules.specs.Lines.{line, entry_line, entry_lines, value_word, age_word, report_line}
use Rattle.console_rules.specs.Texts.{done_text, refusal_text, answer_text}
use Rattle.console_rules.specs.Station.{outcome_spoken, all_fit, where_held, numbers_from, setup_spoken, target_spoken, move_spoken, remove_spoken}
use Rattle.console_rules.specs.Station.{request_spoken, planned_spoken, plan_spoken, replied_spoken, reply_spoken, report_text, report_spoken, target_line}
use Rattle.console_rules.specs.Station.{target_lines, targets_text, targets_spoken, status_word, status_line, status_lines, entries_text, entries_spoken}
use Rattle.model_rules.specs.Calls.{newborn, make_ranged, making}
use Rattle.console_rules.specs.Aircraft.{made_said, model_said, holder_text, timer_text, lock_text, locks_text, state_text, state_said}
use Rattle.console_rules.specs.Reasons.{reason_text}
use Rattle.console_rules.specs.Console.{lines_text, console_text}
use Rattle.console_rules.proofs.Examples.{Reading}
use Rattle.console_rules.proofs.AircraftExamples.{Told, says, Printed}

-- two targets, requests of two units, a plan; a reply with a marked bit wrong, taken; a reply too late; what the station holds then
abbrev night : List Told
night =
    says "setup 20000 3000 5 2 1 0 0 0 0 0 0 3 2 0 0 0 0 0 0" "0"
    ∷ says "target 0x4840D6 2000 2010" "0"
    ∷ says "target 0x40621D 1000 1004" "0"
    ∷ says "request 0 0x4840D6 4 0 0 0 0 00000000000000" "0"
    ∷ says "request 1 0x40621D 21 0 16 0 0 00000000000000" "0"
    ∷ says "plan 100000" "0\n0 0 4735190 0 2530 2798\n1 1 4219421 79 1609 2095"
    ∷ says "reply 0 102535 200016940B3591 00000004000000" "0 1 2004 30 200016900B3591"
    ∷ says "reply 1 101617 A800150A20304050607080182AE3 0000000000000000000000000000" "10"
    ∷ says "report 0x4840D6" "0 5776 0 - -"
    ∷ says "entries" "0 2 100000\n0 0 4735190 0 2530 2798 answered\n1 1 4219421 79 1609 2095 open"
    ∷ says "targets" "0 2\n4735190 2000 2010 5776 0 - -\n4219421 1000 1004 - - - -"
    ∷ []

-- a plan more makes what was said one plan older; a target removed withdraws its open entry; a target moved has its new edges
abbrev later : List Told
later =
    says "setup 20000 3000 5 2 1 0 0 0 0 0 0 3 2 0 0 0 0 0 0" "0"
    ∷ says "target 0x4840D6 2000 2010" "0"
    ∷ says "request 0 0x4840D6 4 0 0 0 0 00000000000000" "0"
    ∷ says "plan 100000" "0\n0 0 4735190 0 2530 2798"
    ∷ says "reply 0 102535 200016900B3591 00000000000000" "0 0 2004 200016900B3591"
    ∷ says "request 0 0x4840D6 4 0 0 0 0 00000000000000" "0"
    ∷ says "plan 200000" "0\n0 0 4735190 0 2530 2798"
    ∷ says "report 0x4840D6" "0 5776 1 - -"
    ∷ says "move 0x4840D6 1000 1004" "0"
    ∷ says "targets" "0 1\n4735190 1000 1004 5776 1 - -"
    ∷ says "remove 0x4840D6" "0"
    ∷ says "entries" "0 1 200000\n0 0 4735190 0 2530 2798 withdrawn"
    ∷ says "reply 0 202535 200016900B3591 00000000000000" "8"
    ∷ says "targets" "0 0"
    ∷ []

-- a line needs no setup first; a number that the call's own type cannot hold is 2, where the call's other 2s are; MA's length before every 2
abbrev refusals : List Told
refusals =
    says "entries" "0 0 0"
    ∷ says "target 1 0 0" "0"
    ∷ says "target 1 0 0" "5"
    ∷ says "target 1 70000 70000" "2"
    ∷ says "target 2 65536 65536" "2"
    ∷ says "move 1 0 65536" "2"
    ∷ says "move 2 0 0" "4"
    ∷ says "remove 2" "4"
    ∷ says "remove 0" "2"
    ∷ says "report 2" "4"
    ∷ says "report 0" "2"
    ∷ says "request 300 1 4 0 0 0 0 00000000000000" "2"
    ∷ says "request 256 1 4 0 0 0 0 00000000000000" "2"
    ∷ says "request 0 1 260 0 0 0 0 00000000000000" "2"
    ∷ says "request 0 1 4 0 0 0 65536 00000000000000" "2"
    ∷ says "request 300 1 4 0 0 0 0 00" "1"
    ∷ says "request 0 2 4 0 0 0 0 00000000000000" "4"
    ∷ says "setup 65536 0 0 0 0 0 0 0 0 0 0 0 0 0 0 0 0 0 0" "2"
    ∷ says "setup 20000 3000 5 256 0 0 0 0 0 0 0 0 0 0 0 0 0 0 0" "2"
    ∷ says "setup 20000 3000 5 4 0 0 0 0 0 0 0 3 0 0 0 0 0 0 0" "3"
    ∷ says "reply 0 0 00 00" "1"
    ∷ says "reply 4294967295 0 00000000000000 00000000000000" "7"
    ∷ says "request 0 1 4 0 0 0 0" "? words wanted: 8"
    ∷ says "reply 0 0 00000000000000 0" "? word 4 is no bytes"
    ∷ says "targets" "0 1\n1 0 0 - - - -"
    ∷ []

-- the aircraft stays when a line of the station runs, and the station when one of the aircraft runs
abbrev beside : List Told
beside =
    says "model 0x484FDE 5912 2349 0 5" "0"
    ∷ says "target 1 0 0" "0"
    ∷ says "state" "0 0 - 0"
    ∷ says "targets" "0 1\n1 0 0 - - - -"
    ∷ []

station_runs_printed : Printed night × Printed later × Printed refusals × Printed beside
unfolding Reading checked console_text lines_text lines_of newline answer_text done_text refusal_text decimal decimal_in signed_decimal hex_in hex_of hex_digit
    every count_of index_of filter over total bits xor_bits shift_in divide remainder_of syndrome size_of subsets xor_of matching flipped sent_for reply_for
    apart clear clear_of fits first place shares_fit setup_number plans.tried plans.pass plans.alone plans.turns plans.plan head_of drawn selective_ranged
    state.before_setup state.emptied set_up target_ranged request_ranged unit_full new_target without removed moved requested reported asked board_for next_plan
    expected value_in start_of in_window targets_heard after_reply settled replied line entry_line entry_lines value_word age_word report_line outcome_spoken
    all_fit where_held numbers_from setup_spoken target_spoken move_spoken remove_spoken request_spoken planned_spoken plan_spoken replied_spoken reply_spoken
    report_text report_spoken newborn make_ranged making made_said model_said holder_text timer_text lock_text locks_text state_text state_said reason_text
    target_line target_lines targets_text targets_spoken status_word status_line status_lines entries_text entries_spoken places_from numbers_behind
station_runs_printed = (refl, refl, refl, refl)
