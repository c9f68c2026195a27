-- Case P1 of document 01, whole, and its variant: the transcript computed from the definitions.
use Prim.Native.Nat.{ℕ}
use mathlib.Core.Path.{◌≡◌, refl}
use mathlib.Core.List.{List, [], ◌∷◌, ◌++◌}
use Rattle.lists.specs.Checks.{checked}
use Rattle.lists.specs.Lists.{every, count_of, index_of, filter, over, total}
use Rattle.text_rules.specs.Put.{decimal_in, decimal}
use Rattle.text_rules.specs.Plain.{plain}
use Rattle.planner_rules.specs.Exchange.{sent_for, reply_for, apart, clear}
use Rattle.planner_rules.specs.Fits.{clear_of, fits, first, place}
use Rattle.planner_rules.specs.Shares.{shares_fit, setup_number}
use Rattle.planner_rules.specs.Plan.{tried, pass, alone, turns, plan}
use Rattle.frames_rules.specs.Building.{selective_ranged}
use Rattle.reader_rules.specs.Records.{body_length, number_at, record_at, next_place}
use Rattle.reader_rules.specs.Fields.{eight_at}
use Rattle.station_rules.specs.State.{before_setup, emptied}
use Rattle.station_rules.specs.Calls.{set_up, target_ranged, request_ranged, unit_full, new_target, requested, reported}
use Rattle.station_rules.specs.Planning.{asked, board_for, next_plan}
use Rattle.stream_rules.specs.Lines.{line, answer_line, entry_line, entry_lines, value_word, age_word, report_line}
use Rattle.stream_rules.specs.Step.{obeyed}
use Rattle.stream_rules.specs.Run.{obeyed_at, goes_on, text_from, transcript}

-- setup: L 20000, R 3000, limit 5, guarantees 2,1, ceilings 3,2, the rest 0
abbrev setup : List ℕ
setup = 1 ∷ 78 ∷ 32 ∷ 11 ∷ 184 ∷ 5 ∷ 2 ∷ 1 ∷ 0 ∷ 0 ∷ 0 ∷ 0 ∷ 0 ∷ 0 ∷ 3 ∷ 2 ∷ 0 ∷ 0 ∷ 0 ∷ 0 ∷ 0 ∷ 0 ∷ []

-- targets 1 (2000, 2010), 2 and 3 (1000, 1004)
abbrev targets : List ℕ
targets =
    (2 ∷ 0 ∷ 0 ∷ 1 ∷ 7 ∷ 208 ∷ 7 ∷ 218 ∷ [])
    ++ (2 ∷ 0 ∷ 0 ∷ 2 ∷ 3 ∷ 232 ∷ 3 ∷ 236 ∷ [])
    ++ (2 ∷ 0 ∷ 0 ∷ 3 ∷ 3 ∷ 232 ∷ 3 ∷ 236 ∷ [])

-- a request of a unit for an address, by UF and RR, other fields zero
abbrev request : ℕ → ℕ → ℕ → ℕ → List ℕ
request unit address uf rr = 4 ∷ unit ∷ 0 ∷ 0 ∷ address ∷ uf ∷ 0 ∷ rr ∷ 0 ∷ 0 ∷ 0 ∷ 0 ∷ 0 ∷ 0 ∷ 0 ∷ 0 ∷ 0 ∷ 0 ∷ []

-- the whole stream, with the third request for address 3 or another; plan tag 0; report 1
abbrev case : ℕ → List ℕ
case third =
    setup
    ++ targets
    ++ request 0 1 20 16
    ++ request 0 2 4 0
    ++ request 1 third 4 0
    ++ (5 ∷ 0 ∷ 0 ∷ 0 ∷ 0 ∷ [])
    ++ (8 ∷ 0 ∷ 0 ∷ 1 ∷ [])

-- with the third request for address 2 its start is 1927
case-p1 :
    (transcript (case 3)
    ≡ plain "1 1 0\n2 2 0\n3 2 0\n4 2 0\n5 4 0\n6 4 0\n7 4 0\n8 5 0\n0 0 1 0 2530 3022\n1 0 2 135 1665 1927\n2 1 3 397 1927 2189\n9 8 0\n- - - -\n")
    × (transcript (case 2)
    ≡ plain "1 1 0\n2 2 0\n3 2 0\n4 2 0\n5 4 0\n6 4 0\n7 4 0\n8 5 0\n0 0 1 0 2530 3022\n1 0 2 135 1665 1927\n2 1 2 1927 3457 3719\n9 8 0\n- - - -\n")
unfolding checked every count_of index_of filter over total decimal_in decimal sent_for reply_for apart clear clear_of fits first place shares_fit setup_number
    tried pass alone turns plan selective_ranged body_length number_at record_at eight_at before_setup emptied set_up target_ranged request_ranged
    unit_full new_target
    requested reported asked board_for next_plan line answer_line entry_line entry_lines value_word age_word report_line obeyed obeyed_at goes_on
    next_place text_from
    transcript
case-p1 = (refl, refl)
