-- A run with a record of every kind, computed: replies short and long, one of them corrected and one with the delay −1, reports of what was heard,
-- a move and a removal. Messages were sealed apart from these definitions, over Annex 10's generator; starts are reckoned by hand.
use Prim.Native.Nat.{ℕ}
use mathlib.Core.Path.{◌≡◌, refl}
use mathlib.Core.List.{List, [], ◌∷◌, ◌++◌, map}
use lib.ListN.{replicate}
use Rattle.lists.specs.Checks.{checked}
use Rattle.lists.specs.Lists.{every, count_of, index_of, filter, over, total}
use Rattle.text_rules.specs.Put.{decimal_in, decimal}
use Rattle.text_rules.specs.Signed.{signed_decimal}
use Rattle.text_rules.specs.Plain.{plain}
use Rattle.text_rules.specs.Line.{blank, newline, grown, parts, full, lines_of, words_of}
use Rattle.text_rules.specs.Number.{value_after}
use Rattle.parity_rules.specs.Messages.{bits, xor_bits}
use Rattle.parity_rules.specs.Division.{shift_in, divide, remainder_of, syndrome}
use Rattle.parity_rules.specs.Places.{places_from}
use Rattle.parity_rules.specs.Correction.{size_of, subsets, xor_of, matching, flipped}
use Rattle.planner_rules.specs.declared.request.Request.{Request}
use Rattle.planner_rules.specs.Exchange.{sent_for, reply_for, apart, clear}
use Rattle.planner_rules.specs.Fits.{clear_of, fits, first, place}
use Rattle.planner_rules.specs.Shares.{shares_fit, setup_number}
use Rattle.planner_rules.specs.Plan as plans
use Rattle.planner_rules.specs.Told.{EntryShown, without_it, told_by}
use Rattle.frames_rules.specs.Fields.{head_of}
use Rattle.frames_rules.specs.Shared.{drawn}
use Rattle.frames_rules.specs.Building.{selective_ranged}
use Rattle.reader_rules.specs.Records.{body_length, message_length, number_at, record_at, next_place}
use Rattle.reader_rules.specs.Fields.{eight_at}
use Rattle.station_rules.specs.State as state
use Rattle.station_rules.specs.Calls.{set_up, target_ranged, request_ranged, unit_full, new_target, without, removed, moved, requested, reported}
use Rattle.station_rules.specs.Planning.{asked, board_for, next_plan}
use Rattle.station_rules.specs.Replies.{expected, value_in, start_of, in_window, targets_heard, after_reply, received, settled, replied}
use Rattle.station_rules.specs.History.{Call, setup, new, remove, move, request, plan, reply, report}
use Rattle.station_rules.specs.Seen.{AC, ID, never, said, in_force, last_said}
use Rattle.stream_rules.specs.Lines.{line, answer_line, reply_line, entry_line, entry_lines, value_word, age_word, report_line}
use Rattle.stream_rules.specs.Step.{obeyed}
use Rattle.stream_rules.specs.Run.{obeyed_at, goes_on, text_from, transcript}
use Rattle.stream_rules.specs.Spelled.{call_of, called, place_of, calls_of}
use Rattle.stream_rules.specs.Reader.{Shown, numbers_on, answer_on, shown_in, entries_first, read_one, read_to, asked_known, known_by, line_of, events_by}

-- a request of a unit for an address, by UF and RR, other fields zero
abbrev asks : ℕ → ℕ → ℕ → ℕ → Request
asks unit address uf rr = record { unit = unit; address = address; uf = uf; pc = 0; rr = rr; di = 0; sd = 0; ma = 0 }

-- an entry's line: unit, address, start
abbrev shows : ℕ → ℕ → ℕ → EntryShown
shows unit address start = record { unit = unit; address = address; start = start }

abbrev every_kind : List ℕ
every_kind =
    -- 1: setup
    (1 ∷ 78 ∷ 32 ∷ 11 ∷ 184 ∷ 5 ∷ 2 ∷ 1 ∷ 0 ∷ 0 ∷ 0 ∷ 0 ∷ 0 ∷ 0 ∷ 3 ∷ 2 ∷ 0 ∷ 0 ∷ 0 ∷ 0 ∷ 0 ∷ 0 ∷ [])
    -- 2, 3: targets 1 (2000, 2010) and 2 (0, 10)
    ++ (2 ∷ 0 ∷ 0 ∷ 1 ∷ 7 ∷ 208 ∷ 7 ∷ 218 ∷ [])
    ++ (2 ∷ 0 ∷ 0 ∷ 2 ∷ 0 ∷ 0 ∷ 0 ∷ 10 ∷ [])
    -- 4, 5: unit 0 asks 1 by UF 4 and 2 by UF 21 with RR 16
    ++ (4 ∷ 0 ∷ 0 ∷ 0 ∷ 1 ∷ 4 ∷ 0 ∷ 0 ∷ 0 ∷ 0 ∷ 0 ∷ 0 ∷ 0 ∷ 0 ∷ 0 ∷ 0 ∷ 0 ∷ 0 ∷ [])
    ++ (4 ∷ 0 ∷ 0 ∷ 0 ∷ 2 ∷ 21 ∷ 0 ∷ 16 ∷ 0 ∷ 0 ∷ 0 ∷ 0 ∷ 0 ∷ 0 ∷ 0 ∷ 0 ∷ 0 ∷ 0 ∷ [])
    -- 6: plan at tag 2^32 - 50
    ++ (5 ∷ 255 ∷ 255 ∷ 255 ∷ 206 ∷ [])
    -- 7: the short reply to entry 0, two marked bits of it flipped, one other marked
    ++ (6 ∷ 0 ∷ 0 ∷ 0 ∷ 9 ∷ 182 ∷ 32 ∷ 0 ∷ 4 ∷ 211 ∷ 188 ∷ 41 ∷ 189 ∷ 0 ∷ 0 ∷ 0 ∷ 1 ∷ 64 ∷ 0 ∷ 128 ∷ [])
    -- 8: the long reply to entry 1 at the earliest tick
    ++ (7 ∷ 1 ∷ 0 ∷ 0 ∷ 2 ∷ 47 ∷ 168 ∷ 0 ∷ 16 ∷ 225 ∷ 1 ∷ 2 ∷ 3 ∷ 4 ∷ 5 ∷ 6 ∷ 7 ∷ 123 ∷ 219 ∷ 49 ∷ replicate 14 0)
    -- 9: report 1
    ++ (8 ∷ 0 ∷ 0 ∷ 1 ∷ [])
    -- 10: move 1 to (1000, 1004)
    ++ (9 ∷ 0 ∷ 0 ∷ 1 ∷ 3 ∷ 232 ∷ 3 ∷ 236 ∷ [])
    -- 11: the short reply again: 8
    ++ (6 ∷ 0 ∷ 0 ∷ 0 ∷ 9 ∷ 182 ∷ 32 ∷ 0 ∷ 4 ∷ 210 ∷ 188 ∷ 41 ∷ 61 ∷ 0 ∷ 0 ∷ 0 ∷ 0 ∷ 0 ∷ 0 ∷ 0 ∷ [])
    -- 12: remove 1
    ++ (3 ∷ 0 ∷ 0 ∷ 1 ∷ [])
    -- 13: report 1: 4
    ++ (8 ∷ 0 ∷ 0 ∷ 1 ∷ [])
    -- 14: a plan of nothing
    ++ (5 ∷ 0 ∷ 0 ∷ 0 ∷ 0 ∷ [])
    -- 15: report 2
    ++ (8 ∷ 0 ∷ 0 ∷ 2 ∷ [])
    -- 16: move 1: 4
    ++ (9 ∷ 0 ∷ 0 ∷ 1 ∷ 3 ∷ 232 ∷ 3 ∷ 236 ∷ [])

abbrev prints : List ℕ
prints =
    plain "1 1 0\n2 2 0\n3 2 0\n4 4 0\n5 4 0\n"
    ++ plain "6 5 0\n0 0 1 0 2530 2798\n1 0 2 79 609 1101\n"
    ++ plain "7 6 0 2 2005 32 49\n8 7 0 0 -1\n"
    ++ plain "9 8 0\n1234 0 - -\n10 9 0\n11 6 8\n12 3 0\n13 8 4\n14 5 0\n"
    ++ plain "15 8 0\n- - 4321 1\n16 9 4\n"

runs : transcript every_kind ≡ prints
unfolding checked every count_of index_of filter over total decimal_in decimal signed_decimal bits xor_bits shift_in divide remainder_of syndrome
    size_of subsets
    xor_of matching flipped sent_for reply_for apart clear clear_of fits first place shares_fit setup_number plans.tried plans.pass plans.alone plans.turns
    plans.plan head_of drawn selective_ranged body_length message_length number_at record_at eight_at state.before_setup state.emptied set_up target_ranged
    request_ranged unit_full new_target without removed moved requested reported asked board_for next_plan expected value_in start_of in_window targets_heard
    after_reply settled replied line answer_line reply_line entry_line entry_lines value_word age_word report_line obeyed obeyed_at goes_on next_place text_from
    transcript places_from
runs = refl

-- the calls that it spells, the newest first
spells :
    calls_of every_kind 16
    ≡ move 1 1000 1004
    ∷ report 2
    ∷ plan 0
    ∷ report 1
    ∷ remove 1
    ∷ reply (received 0 2486 (32 ∷ 0 ∷ 4 ∷ 210 ∷ 188 ∷ 41 ∷ 61 ∷ []) (replicate 7 0) (replicate 7 0) (replicate 7 0))
    ∷ move 1 1000 1004
    ∷ report 1
    ∷ reply (received 1 559 (168 ∷ 0 ∷ 16 ∷ 225 ∷ 1 ∷ 2 ∷ 3 ∷ 4 ∷ 5 ∷ 6 ∷ 7 ∷ 123 ∷ 219 ∷ 49 ∷ []) (replicate 14 0) (replicate 14 0) (replicate 14 0))
    ∷ reply (received 0 2486 (32 ∷ 0 ∷ 4 ∷ 211 ∷ 188 ∷ 41 ∷ 189 ∷ []) (0 ∷ 0 ∷ 0 ∷ 1 ∷ 64 ∷ 0 ∷ 128 ∷ []) (replicate 7 0) (replicate 7 0))
    ∷ plan 4294967246
    ∷ request (asks 0 2 21 16)
    ∷ request (asks 0 1 4 0)
    ∷ new 2 0 10
    ∷ new 1 2000 2010
    ∷ setup (record { period = 20000; reach = 3000; limit = 5; guarantee = 2 ∷ 1 ∷ replicate 6 0; ceiling = 3 ∷ 2 ∷ replicate 6 0 })
    ∷ []
unfolding checked body_length number_at record_at eight_at next_place call_of called place_of calls_of
spells = refl

-- ---- what a reader finds
-- the plan's lines, read as bytes
reads-plan :
    shown_in (plan 4294967246) (plain "6 5 0\n0 0 1 0 2530 2798\n1 0 2 79 609 1101\n")
    ≡ record { call = plan 4294967246; number = 0; entries = shows 0 1 0 ∷ shows 0 2 79 ∷ [] }
unfolding blank newline grown parts full lines_of words_of value_after
reads-plan = refl

-- a refusal's number, and that of a taken reply with a delay of −1
reads_answers : (answer_on (numbers_on (plain "11 6 8\n")) ∷ answer_on (numbers_on (plain "8 7 0 0 -1\n")) ∷ []) ≡ 8 ∷ 0 ∷ []
unfolding blank newline grown parts full lines_of words_of value_after
reads_answers = refl

-- the answers of all sixteen records, the newest first, read off the stream and the whole transcript
reads-off :
    map (λ (x : Shown). x.number) (read_to every_kind prints 16).shown
    ≡ 4 ∷ 0 ∷ 0 ∷ 4 ∷ 0 ∷ 8 ∷ 0 ∷ 0 ∷ 0 ∷ 0 ∷ 0 ∷ 0 ∷ 0 ∷ 0 ∷ 0 ∷ 0 ∷ []
unfolding blank newline grown parts full lines_of words_of value_after checked body_length record_at next_place place_of call_of entries_first read_one read_to
reads-off = refl

-- from calls and printed numbers written down by hand
abbrev done : Call → List Shown → List Shown
done c v = record { call = c; number = 0; entries = [] } ∷ v

abbrev before_the_plan : List Shown
before_the_plan =
    done (request (asks 0 2 21 16))
    (done (request (asks 0 1 4 0))
    (done (new 2 0 10)
    (done (new 1 2000 2010)
    (done (setup (record { period = 20000; reach = 3000; limit = 5; guarantee = 2 ∷ 1 ∷ replicate 6 0; ceiling = 3 ∷ 2 ∷ replicate 6 0 })) []))))

abbrev to_the_long_reply : List Shown
to_the_long_reply =
    done (reply (received 1 559 (168 ∷ 0 ∷ 16 ∷ 225 ∷ 1 ∷ 2 ∷ 3 ∷ 4 ∷ 5 ∷ 6 ∷ 7 ∷ 123 ∷ 219 ∷ 49 ∷ []) (replicate 14 0) (replicate 14 0) (replicate 14 0)))
    (done (reply (received 0 2486 (32 ∷ 0 ∷ 4 ∷ 211 ∷ 188 ∷ 41 ∷ 189 ∷ []) (0 ∷ 0 ∷ 0 ∷ 1 ∷ 64 ∷ 0 ∷ 128 ∷ []) (replicate 7 0) (replicate 7 0)))
    (record { call = plan 4294967246; number = 0; entries = shows 0 1 0 ∷ shows 0 2 79 ∷ [] } ∷ before_the_plan))

abbrev to_the_end : List Shown
to_the_end =
    done (plan 0)
    (record { call = report 1; number = 4; entries = [] }
    ∷ done (remove 1)
    (record { call = reply (received 0 2486 (32 ∷ 0 ∷ 4 ∷ 210 ∷ 188 ∷ 41 ∷ 61 ∷ []) (replicate 7 0) (replicate 7 0) (replicate 7 0)); number = 8; entries = [] }
    ∷ done (move 1 1000 1004) (done (report 1) to_the_long_reply)))

-- AC and ID of 1, then of 2, and AC of 1 after its removal
reads :
    (last_said AC 1 (events_by to_the_long_reply)
    ∷ last_said ID 1 (events_by to_the_long_reply)
    ∷ last_said AC 2 (events_by to_the_end)
    ∷ last_said ID 2 (events_by to_the_end)
    ∷ last_said AC 1 (events_by to_the_end)
    ∷ [])
    ≡ said 1234 0 ∷ never ∷ never ∷ said 4321 1 ∷ never ∷ []
unfolding bits xor_bits shift_in divide remainder_of syndrome size_of subsets xor_of filter matching flipped head_of drawn expected value_in state.before_setup
    state.emptied sent_for reply_for apart clear clear_of fits without_it told_by in_force last_said known_by events_by
reads = refl

-- what waits before the plan, the oldest first; what a removal, a refused removal, another setup and the plan leave of it
abbrev address_of : Request → ℕ
address_of q = q.address

reads-waiting :
    (map address_of (known_by before_the_plan).waiting
    ∷ map address_of (known_by (done (remove 1) before_the_plan)).waiting
    ∷ map address_of (known_by (record { call = remove 1; number = 4; entries = [] } ∷ before_the_plan)).waiting
    ∷ map address_of (known_by (done (setup (known_by before_the_plan).setup) before_the_plan)).waiting
    ∷ map address_of (known_by to_the_long_reply).waiting
    ∷ [])
    ≡ (1 ∷ 2 ∷ []) ∷ (2 ∷ []) ∷ (1 ∷ 2 ∷ []) ∷ [] ∷ [] ∷ []
unfolding filter state.before_setup state.emptied sent_for reply_for apart clear clear_of fits without_it told_by known_by
reads-waiting = refl

-- a plan that shows no line for a request leaves it, with near and far as they were last told
reads-left :
    asked_known (known_by (done (move 2 4 6) (record { call = plan 0; number = 0; entries = shows 0 1 0 ∷ [] } ∷ before_the_plan)))
    ≡ record { request = asks 0 2 21 16; near = 4; far = 6 } ∷ []
unfolding filter state.before_setup state.emptied sent_for reply_for apart clear clear_of fits without_it told_by known_by
reads-left = refl

-- the plan that the replies are held against: its tag, and the starts on its lines
reads-starts :
    ((known_by to_the_long_reply).tag ∷ (line_of 0 to_the_long_reply).start ∷ (line_of 1 to_the_long_reply).start ∷ []) ≡ 4294967246 ∷ 0 ∷ 79 ∷ []
unfolding filter state.before_setup state.emptied sent_for reply_for apart clear clear_of fits without_it told_by known_by
reads-starts = refl
