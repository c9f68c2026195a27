-- Calls at the edges of the station, as one listing: what the definitions give beside what document 01 says, worked by hand.
use Rattle.std.specs.Prelude.{ℕ, suc, refl, List, [], ◌∷◌, ◌++◌, map, length, replicate, ℤ, pos, negsuc}
use Rattle.lists.specs.Checks.{checked}
use Rattle.lists.specs.Listing.{Row, row, Agrees, ◌also◌}
use Rattle.lists.specs.Lists.{count_of, total, every, index_of, filter, over}
use Rattle.parity_rules.specs.Messages.{bits}
use Rattle.parity_rules.specs.Division.{shift_in, divide, remainder_of, syndrome}
use Rattle.parity_rules.specs.Correction.{size_of, subsets, xor_of, matching, flipped}
use Rattle.frames_rules.specs.Fields.{head_of}
use Rattle.frames_rules.specs.Building.{selective_ranged}
use Rattle.frames_rules.specs.Shared.{drawn}
use Rattle.planner_rules.specs.declared.request.Request.{Request}
use Rattle.planner_rules.specs.declared.entry.Entry.{Entry}
use Rattle.planner_rules.specs.Exchange.{sent_for, reply_for, apart, clear}
use Rattle.planner_rules.specs.Fits.{clear_of, fits, first, place}
use Rattle.planner_rules.specs.Shares.{shares_fit, setup_number}
use Rattle.planner_rules.specs.Plan as plans
use Rattle.station_rules.specs.declared.state.Station.{Station}
use Rattle.station_rules.specs.State.{emptied, before_setup, fresh, entries_of, with_targets, with_waiting}
use Rattle.station_rules.specs.Calls.{set_up, target_ranged, request_ranged, unit_full, new_target, without, removed, moved, requested, reported}
use Rattle.station_rules.specs.Planning.{asked, board_for, next_plan}
use Rattle.station_rules.specs.Replies.{received, expected, value_in, start_of, in_window, targets_heard, after_reply, settled, replied}
use Rattle.station_rules.specs.History.{Call, setup, new, remove, move, request, plan, reply, report, answer, after}

-- ---- the calls, the newest first in a history
-- UF 4 of a unit for an address, other fields zero
abbrev asking : ℕ → ℕ → Request
asking unit address = record { unit = unit; address = address; uf = 4; pc = 0; rr = 0; di = 0; sd = 0; ma = 0 }

-- L 20000, R 3000, limit 5, nothing guaranteed, at most 16 for every unit; then targets 1 and 2 at (1000, 1004)
abbrev begun : List Call
begun = setup (record { period = 20000; reach = 3000; limit = 5; guarantee = replicate 8 0; ceiling = replicate 8 16 }) ∷ []

abbrev two : List Call
two = new 2 1000 1004 ∷ new 1 1000 1004 ∷ begun

-- unit 1 asks for address 1, then unit 0 for address 2
abbrev waiting : List Call
waiting = request (asking 0 2) ∷ request (asking 1 1) ∷ two

-- a setup of a reach, and one of a guarantee and a ceiling for each unit
abbrev reaching : ℕ → Call
reaching R = setup (record { period = 20000; reach = R; limit = 5; guarantee = replicate 8 0; ceiling = replicate 8 16 })

abbrev sharing : ℕ → ℕ → Call
sharing g c = setup (record { period = 20000; reach = 0; limit = 5; guarantee = replicate 8 g; ceiling = replicate 8 c })

-- ---- stations with n targets, all of address 1, and with n requests of unit 0 waiting
abbrev holding : ℕ → Station
holding n = with_targets (record { list = replicate 64 (fresh 1 0 0); n = n }) (after begun)

abbrev busy : ℕ → Station
busy n = with_waiting (record { list = replicate 128 (asking 0 1); n = n }) (after two)

-- ---- what is seen
abbrev number : List Call → Call → ℕ
number cs c = (answer (after cs) c).number

-- of each entry of the plan in force: its unit, its start, its near
abbrev units : List Call → List ℕ
units cs = map (λ (e : Entry). e.ask.request.unit) (entries_of (after cs).plan)

abbrev starts : List Call → List ℕ
starts cs = map (λ (e : Entry). e.start) (entries_of (after cs).plan)

abbrev nears : List Call → List ℕ
nears cs = map (λ (e : Entry). e.ask.near) (entries_of (after cs).plan)

-- ---- replies to entry 0, for target 1 at (0, 4), of a plan with a tag: DF 4 with AC 0 over address 1, no bit marked
abbrev near_by : ℕ → List Call
near_by tag = plan tag ∷ request (asking 0 1) ∷ new 1 0 4 ∷ begun

-- a delay's sign, 1 for minus, and its size
abbrev signed : ℤ → List ℕ
signed (pos n) = 0 ∷ n ∷ []
signed (negsuc n) = 1 ∷ suc n ∷ []

abbrev good : List ℕ
good = 0x20 ∷ 0 ∷ 0 ∷ 0 ∷ 0x80 ∷ 0x66 ∷ 0x5E ∷ []

abbrev unmarked : List ℕ
unmarked = replicate 7 0

-- what a reply with a tag is told: its number, and the delay
abbrev told : ℕ → ℕ → List ℕ
told plan_tag tag =
    let r = replied (after (near_by plan_tag)) (received 0 tag good unmarked unmarked unmarked) in
    r.number ∷ signed r.delay

-- the number of a reply to an entry of that plan, by its tag, message and marks; the buffers are as long as the message
abbrev judged : ℕ → ℕ → List ℕ → List ℕ → ℕ
judged k tag msg marks = number (near_by 100) (reply (received k tag msg marks (replicate (length msg) 0) (replicate (length msg) 0)))

-- the good message with bit 40 altered, and one of DF 5 over the same address
abbrev altered : List ℕ
altered = 0x20 ∷ 0 ∷ 0 ∷ 0 ∷ 0x81 ∷ 0x66 ∷ 0x5E ∷ []

abbrev other : List ℕ
other = 0x28 ∷ 0 ∷ 0 ∷ 0 ∷ 0x20 ∷ 0x78 ∷ 0xCF ∷ []

-- five and six marks, none of them at bit 40, and one there
abbrev marked : ℕ → List ℕ
marked last = 0 ∷ 0 ∷ 0 ∷ 0 ∷ 0 ∷ 0 ∷ last ∷ []

abbrev at40 : List ℕ
at40 = 0 ∷ 0 ∷ 0 ∷ 0 ∷ 1 ∷ 0 ∷ 0 ∷ []

-- the number of a reply to entry 0 that is in time, and what the places buffer, which held 254 in each byte, holds after it
abbrev spare : List ℕ
spare = replicate 7 254

abbrev answered : List ℕ → List ℕ → List ℕ
answered msg marks =
    let r = replied (after (near_by 100)) (received 0 631 msg marks unmarked spare) in
    r.number ∷ r.buffers.places

-- ---- the rows
abbrev pub listing : List Row
listing =
    -- "before a setup L, R, limit, guarantees and ceilings are 0", so far may be 0 and no more
    row (before_setup.setup.period ∷ before_setup.setup.reach ∷ before_setup.setup.limit ∷ (before_setup.setup.guarantee ++ before_setup.setup.ceiling))
    (replicate 19 0)
    ∷ row (number [] (new 1 0 0) ∷ number [] (new 1 0 1) ∷ []) (0 ∷ 2 ∷ [])
    -- a setup: R of 13,000 and 13,001; a guarantee of 1 with a ceiling of 1 and of 0
    ∷ row (number [] (reaching 13000) ∷ number [] (reaching 13001) ∷ number [] (sharing 1 1) ∷ number [] (sharing 1 0) ∷ []) (0 ∷ 2 ∷ 0 ∷ 3 ∷ [])
    -- a new target, 2: "near ≤ far ≤ R", "address 1 to 16,777,214"
    ∷ row (number begun (new 1 5 4) ∷ number begun (new 1 3000 3000) ∷ number begun (new 1 3000 3001) ∷ []) (2 ∷ 0 ∷ 2 ∷ [])
    ∷ row (number begun (new 0 0 0) ∷ number begun (new 16777214 0 0) ∷ number begun (new 16777215 0 0) ∷ []) (2 ∷ 0 ∷ 2 ∷ [])
    -- 5: an address already there, after 2 and before 6; 6: a 65th target
    ∷ row (number two (new 2 5 4) ∷ number two (new 2 0 0) ∷ number two (new 3 0 0) ∷ []) (2 ∷ 5 ∷ 0 ∷ [])
    ∷ row ((answer (holding 64) (new 1 0 0)).number ∷ (answer (holding 64) (new 65 0 0)).number ∷ (answer (holding 63) (new 65 0 0)).number ∷ [])
    (5 ∷ 6 ∷ 0 ∷ [])
    -- a removal, a report and a move: 2, then 4 for an address not in the list
    ∷ row (number two (remove 0) ∷ number two (remove 16777215) ∷ number two (remove 3) ∷ number two (remove 2) ∷ []) (2 ∷ 2 ∷ 4 ∷ 0 ∷ [])
    ∷ row (number two (report 0) ∷ number two (report 16777215) ∷ number two (report 3) ∷ number two (report 2) ∷ []) (2 ∷ 2 ∷ 4 ∷ 0 ∷ [])
    ∷ row (number two (move 3 5 4) ∷ number two (move 2 5 4) ∷ number two (move 3 4 4) ∷ number two (move 2 4 4) ∷ []) (2 ∷ 2 ∷ 4 ∷ 0 ∷ [])
    -- a request: 2, "unit 0 to 7", before 4; 4 before 6; 6: a 17th of a unit, while one of another unit is taken
    ∷ row (number two (request (asking 8 3)) ∷ number two (request (asking 7 3)) ∷ number two (request (asking 7 2)) ∷ []) (2 ∷ 4 ∷ 0 ∷ [])
    ∷ row ((answer (busy 16) (request (asking 0 3))).number ∷ (answer (busy 16) (request (asking 0 1))).number ∷ []) (4 ∷ 6 ∷ [])
    ∷ row ((answer (busy 15) (request (asking 0 1))).number ∷ (answer (busy 16) (request (asking 1 1))).number ∷ []) (0 ∷ 0 ∷ [])
    -- a reply, 1: a message of 6 bytes, marks or a buffer not as long as the message, before 7
    ∷ row (judged 1 631 (replicate 6 0) (replicate 6 0) ∷ judged 1 631 good (replicate 6 0) ∷ []) (1 ∷ 1 ∷ [])
    ∷ row (number (near_by 100) (reply (received 1 631 good unmarked (replicate 8 0) unmarked)) ∷ []) (1 ∷ [])
    ∷ row (number (near_by 100) (reply (received 1 631 good unmarked unmarked (replicate 8 0))) ∷ []) (1 ∷ [])
    -- 7: the plan has one entry, 0; 8: it was answered, or withdrawn with its target, before 9
    ∷ row (judged 1 631 good unmarked ∷ judged 0 631 good unmarked ∷ []) (7 ∷ 0 ∷ [])
    ∷ row (number (reply (received 0 631 good unmarked unmarked unmarked) ∷ near_by 100) (reply (received 0 631 good unmarked unmarked unmarked)) ∷ []) (8 ∷ [])
    ∷ row (number (remove 1 ∷ near_by 100) (reply (received 0 631 (replicate 14 0) (replicate 14 0) (replicate 14 0) (replicate 14 0))) ∷ []) (8 ∷ [])
    -- 9: a long message to a short reply's entry, before 10; 10 before 11
    ∷ row (judged 0 629 (replicate 14 0) (replicate 14 0) ∷ judged 0 629 altered (marked 0x3F) ∷ []) (9 ∷ 10 ∷ [])
    -- 11: six marks where the limit is 5, before 12; 12: the altered bit is not marked; 14: DF 5 where UF 4 draws DF 4. A refusal leaves the places, and
    -- of three marked bits the altered one is told
    ∷ row (answered altered (marked 0x3F)) (11 ∷ spare)
    ∷ row (answered altered (marked 0x1F)) (12 ∷ spare)
    ∷ row (answered altered (0 ∷ 0 ∷ 0 ∷ 0 ∷ 3 ∷ 0 ∷ 1 ∷ [])) (0 ∷ at40)
    ∷ row (answered other unmarked) (14 ∷ spare)
    ∷ row (answered good unmarked) (0 ∷ unmarked)
    -- "all the rest by age": unit 1 asked first; the second exchange is clear when its window, [1530, 1792) after its start, is
    ∷ row (units (plan 0 ∷ waiting)) (1 ∷ 0 ∷ [])
    ∷ row (starts (plan 0 ∷ waiting)) (0 ∷ 262 ∷ [])
    -- "a move changes near and far, not the present plan"
    ∷ row (nears (move 1 500 504 ∷ plan 0 ∷ waiting)) (1000 ∷ 1000 ∷ [])
    ∷ row (nears (plan 1 ∷ request (asking 0 1) ∷ move 1 500 504 ∷ plan 0 ∷ waiting)) (500 ∷ [])
    -- "removal drops the target's requests", and its return does not bring them back
    ∷ row (units (plan 0 ∷ new 1 1000 1004 ∷ remove 1 ∷ waiting)) (0 ∷ [])
    -- "taken for t+530+near ≤ s ≤ t+532+far. Measured delay is s−t−531 and may be −1": a tick early, −1, 0, far + 1, a tick late
    ∷ row (told 100 629) (10 ∷ 0 ∷ 0 ∷ [])
    ∷ row (told 100 630) (0 ∷ 1 ∷ 1 ∷ [])
    ∷ row (told 100 631) (0 ∷ 0 ∷ 0 ∷ [])
    ∷ row (told 100 636) (0 ∷ 0 ∷ 5 ∷ [])
    ∷ row (told 100 637) (10 ∷ 0 ∷ 0 ∷ [])
    -- "32-bit counts that wrap": the plan 100 ticks before the wrap, the reply 430 after it
    ∷ row (told 4294967196 430) (0 ∷ 1 ∷ 1 ∷ [])
    ∷ []

-- the one claim
pub calls_agree : Agrees listing
unfolding checked count_of total every index_of filter over selective_ranged sent_for reply_for apart clear clear_of fits first place shares_fit setup_number
    plans.tried plans.pass plans.alone plans.turns plans.plan before_setup emptied set_up target_ranged request_ranged unit_full new_target without
    removed moved
    requested reported asked board_for next_plan after expected drawn start_of in_window targets_heard after_reply value_in settled replied bits shift_in divide
    remainder_of syndrome size_of subsets xor_of matching flipped head_of
calls_agree =
    refl also refl also refl also refl also refl also refl also refl also refl also refl also refl also refl also refl also refl also refl also refl also
    refl also refl also refl also refl also refl also refl also refl also refl also refl also refl also refl also refl also refl also refl also refl also
    refl also refl also refl also refl also refl also refl also tt
