-- The examples of document 01 that speak of plans and shares, and cases worked by hand from its rules: what the definitions give
-- beside what the paper gives.
use Rattle.std.specs.Prelude.{ℕ, ◌+◌, ◌*◌, refl, List, [], ◌∷◌, map}
use Rattle.lists.specs.Listing.{Row, row, Agrees, ◌also◌}
use Rattle.lists.specs.Lists.{count_of, filter, total, every}
use Rattle.planner_rules.specs.declared.request.Ask.{Ask}
use Rattle.planner_rules.specs.declared.entry.Entry.{Entry}
use Rattle.planner_rules.specs.declared.setup.Setup.{Setup}
use Rattle.planner_rules.specs.Exchange.{Course, constants, sent_short, sent_long, sent_for, reply_for, course_of, exchange_of, apart, clear}
use Rattle.planner_rules.specs.Fits.{clear_of, fits, first, place}
use Rattle.lists.specs.Checks.{checked}
use Rattle.planner_rules.specs.Shares.{shares_fit, setup_number}
use Rattle.planner_rules.specs.Plan.{Board, tried, pass, alone, turns, plan}
use Rattle.planner_rules.specs.Told.{EntryShown, without_it, told_by}

-- a setup with the shares of the first two units
abbrev setup : ℕ → ℕ → List ℕ → List ℕ → Setup
setup L R g c = record { period = L; reach = R; limit = 5; guarantee = g; ceiling = c }

abbrev shares : ℕ → ℕ → List ℕ
shares a b = a ∷ b ∷ 0 ∷ 0 ∷ 0 ∷ 0 ∷ 0 ∷ 0 ∷ []

-- a request of a unit for an address, by UF and RR, with its near and far; other fields zero
abbrev ask : ℕ → ℕ → ℕ → ℕ → ℕ → ℕ → Ask
ask unit address uf rr near far =
    record {
      request = record { unit = unit; address = address; uf = uf; pc = 0; rr = rr; di = 0; sd = 0; ma = 0 };
      near = near;
      far = far;
    }

-- case P1's requests, with the third for address 3 or another
abbrev requests : ℕ → List Ask
requests third = ask 0 1 20 16 2000 2010 ∷ ask 0 2 4 0 1000 1004 ∷ ask 1 third 4 0 1000 1004 ∷ []

abbrev starts : List Ask → List ℕ
starts w = map (λ (e : Entry). e.start) (plan (setup 20000 3000 (shares 2 1) (shares 3 2)) w).placed

-- the numbers of Annex 10 and those that follow; P1; P1 with the third request for address 2; three guarantees with R 3000, just accepted and just not
abbrev pub listing : List Row
listing =
    row constants (19 ∷ 512 ∷ 1 ∷ 79 ∷ 135 ∷ 256 ∷ 480 ∷ 530 ∷ 531 ∷ 532 ∷ 1012 ∷ [])
    ∷ row (starts (requests 3)) (0 ∷ 135 ∷ 397 ∷ [])
    ∷ row (starts (requests 2)) (0 ∷ 135 ∷ 1927 ∷ [])
    ∷ row (setup_number (setup 12036 3000 (shares 2 1) (shares 3 2)) ∷ []) (0 ∷ [])
    ∷ row (setup_number (setup 12035 3000 (shares 2 1) (shares 3 2)) ∷ []) (3 ∷ [])
    ∷ []

pub edges_agree : Agrees listing
unfolding checked count_of total every sent_for reply_for apart clear clear_of fits first place shares_fit setup_number tried pass alone turns plan
edges_agree = refl also refl also refl also refl also refl also tt

-- ---- exchanges: sent, from and to, in ticks from the start
abbrev ticks : Course → List ℕ
ticks x = x.sent ∷ x.from ∷ x.to ∷ []

-- P1's first entry listens in [2530, 3022) from 0, its second in [1665, 1927) from 135; RR 15 draws the short reply and RR 16 the
-- long one; UF 5 is short, UF 21 long
abbrev exchanges : List Row
exchanges =
    row (ticks (course_of sent_long 2000 2010 (reply_for 16))) (135 ∷ 2530 ∷ 3022 ∷ [])
    ∷ row (ticks (course_of sent_long 2000 2010 (reply_for 15))) (135 ∷ 2530 ∷ 2798 ∷ [])
    ∷ row (ticks (course_of sent_short 1000 1004 (reply_for 0))) (79 ∷ 1530 ∷ 1792 ∷ [])
    ∷ row (ticks (course_of sent_short 1000 1004 (reply_for 31))) (79 ∷ 1530 ∷ 2016 ∷ [])
    ∷ row (ticks (exchange_of (ask 0 1 20 16 2000 2010))) (135 ∷ 2530 ∷ 3022 ∷ [])
    ∷ row (ticks (exchange_of (ask 0 1 21 0 2000 2010))) (135 ∷ 2530 ∷ 2798 ∷ [])
    ∷ row (ticks (exchange_of (ask 0 2 4 0 1000 1004))) (79 ∷ 1530 ∷ 1792 ∷ [])
    ∷ row (ticks (exchange_of (ask 0 2 5 16 1000 1004))) (79 ∷ 1530 ∷ 2016 ∷ [])
    ∷ []

-- ---- setups: 2 for a number outside its range, else 3
abbrev limited : ℕ → Setup
limited n = record { period = 20000; reach = 3000; limit = n; guarantee = shares 2 1; ceiling = shares 3 2 }

-- guarantees and ceilings in the longest period, with no reach
abbrev shared : List ℕ → List ℕ → Setup
shared g c = setup 65535 0 g c

-- R 13,000 and 13,001; limit 12 and 13; shares of 16 and 17; a guarantee above its ceiling; one of 17 above a ceiling of 16
abbrev setups : List Row
setups =
    row (setup_number (setup 65535 13000 (shares 1 0) (shares 1 0)) ∷ []) (0 ∷ [])
    ∷ row (setup_number (setup 65535 13001 (shares 1 0) (shares 1 0)) ∷ []) (2 ∷ [])
    ∷ row (setup_number (limited 12) ∷ setup_number (limited 13) ∷ []) (0 ∷ 2 ∷ [])
    ∷ row (setup_number (shared (shares 16 0) (shares 16 16)) ∷ setup_number (shared (shares 0 0) (shares 16 17)) ∷ []) (0 ∷ 2 ∷ [])
    ∷ row (setup_number (shared (shares 17 0) (shares 17 0)) ∷ setup_number (shared (shares 17 0) (shares 16 0)) ∷ []) (2 ∷ 2 ∷ [])
    ∷ row (setup_number (shared (shares 3 0) (shares 2 0)) ∷ []) (3 ∷ [])
    ∷ []

-- ---- plans: the addresses placed, in their order, and those left waiting
abbrev placed : Board → List ℕ
placed b = map (λ (e : Entry). e.ask.request.address) b.placed

abbrev left : Board → List ℕ
left b = map (λ (a : Ask). a.request.address) b.waiting

-- P1's first request alone, which ends at 3022, in a period of L
abbrev alone_in : ℕ → Board
alone_in L = plan (setup L 3000 (shares 0 0) (shares 1 0)) (ask 0 1 20 16 2000 2010 ∷ [])

-- a short request of a unit for an address
abbrev brief : ℕ → ℕ → Ask
brief unit address = ask unit address 4 0 1000 1004

-- units 2, 1 and 0 ask in that order, each with a guarantee of one
abbrev ones : List ℕ
ones = 1 ∷ 1 ∷ 1 ∷ 0 ∷ 0 ∷ 0 ∷ 0 ∷ 0 ∷ []

abbrev in_turn : Board
in_turn = plan (setup 20000 3000 ones ones) (brief 2 3 ∷ brief 1 2 ∷ brief 0 1 ∷ [])

-- without guarantees unit 1 asks before unit 0; and unit 0 asks three times with a ceiling of two
abbrev by_age_is : Board
by_age_is = plan (setup 20000 3000 (shares 0 0) (shares 2 2)) (brief 1 3 ∷ brief 0 1 ∷ brief 1 2 ∷ [])

abbrev to_ceiling : Board
to_ceiling = plan (setup 20000 3000 (shares 0 0) (shares 2 0)) (brief 0 1 ∷ brief 0 2 ∷ brief 0 3 ∷ [])

abbrev plans : List Row
plans =
    row (placed (alone_in 3022)) (1 ∷ [])
    ∷ row (left (alone_in 3022)) []
    ∷ row (placed (alone_in 3021)) []
    ∷ row (left (alone_in 3021)) (1 ∷ [])
    ∷ row (placed in_turn) (1 ∷ 2 ∷ 3 ∷ [])
    ∷ row (placed by_age_is) (3 ∷ 1 ∷ 2 ∷ [])
    ∷ row (placed to_ceiling) (1 ∷ 2 ∷ [])
    ∷ row (left to_ceiling) (3 ∷ [])
    ∷ []

-- ---- plans told by their lines: unit, address and start
abbrev shows : ℕ → ℕ → ℕ → EntryShown
shows unit address start = record { unit = unit; address = address; start = start }

-- unit 0 asks address 1 three times, in a period of 1811: with a Comm-B message, which ends at 2016; by UF 20 and by UF 4, which end at 1792
abbrev three_times : List Ask
three_times = ask 0 1 4 16 1000 1004 ∷ ask 0 1 20 0 1000 1004 ∷ ask 0 1 4 0 1000 1004 ∷ []

-- UF and RR of a request
abbrev formats : Ask → ℕ
formats a = a.request.uf * 100 + a.request.rr

abbrev told : List EntryShown → List Ask → Board
told ls w = told_by 1811 [] ls w

abbrev told_placed : List EntryShown → List Ask → List ℕ
told_placed ls w = map (λ (e : Entry). formats e.ask) (told ls w).placed

abbrev told_left : List EntryShown → List Ask → List ℕ
told_left ls w = map formats (told ls w).waiting

-- the line at 0 is of UF 20, the oldest that fits; a line of another unit, and one of another address, is of its own request; without a line all is left
abbrev lines : List Row
lines =
    row (told_placed (shows 0 1 0 ∷ []) three_times) (2000 ∷ [])
    ∷ row (told_left (shows 0 1 0 ∷ []) three_times) (416 ∷ 400 ∷ [])
    ∷ row (told_left (shows 1 1 0 ∷ []) (brief 0 1 ∷ ask 1 1 5 0 1000 1004 ∷ [])) (400 ∷ [])
    ∷ row (told_left (shows 0 2 0 ∷ []) (brief 0 1 ∷ ask 0 2 5 0 1000 1004 ∷ [])) (400 ∷ [])
    ∷ row (told_left [] three_times) (416 ∷ 2000 ∷ 400 ∷ [])
    ∷ []

lines_agree : Agrees lines
unfolding filter sent_for reply_for apart clear clear_of fits without_it told_by
lines_agree = refl also refl also refl also refl also refl also tt

exchanges_agree : Agrees exchanges
unfolding sent_for reply_for
exchanges_agree = refl also refl also refl also refl also refl also refl also refl also refl also tt

setups_agree : Agrees setups
unfolding checked total every shares_fit setup_number
setups_agree = refl also refl also refl also refl also refl also refl also tt

plans_agree : Agrees plans
unfolding count_of sent_for reply_for apart clear clear_of fits first place tried pass alone turns plan
plans_agree = refl also refl also refl also refl also refl also refl also refl also refl also tt
