-- Examples at the edges of the transponder model, as one listing: what the definitions give beside what document 01 says, worked by hand.
use Rattle.std.specs.Prelude.{ℕ, ◌+◌, ◌<◌, List, [], ◌∷◌, ◌++◌, map, get_or, take, replicate}
use Rattle.std.proofs.Common.{arith}
use Rattle.lists.specs.Listing.{Row, row}
use Rattle.lists.specs.Lists.{All}
use Rattle.parity_rules.specs.Messages.{AreBytes}
use Rattle.frames_rules.specs.Building as frames
use Rattle.frames_rules.specs.Fields.{bits_to, in_field}
use Rattle.frames_rules.specs.Reading.{read_down}
use Rattle.model_rules.specs.Answers.{Sent}
use Rattle.model_rules.specs.Calls.{making, queuing, taking}
use Rattle.model_rules.specs.History as history
use Rattle.model_rules.specs.History.{Aircraft, Call, after}
use Rattle.model_rules.specs.Story.{held_by, shows_dr, shows_um, shows_mb}
use Rattle.model_rules.specs.Seen.{number_on, told}
use Rattle.model_rules.specs.Replied.{sent_to}
use Rattle.model_rules.specs.Demands.{sent_by}

-- ---- the aircraft, and its calls
abbrev aircraft : Aircraft
aircraft = record { address = 0x484FDE; ac = 0x1718; id = 0x092D; fs = 0; ca = 5 }

-- UF 4 for it, with PC, RR, DI and SD
abbrev asking : ℕ → ℕ → ℕ → ℕ → List ℕ
asking pc rr di sd = frames.selective 4 pc rr di sd 0 0x484FDE

-- the same as a call: its time, then PC, RR, DI and SD
abbrev ask : ℕ → ℕ → ℕ → ℕ → ℕ → Call
ask time pc rr di sd = history.take time 0 (asking pc rr di sd)

-- a message of the bytes 0, 0, 0, 0, 0, 0 and b
abbrev seven : ℕ → List ℕ
seven b = 0 ∷ 0 ∷ 0 ∷ 0 ∷ 0 ∷ 0 ∷ b ∷ []

pub seven_bytes : (b : ℕ) → b < 256 → AreBytes (seven b)
unfolding All
seven_bytes b h = (omega arith, (omega arith, (omega arith, (omega arith, (omega arith, (omega arith, (h, tt)))))))

pub six_bytes : AreBytes (replicate 6 0)
unfolding All
six_bytes = (omega arith, (omega arith, (omega arith, (omega arith, (omega arith, (omega arith, tt))))))

pub eight_bytes : AreBytes (0 ∷ seven 0)
unfolding All
eight_bytes = (omega arith, seven_bytes 0 (omega arith))

abbrev message : (b : ℕ) → b < 256 → Call
message b h = history.queue (seven b) (seven_bytes b h)

-- one message waits, and two
abbrev one : List Call
one = message 0xAA (omega arith) ∷ []

abbrev two : List Call
two = message 0xBB (omega arith) ∷ one

-- ---- what is seen, beside what the calls alone tell
-- a frame with its time and draw, after a history
pub record Case : Type 0 where
  pub before : List Call
  pub time : ℕ
  pub draw : ℕ
  pub frame : List ℕ

-- what is sent by the transponder, and as told
abbrev seen : Case → Sent
seen c = sent_by (taking (after aircraft c.before) c.time c.draw c.frame)

abbrev tells : Case → Sent
tells c = sent_to aircraft c.before c.time c.draw c.frame

-- the fields of a reply
abbrev fields_of : Sent → List ℕ
fields_of r = (read_down (take r.length r.bytes)).values

-- DR, UM and MB of the reply to UF 4 at a time, with PC, RR, DI and SD
abbrev shown : List Call → ℕ → ℕ → ℕ → ℕ → ℕ → List ℕ → Row
shown cs time pc rr di sd paper =
    let f = asking pc rr di sd in
    let vs = fields_of (seen (record { before = cs; time = time; draw = 0; frame = f })) in
    let s = told aircraft (history.take time 0 f ∷ cs) in
    let tells = shows_dr s.messages ∷ shows_um di sd (held_by s) ∷ shows_mb rr di sd s.messages ∷ [] in
    row ((get_or vs 2 0 ∷ get_or vs 3 0 ∷ get_or vs 5 0 ∷ []) ++ tells) (paper ++ paper)

-- DF and AC or ID of the reply to UF and RR
abbrev drawing : ℕ → ℕ → List ℕ → Row
drawing uf rr paper =
    let c : Case = record { before = []; time = 0; draw = 0; frame = frames.selective uf 0 rr 0 0 0 0x484FDE } in
    let us = fields_of (seen c) in
    let vs = fields_of (tells c) in
    row (get_or us 0 0 ∷ get_or us 4 0 ∷ get_or vs 0 0 ∷ get_or vs 4 0 ∷ []) (paper ++ paper)

-- an all-call at a time, with PR, IC, CL and its draw
abbrev called : List Call → ℕ → ℕ → ℕ → ℕ → ℕ → Case
called cs time pr ic cl draw = record { before = cs; time = time; draw = draw; frame = frames.all_call pr ic cl }

-- the bytes sent, 7 or none
abbrev sent : List Case → List ℕ → Row
sent cases paper = row (map (λ c. (seen c).length) cases ++ map (λ c. (tells c).length) cases) (paper ++ paper)

-- ---- fields of SD
abbrev iis : ℕ → ℕ
iis n = in_field (bits_to 17 20) n

abbrev sis : ℕ → ℕ
sis n = in_field (bits_to 17 22) n

abbrev mbs : ℕ → ℕ
mbs n = in_field (bits_to 21 22) n

abbrev rss : ℕ → ℕ
rss n = in_field (bits_to 27 28) n

abbrev los : ℕ
los = in_field (bits_to 26 26) 1

abbrev lss : ℕ
lss = in_field (bits_to 23 23) 1

-- ---- lockout: after PC 1 at 100, and after a DI and an SD at 0
abbrev locked : List Call
locked = ask 100 1 0 0 0 ∷ []

abbrev only : ℕ → ℕ → List Call
only di sd = ask 0 0 0 di sd ∷ []

abbrev lockouts : List Row
lockouts =
    -- "locked 179 tenths after, free at 180": PC 1 at 100, all-calls of II 0 at 279 and 280; PR 8 ignores lockout
    sent (called locked 279 0 0 0 0 ∷ called locked 280 0 0 0 0 ∷ called locked 279 8 0 0 0 ∷ []) (0 ∷ 7 ∷ 7 ∷ [])
    -- DI 1 and DI 7 with LOS lock II 5, and neither II 0 nor SI 5; DI 0 with LOS locks nothing
    ∷ sent (called (only 1 (iis 5 + los)) 0 0 5 0 0 ∷ called (only 7 (iis 5 + los)) 0 0 5 0 0 ∷ called (only 0 (iis 5 + los)) 0 0 5 0 0 ∷ []) (0 ∷ 0 ∷ 7 ∷ [])
    ∷ sent (called (only 1 (iis 5 + los)) 0 0 0 0 0 ∷ called (only 1 (iis 5 + los)) 0 0 5 1 0 ∷ called (only 1 (iis 5)) 0 0 5 0 0 ∷ []) (7 ∷ 7 ∷ 7 ∷ [])
    -- DI 3 with LSS locks SI 5 (CL 1, IC 5) and SI 63, not II 5; SI 0 starts none; DI 1 with LSS starts none
    ∷ sent (called (only 3 (sis 5 + lss)) 0 0 5 1 0 ∷ called (only 3 (sis 5 + lss)) 0 0 5 0 0 ∷ called (only 3 (sis 63 + lss)) 0 0 15 4 0 ∷ []) (0 ∷ 7 ∷ 0 ∷ [])
    ∷ sent (called (only 3 lss) 0 0 0 0 0 ∷ called (only 1 (sis 5 + lss)) 0 0 5 1 0 ∷ []) (7 ∷ 7 ∷ [])
    ∷ []

-- ---- draws: "draw < 16/2^p"
abbrev draws : List Row
draws =
    sent (called [] 0 0 1 0 15 ∷ called [] 0 1 1 0 7 ∷ called [] 0 1 1 0 8 ∷ called [] 0 4 1 0 0 ∷ called [] 0 4 1 0 1 ∷ []) (7 ∷ 7 ∷ 0 ∷ 7 ∷ 0 ∷ [])
    -- PR 12 is PR 4; 5, 7 and 13 get no reply; nor do SI 0 and CL 5
    ∷ sent (called [] 0 12 1 0 0 ∷ called [] 0 12 1 0 1 ∷ called [] 0 5 1 0 0 ∷ called [] 0 7 1 0 0 ∷ called [] 0 13 1 0 0 ∷ []) (7 ∷ 0 ∷ 0 ∷ 0 ∷ 0 ∷ [])
    ∷ sent (called [] 0 0 0 1 0 ∷ called [] 0 0 1 5 0 ∷ []) (0 ∷ 0 ∷ [])
    ∷ []

-- ---- Comm-B: DR, UM, MB
abbrev messages : List Row
messages =
    -- nothing waits: no DR, MB zeros, and no reservation
    shown [] 0 0 16 1 (iis 3 + mbs 1) (0 ∷ 0 ∷ 0 ∷ [])
    -- one waits: DR 1; RR 16 delivers it; II 3 reserves it
    ∷ shown one 0 0 16 0 0 (1 ∷ 0 ∷ 0xAA ∷ [])
    ∷ shown one 0 0 16 1 (iis 3 + mbs 1) (1 ∷ 13 ∷ 0xAA ∷ [])
    -- IIS 0 reserves nothing, nor does DI 7; IIS 15 does; RSS 2 and 3 hide UM, RSS 1 does not
    ∷ shown one 0 0 16 1 (mbs 1) (1 ∷ 0 ∷ 0xAA ∷ [])
    ∷ shown one 0 0 17 7 (iis 3 + mbs 1) (1 ∷ 0 ∷ 0 ∷ [])
    ∷ shown one 0 0 16 1 (iis 15 + mbs 1) (1 ∷ 61 ∷ 0xAA ∷ [])
    ∷ shown one 0 0 16 1 (iis 3 + mbs 1 + rss 2) (1 ∷ 0 ∷ 0xAA ∷ [])
    ∷ shown one 0 0 16 1 (iis 3 + mbs 1 + rss 3) (1 ∷ 0 ∷ 0xAA ∷ [])
    ∷ shown one 0 0 16 1 (iis 3 + mbs 1 + rss 1) (1 ∷ 13 ∷ 0xAA ∷ [])
    -- a register with RRS not zero reads zero, for DI 7 and for DI 3, as RR 17 does; RRS is not read for DI 1
    ∷ shown one 0 0 16 7 (in_field (bits_to 21 24) 1) (1 ∷ 0 ∷ 0 ∷ [])
    ∷ shown one 0 0 16 3 (in_field (bits_to 24 27) 1) (1 ∷ 0 ∷ 0 ∷ [])
    ∷ shown one 0 0 17 0 0 (1 ∷ 0 ∷ 0 ∷ [])
    ∷ shown one 0 0 16 1 (in_field (bits_to 24 27) 1) (1 ∷ 0 ∷ 0xAA ∷ [])
    ∷ []

-- ---- reservation and closeout: II 3 has reserved the first of two at 100
abbrev reserved : List Call
reserved = ask 100 0 0 1 (iis 3 + mbs 1) ∷ two

abbrev closeouts : List Row
closeouts =
    -- held 179 tenths after, nobody's at 180; the holder's repeat restarts it
    shown reserved 279 0 16 0 0 (1 ∷ 13 ∷ 0xAA ∷ [])
    ∷ shown reserved 280 0 16 0 0 (1 ∷ 0 ∷ 0xAA ∷ [])
    ∷ shown (ask 200 0 0 1 (iis 3 + mbs 1) ∷ reserved) 379 0 16 0 0 (1 ∷ 13 ∷ 0xAA ∷ [])
    ∷ shown (ask 200 0 0 1 (iis 3 + mbs 1) ∷ reserved) 380 0 16 0 0 (1 ∷ 0 ∷ 0xAA ∷ [])
    -- another II's try restarts nothing, and at 180 it gets what II 3 held; then PC 4 and II 3 cannot close it out
    ∷ shown (ask 200 0 0 1 (iis 4 + mbs 1) ∷ reserved) 280 0 16 0 0 (1 ∷ 0 ∷ 0xAA ∷ [])
    ∷ shown reserved 280 0 16 1 (iis 4 + mbs 1) (1 ∷ 17 ∷ 0xAA ∷ [])
    ∷ shown (ask 280 0 0 1 (iis 4 + mbs 1) ∷ reserved) 281 4 16 1 (iis 3 + mbs 2) (1 ∷ 17 ∷ 0xAA ∷ [])
    -- nor is it closed out at 180 by the II that held it, but by PC 4
    ∷ shown reserved 280 0 16 1 (iis 3 + mbs 2) (1 ∷ 0 ∷ 0xAA ∷ [])
    ∷ shown reserved 280 4 16 0 0 (1 ∷ 0 ∷ 0xBB ∷ [])
    -- a frame that is refused or for another aircraft closes out nothing
    ∷ shown (ask 99 0 0 1 (iis 3 + mbs 2) ∷ reserved) 100 0 16 0 0 (1 ∷ 13 ∷ 0xAA ∷ [])
    ∷ shown (history.take 200 0 (frames.selective 4 0 0 1 (iis 3 + mbs 2) 0 0x484FDF) ∷ reserved) 200 0 16 0 0 (1 ∷ 13 ∷ 0xAA ∷ [])
    -- another II can neither reserve it nor close it out, nor can PC 4
    ∷ shown reserved 200 0 16 1 (iis 4 + mbs 1) (1 ∷ 13 ∷ 0xAA ∷ [])
    ∷ shown reserved 200 0 16 1 (iis 4 + mbs 2) (1 ∷ 13 ∷ 0xAA ∷ [])
    ∷ shown reserved 200 4 16 0 0 (1 ∷ 13 ∷ 0xAA ∷ [])
    -- MBS 2 from the holder removes the first message and the reservation, also with PC 4: one message, not two
    ∷ shown reserved 200 0 16 1 (iis 3 + mbs 2) (1 ∷ 0 ∷ 0xBB ∷ [])
    ∷ shown reserved 200 4 16 1 (iis 3 + mbs 2) (1 ∷ 0 ∷ 0xBB ∷ [])
    -- nobody holds: PC 4 removes the first message; MBS 2 does not, with IIS 0 neither; both in one frame remove one
    ∷ shown two 0 4 16 0 0 (1 ∷ 0 ∷ 0xBB ∷ [])
    ∷ shown two 0 0 16 1 (iis 3 + mbs 2) (1 ∷ 0 ∷ 0xAA ∷ [])
    ∷ shown two 0 0 16 1 (mbs 2) (1 ∷ 0 ∷ 0xAA ∷ [])
    ∷ shown two 0 4 16 1 (mbs 2) (1 ∷ 0 ∷ 0xBB ∷ [])
    -- PC 4 with MBS 1: the reservation comes first, so II 3 holds and PC 4 removes nothing
    ∷ shown two 0 4 16 1 (iis 3 + mbs 1) (1 ∷ 13 ∷ 0xAA ∷ [])
    -- PC 4 with MBS 1 and nothing waiting: nobody holds what comes next
    ∷ shown (message 0xAA (omega arith) ∷ ask 0 4 0 1 (iis 3 + mbs 1) ∷ []) 0 0 16 0 0 (1 ∷ 0 ∷ 0xAA ∷ [])
    ∷ []

-- ---- the lines of the tables, on either side of their edges
-- the numbers of makings with an address, AC, ID, FS and CA
abbrev born : ℕ → ℕ → ℕ → ℕ → ℕ → ℕ
born address ac id fs ca = (making address ac id fs ca).number

abbrev makings : List Row
makings =
    -- "address 1 to 16,777,214"
    row (born 0 0 0 0 0 ∷ born 1 0 0 0 0 ∷ born 16777214 8191 8191 7 7 ∷ born 16777215 0 0 0 0 ∷ []) (2 ∷ 0 ∷ 0 ∷ 2 ∷ [])
    -- "AC and ID 13 bits", "FS, CA 0 to 7"
    ∷ row (born 1 8192 0 0 0 ∷ born 1 0 8192 0 0 ∷ born 1 0 0 8 0 ∷ born 1 0 0 0 8 ∷ []) (2 ∷ 2 ∷ 2 ∷ 2 ∷ [])
    ∷ []

-- refusals, after a frame at 100
-- the number of a frame with its time and draw, the time after it and the bytes sent, by the transponder and as told
abbrev judged : ℕ → ℕ → List ℕ → List ℕ → Row
judged time draw f paper =
    let cs = ask 100 0 0 0 0 ∷ [] in
    let r = taking (after aircraft cs) time draw f in
    let c = history.take time draw f in
    let tells = number_on (told aircraft cs) c ∷ (told aircraft (c ∷ cs)).time ∷ (sent_to aircraft cs time draw f).length ∷ [] in
    row ((r.number ∷ r.transponder.time ∷ r.length ∷ []) ++ tells) (paper ++ paper)

-- the number of a message
abbrev queued : List Call → (m : List ℕ) → AreBytes m → ℕ → Row
queued cs m b paper = row ((queuing (after aircraft cs) m).number ∷ number_on (told aircraft cs) (history.queue m b) ∷ []) (paper ∷ paper ∷ [])

abbrev refusals : List Row
refusals =
    -- equal times are taken; a time before the last is 15 and does not move it
    judged 100 0 (asking 0 0 0 0) (0 ∷ 100 ∷ 7 ∷ [])
    ∷ judged 99 0 (asking 0 0 0 0) (15 ∷ 100 ∷ 0 ∷ [])
    -- a draw above 15 is 2 for any frame, before 15
    ∷ judged 200 15 (asking 0 0 0 0) (0 ∷ 200 ∷ 7 ∷ [])
    ∷ judged 99 16 (asking 0 0 0 0) (2 ∷ 100 ∷ 0 ∷ [])
    -- bytes neither 7 nor 14 are 1, before both
    ∷ judged 99 16 (replicate 13 0) (1 ∷ 100 ∷ 0 ∷ [])
    ∷ judged 200 0 (replicate 6 0) (1 ∷ 100 ∷ 0 ∷ [])
    ∷ judged 200 0 (replicate 8 0) (1 ∷ 100 ∷ 0 ∷ [])
    ∷ judged 200 0 (replicate 15 0) (1 ∷ 100 ∷ 0 ∷ [])
    -- a frame for another address, of another format or of the wrong length for its format only moves time
    ∷ judged 200 0 (frames.selective 4 0 0 0 0 0 0x484FDF) (0 ∷ 200 ∷ 0 ∷ [])
    ∷ judged 200 0 (replicate 7 0) (0 ∷ 200 ∷ 0 ∷ [])
    ∷ judged 200 0 (asking 0 0 0 0 ++ replicate 7 0) (0 ∷ 200 ∷ 0 ∷ [])
    -- the ninth message is 6, and one of 6 or 8 bytes is 1, before 6
    ∷ queued (two ++ (two ++ (two ++ two))) (seven 0) (seven_bytes 0 (omega arith)) 6
    ∷ queued (one ++ (two ++ (two ++ two))) (seven 0) (seven_bytes 0 (omega arith)) 0
    ∷ queued (two ++ (two ++ (two ++ two))) (replicate 6 0) six_bytes 1
    ∷ queued [] (0 ∷ seven 0) eight_bytes 1
    ∷ []

-- ---- "UF 4/20 draw AC, UF 5/21 draw ID; RR 16 and above draws the long form"
abbrev drawings : List Row
drawings =
    drawing 4 15 (4 ∷ 0x1718 ∷ [])
    ∷ drawing 4 16 (20 ∷ 0x1718 ∷ [])
    ∷ drawing 5 31 (21 ∷ 0x092D ∷ [])
    ∷ drawing 20 0 (4 ∷ 0x1718 ∷ [])
    ∷ drawing 21 16 (21 ∷ 0x092D ∷ [])
    ∷ []

-- ---- all of them; proofs/Transponder.antt has the one claim
abbrev pub listing : List Row
listing = lockouts ++ (draws ++ (messages ++ (closeouts ++ (makings ++ (refusals ++ drawings)))))
