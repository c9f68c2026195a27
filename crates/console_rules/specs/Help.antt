-- The line `help`.
use Rattle.std.specs.Prelude.{ℕ, List, ◌++◌}
use Rattle.text_rules.specs.Plain.{plain}

-- the names of the lines with what follows each, one line each: parity, frames, the aircraft, the station, and the console itself
abbrev pub parity_help : List ℕ
parity_help = plain "remainder HEX\noverlay NUMBER\ncorrect HEX MARKS OVERLAY LIMIT\n"

abbrev pub frames_help : List ℕ
frames_help = plain "build UF PC RR DI SD MA ADDRESS\nallcall PR IC CL\nup HEX\ndown HEX\ncode HEX CL IC PERMIT\nfeet AC\nac FEET\n"

abbrev pub aircraft_help : List ℕ
aircraft_help = plain "model ADDRESS AC ID FS CA\nqueue HEX\nsend TIME DRAW HEX\nstate\n"

abbrev pub station_help : List ℕ
station_help =
    plain "setup L R LIMIT G0 .. G7 C0 .. C7\ntarget ADDRESS NEAR FAR\nremove ADDRESS\nmove ADDRESS NEAR FAR\nrequest UNIT ADDRESS UF PC RR DI SD MA\n"
    ++ plain "plan TAG\nreply ENTRY TAG HEX MARKS\nreport ADDRESS\ntargets\nentries\n"

abbrev pub console_help : List ℕ
console_help = plain "explain NUMBER\nquit\n"

abbrev pub help_text : List ℕ
help_text = parity_help ++ (frames_help ++ (aircraft_help ++ (station_help ++ console_help)))
