-- Runs of the console with the model aircraft beside what they print, computed: the frames and replies by the rules of document 01.
use Prim.Native.Nat.{ℕ}
use Prim.Native.String.{String}
use mathlib.Core.Path.{◌≡◌, refl}
use mathlib.Core.Bool.{false}
use mathlib.Core.List.{List, [], ◌∷◌, ◌++◌}
use Rattle.std.specs.Prelude.{is_some}
use Rattle.lists.specs.Lists.{over}
use Rattle.lists.specs.Checks.{checked}
use Rattle.text_rules.specs.Plain.{plain}
use Rattle.text_rules.specs.Put.{decimal_in, decimal}
use Rattle.text_rules.specs.Line.{newline, lines_of, words_of}
use Rattle.text_rules.specs.Hex.{hex_digit, hex_in, hex_of}
use Rattle.parity_rules.specs.Messages.{bits}
use Rattle.parity_rules.specs.Division.{shift_in, divide, remainder_of}
use Rattle.parity_rules.specs.Overlays.{low_bits, times, overlay_of}
use Rattle.frames_rules.specs.Fields.{head_of, mid_of, reply_head, all_call_reply_head}
use Rattle.frames_rules.specs.Frames.{front, sealed}
use Rattle.frames_rules.specs.Building.{selective_ranged, reply_ranged, all_call_reply_ranged, a_reply, an_all_call_reply, replying, all_call_replying}
use Rattle.frames_rules.specs.Interrogations.{up_of}
use Rattle.frames_rules.specs.Shared.{code_for, drawn}
use Rattle.model_rules.specs.State.{started, messages_with, messages_after}
use Rattle.model_rules.specs.Lapse.{timers_after, lapse}
use Rattle.model_rules.specs.Lockout.{started_by_los, started_by_lss, command_of_sd, commanded, lockout, locked_to}
use Rattle.model_rules.specs.CommB.{reserve, closeout}
use Rattle.model_rules.specs.Replies.{sending, respond, draws_below, answers, answer_all_call}
use Rattle.model_rules.specs.Calls.{newborn, make_ranged, making, queuing, steps, interrogated, laid_over, selective_comes, all_call_comes, comes, taking}
use Rattle.console_rules.specs.Texts.{done_text, refusal_text, answer_text}
use Rattle.console_rules.specs.Aircraft.{unmade, transponder_of, made_said, model_said, queued_said, queue_said, sent_text, took_said, send_said, holder_text}
use Rattle.console_rules.specs.Aircraft.{timer_text, lock_text, locks_text, state_text, state_said}
use Rattle.console_rules.specs.Explain.{meanings, meaning_text, explain_text}
use Rattle.console_rules.specs.Reasons.{reason_text}
use Rattle.console_rules.specs.Console as console
use Rattle.console_rules.specs.Console.{lines_text, console_text}
use Rattle.console_rules.specs.Strides.{bench_after, StrideLine}
use Rattle.console_rules.proofs.Examples.{Reading}

-- a line and what it prints, both as quoted texts without their newlines
pub record Told : Type 0 where
  pub line : String
  pub text : String

abbrev pub says : String → String → Told
says l t = record { line = l; text = t }

-- the lines of a run, and the lines that they print
abbrev pub lines : List Told → List ℕ
lines [] = []
lines (t ∷ ts) = plain t.line ++ (10 ∷ lines ts)

abbrev pub texts : List Told → List ℕ
texts [] = []
texts (t ∷ ts) = plain t.text ++ (10 ∷ texts ts)

-- the run prints them
abbrev pub Printed : List Told → Type 0
Printed ts = console_text (lines ts) ≡ texts ts

-- before any model there is no aircraft, and what stands in its place is that of a making that is refused
no_aircraft : (is_some unmade ≡ false) × (transponder_of unmade ≡ (making 0 0 0 0 0).transponder)
unfolding checked unmade newborn make_ranged making
no_aircraft = (refl, refl)

-- no aircraft before a model, nor after one that is refused
abbrev begun : List Told
begun =
    says "state" "? no aircraft"
    ∷ says "queue 20466D72D75DA0" "? no aircraft"
    ∷ says "send 0 0 5808000024E102" "? no aircraft"
    ∷ says "model 0 5912 2349 0 5" "2"
    ∷ says "state" "? no aircraft"
    ∷ says "model 0x484FDE 5912 2349 0 5" "0"
    ∷ says "state" "0 0 - 0"
    ∷ []

-- II 1 is answered over its code; then it and SI 20 are locked, and II 1 gets no reply any more, but II 0 does
abbrev locking : List Told
locking =
    says "model 4739038 5912 2349 0 5" "0"
    ∷ says "send 10 0 5808000024E102" "0 5D484FDEA248E2"
    ∷ says "send 30 0 200110401E9EB5" "0 200017180241B5"
    ∷ says "send 40 0 28035200C638D4" "0 2800092DE82B73"
    ∷ says "state" "0 40 - 0 II1 SI20"
    ∷ says "send 50 0 5808000024E102" "0 -"
    ∷ says "send 70 0 580000004A430A" "0 5D484FDEA248E3"
    ∷ []

-- the first and the last code of each kind, and one between
abbrev codes : List Told
codes =
    says "model 4739038 5912 2349 0 5" "0"
    ∷ says "send 300 0 21079040E08A44" "0 200017180241B5"
    ∷ says "send 300 0 2001F040A5428A" "0 200017180241B5"
    ∷ says "send 300 0 20030600C24057" "0 200017180241B5"
    ∷ says "send 300 0 2003FE00E92868" "0 200017180241B5"
    ∷ says "state" "0 300 - 0 II0 II9 II15 SI1 SI63"
    ∷ []

-- two codes are locked and a message waits; II 1 reserves it, II 4 cannot, and II 1 reads it and closes it
abbrev delivery : List Told
delivery =
    says "model 4739038 5912 2349 0 5" "0"
    ∷ says "send 30 0 200110401E9EB5" "0 200017180241B5"
    ∷ says "send 40 0 28035200C638D4" "0 2800092DE82B73"
    ∷ says "queue 20466D72D75DA0" "0"
    ∷ says "send 90 0 20000000F01194" "0 200817186CE3BD"
    ∷ says "send 100 0 20011400252BD5" "0 2008B718ABB790"
    ∷ says "send 110 0 20014400B97BC7" "0 2008B718ABB790"
    ∷ says "state" "0 110 1 1 II1 SI20"
    ∷ says "send 120 0 20811000F71978" "0 A008B71820466D72D75DA0760689"
    ∷ says "send 130 0 200118006D71D5" "0 200017180241B5"
    ∷ says "state" "0 130 - 0 II1 SI20"
    ∷ []

-- refusals, and lines that cannot be read, leave the aircraft as it was
abbrev refusals : List Told
refusals =
    says "model 4739038 5912 2349 0 5" "0"
    ∷ says "send 600 0 5808000024E102" "0 5D484FDEA248E2"
    ∷ says "send 599 0 5808000024E102" "15"
    ∷ says "send 700 16 5808000024E102" "2"
    ∷ says "send 700 0 5D5D5D5D5D5D" "1"
    ∷ says "send x 0 5808000024E102" "? word 1 is no number"
    ∷ says "queue 000000000000" "1"
    ∷ says "model 1 8192 0 0 0" "2"
    ∷ says "model 1 x 0 0 0" "? word 2 is no number"
    ∷ says "state" "0 600 - 0"
    ∷ []

-- behind `quit` nothing prints, though lines come
quit : console_text (plain "explain 5\nquit\nstate\nexplain 5\n") ≡ plain "0 the address is there already\n"
unfolding Reading console_text lines_text lines_of newline done_text meanings meaning_text explain_text
quit = refl

runs_printed : Printed begun × Printed locking × Printed codes × Printed delivery × Printed refusals
unfolding Reading checked console_text lines_text lines_of newline answer_text done_text refusal_text decimal decimal_in hex_in hex_of hex_digit bits
    shift_in divide remainder_of low_bits times overlay_of selective_ranged reply_ranged all_call_reply_ranged a_reply an_all_call_reply replying
    all_call_replying head_of mid_of reply_head all_call_reply_head front sealed code_for drawn over started messages_with messages_after timers_after
    lapse started_by_los started_by_lss command_of_sd
    commanded lockout locked_to reserve closeout sending respond draws_below answers answer_all_call newborn make_ranged making queuing steps interrogated
    laid_over taking unmade made_said model_said queued_said queue_said sent_text took_said send_said holder_text timer_text lock_text locks_text state_text
    state_said up_of selective_comes all_call_comes comes reason_text
runs_printed = (refl, refl, refl, refl, refl)

-- a `send` of a UF 4 for 406B90 only moves the clock of 484FDE
a_stride : StrideLine (bench_after console.begun (plain "model 4739038 5912 2349 0 5" ∷ [])) (plain "send 150 0 20000000FFD641")
unfolding Reading checked bench_after decimal decimal_in bits shift_in divide remainder_of low_bits times overlay_of newborn make_ranged making laid_over unmade
    made_said model_said refusal_text up_of head_of
a_stride = record { words = words_of (plain "send 150 0 20000000FFD641"); sends = refl; others = refl }
