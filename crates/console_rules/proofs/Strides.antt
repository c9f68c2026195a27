-- The strides of the aircraft's clock reach the printed lines: nothing of the bench's aircraft has lapsed, and lines that only move time leave one lapse.
use Rattle.std.specs.Prelude.{Result, Ok, Err}
use Rattle.console_rules.specs.declared.names.Reason.{Reason}
use Prim.Native.Nat.{ℕ, ◌≤◌}
use native.Mathlib.Omega.{arith}
use native.Mathlib.Nat.{le_trans}
use mathlib.Core.Path.{◌≡◌, refl, sym, ap, ◌∙◌, subst}
use mathlib.Core.Bool.{true, false≢true}
use mathlib.Core.List.{List, [], ◌∷◌}
use lib.Dec.{eqb}
use Rattle.std.specs.Prelude.{Option, Some, None, is_some}
use Rattle.text_rules.specs.Line.{words_of}
use Rattle.model_rules.specs.declared.state.Transponder.{Transponder}
use Rattle.model_rules.specs.Lapse.{lapse}
use Rattle.model_rules.specs.Calls.{making, taking}
use Rattle.model_rules.specs.Strides.{Current}
use Rattle.model_rules.proofs.Came.{of_pick}
use Rattle.model_rules.specs.History.{take}
use Rattle.model_rules.proofs.Keeping.{time_never_goes_back}
use Rattle.model_rules.proofs.Lapsing.{lapse_twice, lapse_still}
use Rattle.model_rules.proofs.Strides.{current_newborn, current_making, current_queuing, current_taking, frame_strode}
use Rattle.console_rules.specs.declared.state.Bench.{Bench}
use Rattle.console_rules.specs.declared.names.FlightLine.{FlightLine}
use Rattle.console_rules.specs.declared.names.FlightLine.TheVariants.{Model, Queue, Send, State}
use Rattle.console_rules.specs.declared.names.Command.{Command}
use Rattle.console_rules.specs.declared.names.Command.TheVariants.{Plain, Flight, Station, Quit}
use Rattle.console_rules.specs.Texts.{word, number_at, bytes_at}
use Rattle.console_rules.specs.Names.{row_of}
use Rattle.console_rules.specs.Reasons.{is_too_long, reading}
use Rattle.console_rules.specs.Aircraft.{flying, unmade, transponder_of, made_said, model_said, queued_said}
use Rattle.console_rules.specs.Aircraft.{queue_said, took_said, send_said, state_said, flight_said}
use Rattle.console_rules.specs.Console.{Told, call_told, judged_told, row_told, command_told, comment, words_told, line_told, line_leaves, lines_text, begun}
use Rattle.console_rules.specs.Strides.{bench_after, clock_of, StrideLine, StrideLines, StridesPrinted}

-- ---- nothing of the bench's aircraft has lapsed, whatever was typed
abbrev Fresh : Bench → Type 0
Fresh b = Current (transponder_of b.aircraft)

abbrev FreshAfter : Told → Type 0
FreshAfter t = Fresh t.bench

flight_fresh : (l : FlightLine) (a : Option Transponder) (ws : List (List ℕ)) → Current (transponder_of a)
    → Current (transponder_of (flight_said l a ws).aircraft)
unfolding flight_said model_said made_said queue_said queued_said send_said took_said state_said
flight_fresh Model a ws k =
    let m = making (number_at 1 ws) (number_at 2 ws) (number_at 3 ws) (number_at 4 ws) (number_at 5 ws) in
    of_pick (λ (x : Option Transponder). Current (transponder_of x)) (eqb m.number 0) _ a
    (current_making (number_at 1 ws) (number_at 2 ws) (number_at 3 ws) (number_at 4 ws) (number_at 5 ws))
    k
flight_fresh Queue a ws k = current_queuing (transponder_of a) (bytes_at 1 ws) k
flight_fresh Send a ws k = current_taking (transponder_of a) (number_at 1 ws) (number_at 2 ws) (bytes_at 3 ws) k
flight_fresh State a ws k = k

call_fresh : (c : Command) (b : Bench) (ws : List (List ℕ)) → Fresh b → FreshAfter (call_told c b ws)
unfolding call_told
call_fresh (Plain l) b ws k = k
call_fresh (Flight l) b ws k = flight_fresh l b.aircraft ws k
call_fresh (Station l) b ws k = k
call_fresh Quit b ws k = k

judged_fresh : (x : Result Command Reason) (b : Bench) (ws : List (List ℕ)) → Fresh b → FreshAfter (judged_told x b ws)
unfolding judged_told
judged_fresh (Ok c) b ws k = call_fresh c b ws k
judged_fresh (Err why) b ws k = k

words_fresh : (b : Bench) (ws : List (List ℕ)) → Fresh b → FreshAfter (words_told b ws)
unfolding words_told command_told row_told
words_fresh b [] k = k
words_fresh b (w ∷ ws) k =
    let x = reading (row_of (word 0 (w ∷ ws))) (is_some b.aircraft) (w ∷ ws) in
    of_pick FreshAfter (comment w) _ _ k (judged_fresh x b (w ∷ ws) k)

line_fresh : (b : Bench) (l : List ℕ) → Fresh b → Fresh (line_leaves b l)
unfolding line_told
line_fresh b l k = of_pick FreshAfter b.over _ _ k (of_pick FreshAfter (is_too_long l) _ _ k (words_fresh b (words_of l) k))

lines_fresh : (ls : List (List ℕ)) (b : Bench) → Fresh b → Fresh (bench_after b ls)
unfolding bench_after
lines_fresh [] b k = k
lines_fresh (l ∷ ls) b k = lines_fresh ls (line_leaves b l) (line_fresh b l k)

begun_fresh : Fresh begun
unfolding unmade
begun_fresh = current_newborn 0 0 0 0 0

-- ---- lines that only move time leave the bench with the aircraft as one lapse to its clock leaves it
abbrev bench_with : Bench → Transponder → Bench
bench_with b t = record { aircraft = flying t; station = b.station; over = b.over }

its_own : (a : Option Transponder) → is_some a ≡ true → a ≡ flying (transponder_of a)
its_own None m = absurd (false≢true m)
its_own (Some t) m = refl

with_its_own : (b : Bench) → is_some b.aircraft ≡ true → b ≡ bench_with b (transponder_of b.aircraft)
with_its_own b m = ap (λ (x : Option Transponder). record { aircraft = x; station = b.station; over = b.over }) (its_own b.aircraft m)

-- c is b with the aircraft that one lapse to c's clock leaves, and that clock is not before b's
record Strode (b c : Bench) : Type 0 where
  forward : clock_of b ≤ clock_of c
  bench : c ≡ bench_with b (lapse (clock_of c) (transponder_of b.aircraft))

strode_none : (b : Bench) → is_some b.aircraft ≡ true → Fresh b → Strode b b
strode_none b m k =
    record { forward = omega arith; bench = with_its_own b m ∙ ap (bench_with b) (sym (lapse_still (transponder_of b.aircraft) k)) }

strode_line : (b : Bench) (l : List ℕ) → Fresh b → StrideLine b l → Strode b (line_leaves b l)
unfolding send_said took_said
strode_line b l k s =
    let t = transponder_of b.aircraft in
    let u = (taking t (number_at 1 s.words) (number_at 2 s.words) (bytes_at 3 s.words)).transponder in
    let e : line_leaves b l ≡ bench_with b u = ap (λ (x : Told). x.bench) s.sends in
    subst (Strode b) (sym e)
    (record {
      forward = taking_forward t (number_at 1 s.words) (number_at 2 s.words) (bytes_at 3 s.words);
      bench = ap (bench_with b) (frame_strode t (number_at 1 s.words) (number_at 2 s.words) (bytes_at 3 s.words) k s.others);
    })
  where
    taking_forward : (t : Transponder) (time draw : ℕ) (f : List ℕ) → t.time ≤ (taking t time draw f).transponder.time
    taking_forward t time draw f = time_never_goes_back t (take time draw f)

strode_then : (b c d : Bench) → Strode b c → Strode c d → Strode b d
strode_then b c d p q =
    record {
      forward = le_trans p.forward q.forward;
      bench =
          q.bench
          ∙ ap (λ (x : Bench). bench_with x (lapse (clock_of d) (transponder_of x.aircraft))) p.bench
          ∙ ap (bench_with b) (lapse_twice (transponder_of b.aircraft) (clock_of c) (clock_of d) q.forward);
    }

strode_lines : (ls : List (List ℕ)) (b : Bench) → is_some b.aircraft ≡ true → Fresh b → StrideLines b ls → Strode b (bench_after b ls)
unfolding bench_after
strode_lines [] b m k s = strode_none b m k
strode_lines (l ∷ ls) b m k s =
    let p = strode_line b l k s.0 in
    let made : is_some (line_leaves b l).aircraft ≡ true = ap (λ (x : Bench). is_some x.aircraft) p.bench in
    strode_then b (line_leaves b l) (bench_after (line_leaves b l) ls) p (strode_lines ls (line_leaves b l) made (line_fresh b l k) s.1)

-- ---- so two crews that come to one time are printed the same
same_bench : (b c d : Bench) → Strode b c → Strode b d → clock_of c ≡ clock_of d → c ≡ d
same_bench b c d p q e = p.bench ∙ ap (λ (now : ℕ). bench_with b (lapse now (transponder_of b.aircraft))) e ∙ sym q.bench

pub strides_printed : (before : List (List ℕ)) → StridesPrinted before
strides_printed before =
    let b = bench_after begun before in
    let k = lines_fresh before begun begun_fresh in
    record {
      alike = λ fs gs rest m x y e.
          ap (λ (c : Bench). lines_text c rest)
          (same_bench b (bench_after b fs) (bench_after b gs) (strode_lines fs b m k x) (strode_lines gs b m k y) e);
    }
