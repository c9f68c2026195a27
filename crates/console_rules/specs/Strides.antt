-- Strides of the aircraft's clock: lines `send` whose frames only move time, and what is shown of the lines behind them.
use Rattle.std.specs.Prelude.{ℕ, ◌≡◌, true, List, [], ◌∷◌, is_some}
use Rattle.frames_rules.specs.Interrogations.{up_of}
use Rattle.model_rules.specs.Strides.{NotFor}
use Rattle.console_rules.specs.Texts.{bytes_at}
use Rattle.console_rules.specs.declared.state.Bench.{Bench}
use Rattle.console_rules.specs.Aircraft.{transponder_of, send_said}
use Rattle.console_rules.specs.Console.{flown, line_told, line_leaves, lines_text, begun}

-- the bench that lines leave, one after the other
unfoldable pub bench_after : Bench → List (List ℕ) → Bench
bench_after b [] = b
bench_after b (l ∷ ls) = bench_after (line_leaves b l) ls

-- the aircraft's time, which `state` prints first
abbrev pub clock_of : Bench → ℕ
clock_of b = (transponder_of b.aircraft).time

-- the line is read as `send` with these words, and its frame is no selective interrogation for the aircraft
pub record StrideLine (b : Bench) (line : List ℕ) : Type 0 where
  pub words : List (List ℕ)
  pub sends : line_told b line ≡ flown b (send_said b.aircraft words)
  pub others : NotFor (transponder_of b.aircraft).address (up_of (bytes_at 3 words))

-- each of the lines is, on the bench that those before it leave
abbrev pub StrideLines : Bench → List (List ℕ) → Type 0
StrideLines b [] = Unit {0}
StrideLines b (l ∷ ls) = StrideLine b l × StrideLines (line_leaves b l) ls

-- after any lines since the console was begun that have made an aircraft: two crews that bring its clock to one time by such lines, taken and refused ones,
-- however many, are printed the same from then on, whatever they type
pub record StridesPrinted (before : List (List ℕ)) : Type 0 where
  pub alike : (fs gs rest : List (List ℕ)) → let b = bench_after begun before in
      is_some b.aircraft ≡ true → StrideLines b fs → StrideLines b gs → clock_of (bench_after b fs) ≡ clock_of (bench_after b gs)
      → lines_text (bench_after b fs) rest ≡ lines_text (bench_after b gs) rest
