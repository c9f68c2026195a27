-- What a line tells by its words: nothing for none and for a comment, else why it is not read, or what its call tells.
use Rattle.std.specs.Prelude.{Option, Result, Ok, Err, is_some}
use Prim.Native.Nat.{ℕ, ◌-◌, ◌≤◌, ◌<◌}
use native.Mathlib.Omega.{arith}
use mathlib.Core.Path.{◌≡◌, refl, sym, ap, ◌∙◌}
use mathlib.Core.Bool.{Bool, true, false}
use mathlib.Core.List.{List, [], ◌∷◌}
use lib.Dec.{eqb}
use lib.ListN.{length, get_or, take, drop}
use borrow.Author.Tests.{lt-ltb, le-ltb}
use Rattle.lists.specs.Lists.{pick}
use Rattle.text_rules.specs.Line.{words_of, NthWord}
use Rattle.text_rules.specs.Put.{Put}
use Rattle.text_rules.specs.declared.answer.Span.{Span}
use Rattle.text_rules.proofs.Laid.{put_none}
use Rattle.console_plain.proofs.Texts.{word_of}
use Rattle.console_rules.specs.Texts.{word, Brief, room}
use Rattle.station_rules.specs.declared.state.Station.{Station}
use Rattle.console_rules.specs.Station.{Spoken, Spoke}
use Rattle.model_rules.specs.declared.state.Transponder.{Transponder}
use Rattle.console_rules.specs.declared.state.Bench.{Bench}
use Rattle.console_rules.specs.declared.names.Command.{Command}
use Rattle.console_rules.specs.declared.names.Reason.{Reason}
use Rattle.console_rules.specs.Names.{row_of}
use Rattle.console_rules.specs.Reasons.{too_long, is_too_long, reading, reason_text}
use Rattle.console_rules.specs.Aircraft.{Said, Showed}
use Rattle.console_rules.specs.Console.{Answers, telling, flown, served, ended, comment, call_told, judged_told, row_told, command_told, words_told, line_told}

-- the first byte of a word
pub comment_none : (w : List ℕ) → length w ≡ 0 → false ≡ comment w
unfolding comment
comment_none [] h = refl
comment_none (b ∷ w) h = absurd (omega arith)

pub comment_first : (w : List ℕ) → (length w ≡ 0 → ⊥) → eqb (get_or w 0 0) 35 ≡ comment w
unfolding comment
comment_first [] h = absurd (h refl)
comment_first (b ∷ w) h = refl

-- ---- what was answered

-- a text that fits was laid, and the bench stays
pub stays : {t : List ℕ} {b : Bench} {size : ℕ} {l m : List ℕ} → Put t 0 l m size → length t ≤ room → Answers (telling t b) l m b size
stays p h = record { text_put = p; bench = refl; short = h }

-- no text was laid
pub stays_silent : {b : Bench} {l : List ℕ} → Answers (telling [] b) l l b 0
stays_silent {b} {l} = stays (put_none 0 l (omega arith)) (omega arith)

-- a line of the aircraft was shown
pub flies : (b : Bench) {a : Said} {r : Option Transponder} {size : ℕ} {l m : List ℕ} → Showed a l m r size
    → Answers (flown b a) l m (record { aircraft = r; station = b.station; over = b.over }) size
flies b p =
    record {
      text_put = p.text_put;
      bench = ap (λ (a : Option Transponder). record { aircraft = a; station = b.station; over = b.over }) p.aircraft;
      short = omega (arith, p.short);
    }

-- a line of the station was served
pub serves : (b : Bench) {a : Spoken} {s : Station} {size : ℕ} {l m : List ℕ} → Spoke a l m s size
    → Answers (served b a) l m (record { aircraft = b.aircraft; station = s; over = b.over }) size
serves b p =
    record {
      text_put = p.text_put;
      bench = ap (λ (a : Station). record { aircraft = b.aircraft; station = a; over = b.over }) p.station;
      short = p.short;
    }

-- the console was quit, and nothing was laid
pub ends : (b : Bench) {left : Bench} {l : List ℕ} → left ≡ ended b → Answers (telling [] (ended b)) l l left 0
ends b e = rw e stays_silent

-- a brief text was laid
pub briefly : {t : List ℕ} {b : Bench} {size : ℕ} {l m : List ℕ} → Brief t l m size → Answers (telling t b) l m b size
briefly p = stays p.text_put (omega (arith, p.short))

pub too_long_fits : length too_long ≤ room
too_long_fits = omega arith

-- ---- the call of a line that is read

pub its_call : (b : Bench) (ws : List (List ℕ)) {c d : Command} {l m : List ℕ} {q : Bench} {s : ℕ} → c ≡ d → Answers (call_told d b ws) l m q s
    → Answers (call_told c b ws) l m q s
its_call b ws e p = rw e p

-- w is the first word, and x the call of its line or why it is not read
module _ (b : Bench) (ws : List (List ℕ)) {w : List ℕ} {x : Result Command Reason} (first : w ≡ word 0 ws)
    {made : Bool} (has : made ≡ is_some b.aircraft) (read : x ≡ reading (row_of w) made ws) where
  told_is : command_told b ws ≡ judged_told x b ws
  unfolding command_told row_told
  told_is = rw (← first, ← has, ← read)

  module _ {l m : List ℕ} {size : ℕ} where
    pub was_read : {c : Command} {q : Bench} → x ≡ Ok c → Answers (call_told c b ws) l m q size → Answers (command_told b ws) l m q size
    unfolding judged_told
    was_read e p = rw (told_is, e) p

    pub not_read : {why : Reason} → x ≡ Err why → Brief (reason_text why) l m size → Answers (command_told b ws) l m b size
    unfolding judged_told
    not_read e p = rw (told_is, e) (briefly p)

-- ---- a line by its words

none_by : (b : Bench) (ws : List (List ℕ)) → length ws ≡ 0 → words_told b ws ≡ telling [] b
unfolding words_told
none_by b [] e = refl
none_by b (w ∷ ws) e = absurd (omega arith)

silent_by : (b : Bench) (ws : List (List ℕ)) → comment (word 0 ws) ≡ true → words_told b ws ≡ telling [] b
unfolding words_told word
silent_by b [] h = refl
silent_by b (w ∷ ws) h = rw h

answered_by : (b : Bench) (ws : List (List ℕ)) → (length ws ≡ 0 → ⊥) → comment (word 0 ws) ≡ false → words_told b ws ≡ command_told b ws
unfolding words_told word
answered_by b [] n h = absurd (n refl)
answered_by b (w ∷ ws) n h = rw h

pub no_words : (b : Bench) (line : List ℕ) {n : ℕ} {l m : List ℕ} {q : Bench} {s : ℕ} → n ≡ length (words_of line) → n ≡ 0 → Answers (telling [] b) l m q s
    → Answers (words_told b (words_of line)) l m q s
no_words b line e h p = rw (none_by b (words_of line) (sym e ∙ h)) p

module _ (line : List ℕ) {w : Span} {t : Bool} (first : NthWord line 0 w) (told : t ≡ comment (take (w.to - w.from) (drop w.from line))) where
  at_first : {v : Bool} → t ≡ v → comment (word 0 (words_of line)) ≡ v
  at_first h = ap comment (sym (word_of first)) ∙ sym told ∙ h

  module _ (b : Bench) {l m : List ℕ} {q : Bench} {s : ℕ} where
    pub silent : t ≡ true → Answers (telling [] b) l m q s → Answers (words_told b (words_of line)) l m q s
    silent h p = rw (silent_by b (words_of line) (at_first h)) p

    pub answered : {n : ℕ} → t ≡ false → n ≡ length (words_of line) → (n ≡ 0 → ⊥) → Answers (command_told b (words_of line)) l m q s
        → Answers (words_told b (words_of line)) l m q s
    answered h e k p = rw (answered_by b (words_of line) (λ z. k (e ∙ z)) (at_first h)) p

pub ruleset lines = (no_words, silent, answered)

-- ---- a whole line: behind quit, too long, or by its words
module _ (b : Bench) (line : List ℕ) where
  over_told : b.over ≡ true → line_told b line ≡ telling [] b
  unfolding line_told
  over_told h = ap (λ (t : Bool). pick t (telling [] b) (pick (is_too_long line) (telling too_long b) (words_told b (words_of line)))) h

  module _ (h : b.over ≡ false) {v : Bool} (k : is_too_long line ≡ v) where
    line_told_is : line_told b line ≡ pick v (telling too_long b) (words_told b (words_of line))
    unfolding line_told
    line_told_is =
        ap (λ (t : Bool). pick t (telling [] b) (pick (is_too_long line) (telling too_long b) (words_told b (words_of line)))) h
        ∙ ap (λ (t : Bool). pick t (telling too_long b) (words_told b (words_of line))) k

  module _ {l m : List ℕ} {q : Bench} {s : ℕ} where
    pub over_line : b.over ≡ true → Answers (telling [] b) l m q s → Answers (line_told b line) l m q s
    over_line h p = rw (over_told h) p

    pub long_line : b.over ≡ false → 1000 < length line → Answers (telling too_long b) l m q s → Answers (line_told b line) l m q s
    long_line h k p = rw (line_told_is h (lt-ltb 1000 (length line) k)) p

    pub short_line : b.over ≡ false → length line ≤ 1000 → Answers (words_told b (words_of line)) l m q s → Answers (line_told b line) l m q s
    short_line h k p = rw (line_told_is h (le-ltb 1000 (length line) k)) p

pub ruleset whole = (over_line, long_line, short_line)
