-- A line's text from what was read of its words: `search by-words` finds it.
use Prim.Native.Nat.{ℕ, ◌-◌, ◌≤◌, ◌<◌}
use mathlib.Core.Path.{◌≡◌, refl, ap, ◌∙◌}
use mathlib.Core.List.{List, [], ◌∷◌, ◌++◌}
use lib.IntN.{ℤ}
use lib.ListN.{length, get_or, take, drop, replicate}
use borrow.Author.Tests.{lt-ltb, le-ltb}
use Rattle.lists.specs.Answers.{Answer}
use Rattle.text_rules.specs.declared.answer.Span.{Span}
use Rattle.text_rules.specs.Line.{newline, grown, parts, lines_of, within, NthLine}
use Rattle.text_rules.specs.Put.{Put}
use Rattle.altitude_rules.specs.Code.{altitude}
use Rattle.altitude_rules.specs.WayBack.{way_back, written_said}
use Rattle.std.specs.Prelude.{Err}
use Rattle.refusals.specs.declared.refusal.Refusal.{Refusal}
use Rattle.refusals.specs.Refusals.{number_of}
use Rattle.refusals.proofs.Numbers.{not_done}
use Rattle.parity_rules.specs.Division.{remainder_answer}
use Rattle.parity_rules.specs.Overlays.{uplink_overlay}
use Rattle.frames_rules.specs.Answers.{Building}
use Rattle.frames_rules.specs.Building.{all_calling}
use Rattle.frames_rules.specs.Codes.{code_of}
use Rattle.console_rules.specs.Texts.{number_at, integer_at, bytes_at, done_text, refusal_text, answer_text, Brief}
use Rattle.console_rules.specs.declared.names.PlainLine.{PlainLine}
use Rattle.console_rules.specs.PlainLines.{plain_text}
use Rattle.console_rules.specs.Help.{help_text}
use Rattle.console_rules.proofs.Short.{remainder_fits, overlay_fits, correct_fits, build_fits, all_call_frame_fits, up_fits, down_fits}
use Rattle.console_rules.proofs.Short.{code_fits, feet_fits, ac_fits, explain_fits}
use native.Mathlib.Omega.{arith}
use Rattle.console_rules.specs.Parity.{reckoned_text, remainder_text, overlay_text, fixed_text, correct_text}
use Rattle.console_rules.specs.Building.{built_text, selective_text, build_text, all_call_text}
use Rattle.console_rules.specs.Frames.{interrogation_text, reply_text, up_text, down_text, whose_text, code_text}
use Rattle.console_rules.specs.FeetLines as feet-lines
use Rattle.console_rules.specs.Feet.{feet_text, written_text, ac_text}
use Rattle.console_rules.specs.Explain.{meanings, meaning_text, explain_text}

module _ (ws : List (List ℕ)) {l m : List ℕ} {q : ℕ} where
  pub remainder_line : {a : Answer} {msg : List ℕ} → Put (reckoned_text a) 0 l m q → a ≡ remainder_answer msg → msg ≡ bytes_at 1 ws
      → Put (remainder_text ws) 0 l m q
  unfolding remainder_text
  remainder_line p e b = rw (e, b) at p

  pub overlay_line : {a : Answer} {n : ℕ} → Put (reckoned_text a) 0 l m q → a ≡ uplink_overlay n → n ≡ number_at 1 ws → Put (overlay_text ws) 0 l m q
  unfolding overlay_text
  overlay_line p e b = rw (e, b) at p

  pub correct_line : {msg marks : List ℕ} {overlay limit : ℕ} → Put (fixed_text msg marks overlay limit) 0 l m q → msg ≡ bytes_at 1 ws → marks ≡ bytes_at 2 ws
      → overlay ≡ number_at 3 ws → limit ≡ number_at 4 ws → Put (correct_text ws) 0 l m q
  unfolding correct_text
  correct_line p a b c d = rw (a, b, c, d) at p

  pub build_line : {uf pc rr di sd address : ℕ} {ma : List ℕ} → Put (selective_text uf pc rr di sd ma address) 0 l m q → uf ≡ number_at 1 ws
      → pc ≡ number_at 2 ws
      → rr ≡ number_at 3 ws → di ≡ number_at 4 ws → sd ≡ number_at 5 ws → ma ≡ bytes_at 6 ws → address ≡ number_at 7 ws → Put (build_text ws) 0 l m q
  unfolding build_text
  build_line p a b c d e f g = rw (a, b, c, d, e, f, g) at p

  pub all_call_line : {o : Building} {pr ic cl : ℕ} → Put (built_text o) 0 l m q → o ≡ all_calling pr ic cl (replicate 7 0) → pr ≡ number_at 1 ws
      → ic ≡ number_at 2 ws → cl ≡ number_at 3 ws → Put (all_call_text ws) 0 l m q
  unfolding all_call_text
  all_call_line p e a b c = rw (e, a, b, c) at p

  pub up_line : {msg : List ℕ} → Put (interrogation_text msg) 0 l m q → msg ≡ bytes_at 1 ws → Put (up_text ws) 0 l m q
  unfolding up_text
  up_line p a = rw a at p

  pub down_line : {msg : List ℕ} → Put (reply_text msg) 0 l m q → msg ≡ bytes_at 1 ws → Put (down_text ws) 0 l m q
  unfolding down_text
  down_line p a = rw a at p

  pub code_line : {x : Answer} {msg : List ℕ} {cl ic permit : ℕ} → Put (whose_text x) 0 l m q → x ≡ code_of msg cl ic permit → msg ≡ bytes_at 1 ws
      → cl ≡ number_at 2 ws → ic ≡ number_at 3 ws → permit ≡ number_at 4 ws → Put (code_text ws) 0 l m q
  unfolding code_text
  code_line p e a b c d = rw (e, a, b, c, d) at p

  pub feet_line : {ac : ℕ} → Put (feet-lines.answer_text (altitude ac)) 0 l m q → ac ≡ number_at 1 ws → Put (feet_text ws) 0 l m q
  unfolding feet_text
  feet_line p a = rw a at p

  pub ac_line : {a : Answer} {feet : ℤ} → Put (written_text a) 0 l m q → a ≡ way_back feet → feet ≡ integer_at 1 ws → Put (ac_text ws) 0 l m q
  unfolding ac_text
  ac_line p e b = rw (e, b) at p

  pub explain_line : {n : ℕ} → Put (meaning_text n) 0 l m q → n ≡ number_at 1 ws → Put (explain_text ws) 0 l m q
  unfolding explain_text
  explain_line p a = rw a at p

-- the refusal of an altitude
pub written_refused : (r : Refusal) {n : ℕ} {l m : List ℕ} {q : ℕ} → n ≡ number_of r → Put (refusal_text n) 0 l m q
    → Put (written_text (written_said (Err r))) 0 l m q
unfolding written_text answer_text
written_refused r h p = rw (not_done r, ← h) p

pub ruleset by_words =
    (remainder_line, overlay_line, correct_line, build_line, all_call_line, up_line, down_line, code_line, feet_line, ac_line, explain_line)

-- ---- `search meaning` tells what a number means: a line of the text of all meanings, each ended by a newline
abbrev pub joined : List (List ℕ) → List ℕ
joined [] = []
joined (t ∷ ts) = t ++ (10 ∷ joined ts)

lines_are : lines_of (joined meanings) ≡ meanings
unfolding lines_of parts grown newline meanings
lines_are = refl

counted : length meanings ≡ 20
unfolding meanings
counted = refl

module _ (n : ℕ) {l m : List ℕ} {q : ℕ} where
  pub meaning_none : 20 ≤ n → Put (refusal_text 2) 0 l m q → Put (meaning_text n) 0 l m q
  unfolding meaning_text
  meaning_none h p = rw (counted, le-ltb n 20 h) p

  pub meaning_line : {w : Span} → NthLine (joined meanings) n w → n < 20
      → Put (done_text (take (w.to - w.from) (drop w.from (joined meanings)))) 0 l m q → Put (meaning_text n) 0 l m q
  unfolding meaning_text within
  meaning_line {w} k h p =
      let e : take (w.to - w.from) (drop w.from (joined meanings)) ≡ get_or meanings n [] = k.text ∙ ap (λ (t : List (List ℕ)). get_or t n []) lines_are in
      rw (counted, lt-ltb n 20 h) (rw e at p)

-- ---- `search (plain-line, fitting)` finds that a line's text was laid, and fits
pub plain_line : (ws : List (List ℕ)) {c d : PlainLine} {l m : List ℕ} {q : ℕ} → c ≡ d → Put (plain_text d ws) 0 l m q → length (plain_text d ws) ≤ 512
    → Brief (plain_text c ws) l m q
plain_line ws e p h = rw e (record { text_put = p; short = h })

pub help_fits : length help_text ≤ 512
help_fits = omega arith

pub ruleset fitting =
    (remainder_fits, overlay_fits, correct_fits, build_fits, all_call_frame_fits, up_fits, down_fits, code_fits, feet_fits, ac_fits, explain_fits, help_fits)
