-- The whole run of the console: each line's text stands whole in the buffer, and what a run prints is the definition's text, however the input comes.
use Prim.Native.Nat.{ℕ, ◌≤◌}
use native.Mathlib.Omega.{arith}
use mathlib.Core.Path.{◌≡◌, refl, sym, ap, ◌∙◌}
use mathlib.Core.Bool.{Bool, true, false}
use mathlib.Core.List.{List, [], ◌∷◌, ◌++◌}
use lib.ListN.{length, take, replicate, length-take}
use lib.Seq.{take_all}
use borrow.Author.Tests.{ltb-true, ltb-false, lt-ltb}
use Rattle.lists.specs.Lists.{pick}
use Rattle.text_rules.specs.Line.{blank, grown, parts, full, lines_of, words_of}
use Rattle.text_rules.specs.Pieces.{together}
use Rattle.text_rules.proofs.Laid.{read_off}
use Rattle.text_rules.proofs.Pieces as pieces
use Rattle.console_rules.specs.declared.state.Bench.{Bench}
use Rattle.console_rules.specs.Texts.{room}
use Rattle.console_rules.specs.Reasons.{too_long, is_too_long}
use Rattle.console_rules.specs.FeetLines as feet
use Rattle.console_rules.specs.Console.{Told, Answers, telling, words_told, line_told, line_text, line_leaves, lines_text, begun, console_text}

-- with so much room lent, what the call leaves at the buffer's front is the whole text of the line
pub line_stands : (b : Bench) (line : List ℕ) {before after : List ℕ} {left : Bench} {size : ℕ} → Answers (line_told b line) before after left size
    → room ≤ length before
    → take size after ≡ line_text b line
line_stands b line p h = read_off p.text_put (omega (arith, p.short))

-- ---- of a line that is too long 1001 bytes say as much as all of them
long_told : (b : Bench) (l : List ℕ) → is_too_long l ≡ true → line_told b l ≡ pick b.over (telling [] b) (telling too_long b)
unfolding line_told
long_told b l e = rw e

pub same_told : (b : Bench) (l : List ℕ) → line_told b (take 1001 l) ≡ line_told b l
same_told b l = go (is_too_long l) refl
  where
    go : (t : Bool) → is_too_long l ≡ t → line_told b (take 1001 l) ≡ line_told b l
    go true e =
        let h = ltb-true 1000 (length l) e in
        long_told b (take 1001 l) (lt-ltb 1000 (length (take 1001 l)) (simp length-take (omega arith))) ∙ sym (long_told b l e)
    go false e = ap (line_told b) (take_all 1001 l (omega (arith, ltb-false 1000 (length l) e)))

pub same_text : (b : Bench) (l : List ℕ) → line_text b (take 1001 l) ≡ line_text b l
same_text b l = ap (λ (t : Told). t.text) (same_told b l)

pub same_left : (b : Bench) (l : List ℕ) → line_leaves b (take 1001 l) ≡ line_leaves b l
same_left b l = ap (λ (t : Told). t.bench) (same_told b l)

-- ---- the run: what it holds of a line, the pieces that come, and what it prints
abbrev pub Ran : Bench → List ℕ → List (List ℕ) → List ℕ → Type 0
Ran = pieces.Ran 1000 line_text line_leaves same_text same_left

texts_are : (b : Bench) (ls : List (List ℕ)) → pieces.said_of line_text line_leaves b ls ≡ lines_text b ls
unfolding pieces.said_of lines_text
texts_are b [] = refl
texts_are b (l ∷ ls) = ap (λ (t : List ℕ). line_text b l ++ t) (texts_are (line_leaves b l) ls)

-- from the first piece on it prints the text of the definition for the whole input
pub whole_run : {ps : List (List ℕ)} {t : List ℕ} → Ran begun [] ps t → t ≡ console_text (together ps)
unfolding console_text
whole_run {ps} r = pieces.whole_run 1000 line_text line_leaves same_text same_left r ∙ texts_are begun (lines_of (together ps))

-- ---- behind `quit` no line prints, so a run that ends there has printed the text of the whole input
quit_told : (b : Bench) (l : List ℕ) → b.over ≡ true → line_told b l ≡ telling [] b
unfolding line_told
quit_told b l e = rw e

pub behind_quit : (b : Bench) (ls : List (List ℕ)) → b.over ≡ true → lines_text b ls ≡ []
unfolding lines_text
behind_quit b [] e = refl
behind_quit b (l ∷ ls) e =
    ap (λ (t : Told). t.text ++ lines_text t.bench ls) (quit_told b l e) ∙ behind_quit b ls e

-- ---- worked: 1000 blanks print nothing, and 1001 are too long; so in feet
at-the-edge :
    (line_text begun (replicate 1000 32) ∷ line_text begun (replicate 1001 32) ∷ feet.line_text (replicate 1000 32) ∷ feet.line_text (replicate 1001 32) ∷ [])
    ≡ [] ∷ too_long ∷ [] ∷ feet.no_code ∷ []
unfolding line_told words_told words_of parts full grown blank feet.line_text feet.words_text
at-the-edge = refl
