-- The whole run of feet: its lines one after the other are the text of the definition, and each fits a buffer of 32 bytes.
use Rattle.std.specs.Prelude.{Some, None, Err}
use Prim.Native.Nat.{ℕ, ◌+◌, ◌*◌, ◌^◌, ◌≤◌, ◌<◌}
use native.Mathlib.Omega.{arith}
use mathlib.Core.Path.{◌≡◌, refl, sym, ap, ◌∙◌}
use mathlib.Core.Bool.{Bool, true, false, ◌&&◌}
use mathlib.Core.List.{List, [], ◌∷◌, ◌++◌}
use lib.Dec.{leb, ltb}
use lib.Seq.{take_all}
use lib.ListN.{length, take, length-append, length-take}
use borrow.Author.Tests.{ltb-true, ltb-false, lt-ltb}
use Rattle.lists.specs.Lists.{pick}
use Rattle.lists.proofs.Tests.{and_right}
use Rattle.text_rules.specs.Put.{decimal, Put}
use Rattle.text_rules.specs.Line.{lines_of, words_of}
use Rattle.text_rules.specs.Run.{lines_text}
use Rattle.text_rules.specs.Pieces.{together}
use Rattle.text_rules.specs.Number.{all_digits, value_after, number_in}
use Rattle.text_rules.proofs.Decimal.{decimal_length, decimal_fits}
use Rattle.text_rules.proofs.Laid.{read_off}
use Rattle.text_rules.proofs.Pieces as pieces
use Rattle.text_rules.proofs.Signs.{signed_fits}
use Rattle.refusals.specs.declared.refusal.Refusal.TheVariants as refusal
use Rattle.refusals.specs.Refusals.{number_given}
use Rattle.altitude_rules.specs.Code.{Form, eleven, five_hundreds, group, hundreds, feet_by_25, feet_by_100, form_of, read_as, altitude}
use Rattle.altitude_rules.specs.Code.Form.{all_zero, metric, by25, by100, illegal}
use Rattle.console_rules.specs.FeetLines.{no_code, value_text, answer_text, code_text, number_text, words_text, line_text, feet_text}
use Rattle.altitude_rules.proofs.Reckoned.{eleven_lt, five_lt, hundreds_le}

-- ---- the length of a line

-- an answer's value and its line's end take at most 13 bytes
value_short : (f : Form) (ac : ℕ) → length (value_text (read_as f ac)) ≤ 13
unfolding value_text feet_by_25 feet_by_100
value_short all_zero ac = omega arith
value_short metric ac = omega arith
value_short by25 ac =
    let e = eleven_lt ac in
    simp length-append (omega (arith, signed_fits (25 * eleven ac) 1000 (omega arith) (omega arith)))
value_short by100 ac =
    let n = five_lt ac in
    let h = hundreds_le ac in
    simp length-append (omega (arith, signed_fits (500 * five_hundreds ac + 100 * hundreds (five_hundreds ac) (group ac)) 1300 (omega arith) (omega arith)))
value_short illegal ac = omega arith

said_short : (t : Bool) (ac : ℕ) → length (value_text (pick t (Err refusal.Range) (read_as (form_of ac) ac))) ≤ 13
unfolding value_text
said_short true ac = omega arith
said_short false ac = value_short (form_of ac) ac

-- an answer's number takes at most two digits
number_short : (t : Bool) (f : Form) (ac : ℕ) → length (decimal (number_given (pick t (Err refusal.Range) (read_as f ac)))) ≤ 2
number_short true f ac = decimal_length 1 2 (omega arith)
number_short false all_zero ac = decimal_length 1 0 (omega arith)
number_short false metric ac = decimal_length 1 0 (omega arith)
number_short false by25 ac = decimal_length 1 0 (omega arith)
number_short false by100 ac = decimal_length 1 0 (omega arith)
number_short false illegal ac = decimal_length 1 18 (omega arith)

-- an answer takes at most 15 bytes, whatever the code
pub answer_short : (ac : ℕ) → length (answer_text (altitude ac)) ≤ 15
unfolding answer_text altitude
answer_short ac = simp length-append (omega (arith, number_short (ltb 8191 ac) (form_of ac) ac, said_short (ltb 8191 ac) ac))

code_short : (ac : ℕ) → ac < 2 ^ 32 → length (code_text ac) ≤ 26
unfolding code_text
code_short ac h = simp length-append (omega (arith, decimal_fits ac h, answer_short ac))

read_short : (w : List ℕ) (t : Bool) → (ltb 0 (length w) && leb (length w) 9 && all_digits w && ltb (value_after 0 w) (2 ^ 32)) ≡ t
    → length (number_text (pick t (Some (value_after 0 w)) None)) ≤ 32
unfolding number_text
read_short w true e =
    let h = ltb-true (value_after 0 w) (2 ^ 32) (and_right (ltb 0 (length w) && leb (length w) 9 && all_digits w) (ltb (value_after 0 w) (2 ^ 32)) e) in
    omega (arith, code_short (value_after 0 w) h)
read_short w false e = omega arith

words_short : (ws : List (List ℕ)) → length (words_text ws) ≤ 32
unfolding words_text number_in
words_short [] = omega arith
words_short (w ∷ []) = read_short w (ltb 0 (length w) && leb (length w) 9 && all_digits w && ltb (value_after 0 w) (2 ^ 32)) refl
words_short (w ∷ v ∷ ws) = omega arith

-- the text of any line fits 32 bytes
pub line_short : (l : List ℕ) → length (line_text l) ≤ 32
unfolding line_text
line_short l = go (ltb 1000 (length l))
  where
    go : (b : Bool) → length (pick b no_code (words_text (words_of l))) ≤ 32
    go true = omega arith
    go false = words_short (words_of l)

-- ---- the text of a run

-- with 32 bytes lent, what the call leaves at the buffer's front is the whole text of the line
pub line_stands : (line : List ℕ) {before after : List ℕ} {r : ℕ} → Put (line_text line) 0 before after r → 32 ≤ length before → take r after ≡ line_text line
line_stands line p h = read_off p (omega (arith, line_short line))

-- of a line that is too long 1001 bytes say as much as all of them
long_said : (l : List ℕ) → ltb 1000 (length l) ≡ true → line_text l ≡ no_code
unfolding line_text
long_said l e = rw e

pub same_text : (l : List ℕ) → line_text (take 1001 l) ≡ line_text l
same_text l = go (ltb 1000 (length l)) refl
  where
    go : (b : Bool) → ltb 1000 (length l) ≡ b → line_text (take 1001 l) ≡ line_text l
    go true e =
        let h = ltb-true 1000 (length l) e in
        long_said (take 1001 l) (lt-ltb 1000 (length (take 1001 l)) (simp length-take (omega arith))) ∙ sym (long_said l e)
    go false e = ap line_text (take_all 1001 l (omega (arith, ltb-false 1000 (length l) e)))

-- what a run holds of a line, the pieces that come, and what it prints; it has no state
abbrev pub Ran : List ℕ → List (List ℕ) → List ℕ → Type 0
Ran = pieces.Ran 1000 (λ (n : ℕ) (l : List ℕ). line_text l) (λ n l. n) (λ n l. same_text l) (λ n l. refl) 0

texts_are : (ls : List (List ℕ)) → pieces.said_of (λ (n : ℕ) (l : List ℕ). line_text l) (λ n l. n) 0 ls ≡ lines_text line_text ls
unfolding pieces.said_of lines_text
texts_are [] = refl
texts_are (l ∷ ls) = ap (λ (t : List ℕ). line_text l ++ t) (texts_are ls)

-- from the first piece on it prints the text of the definition for the whole input
pub whole_run : {ps : List (List ℕ)} {t : List ℕ} → Ran [] ps t → t ≡ feet_text (together ps)
unfolding feet_text
whole_run {ps} r =
    pieces.whole_run 1000 (λ (n : ℕ) (l : List ℕ). line_text l) (λ n l. n) (λ n l. same_text l) (λ n l. refl) r ∙ texts_are (lines_of (together ps))
