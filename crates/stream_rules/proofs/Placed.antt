-- The places behind a reply's line: the line is its words with the numbers behind the last, and how long those can be.
use Prim.Native.Nat.{ℕ, ◌*◌, ◌≤◌}
use native.Mathlib.Omega.{arith}
use mathlib.Core.Path.{◌≡◌, refl, sym, ap, ◌∙◌}
use mathlib.Core.List.{List, [], ◌∷◌, ◌++◌, map, append_assoc}
use lib.IntN.{ℤ}
use lib.ListN.{length}
use Rattle.text_rules.specs.Put.{decimal, numbers_behind}
use Rattle.text_rules.specs.Signed.{signed_decimal}
use Rattle.text_rules.proofs.Decimal.{behind_short}
use Rattle.parity_rules.specs.Messages.{bits}
use Rattle.parity_rules.specs.Places.{places_in}
use Rattle.parity_rules.proofs.Bits.{bits_length}
use Rattle.parity_rules.proofs.Places.{inside}
use Rattle.stream_rules.specs.Lines.{followed, line, reply_line}

-- a word, and numbers behind it
line_behind : (w : List ℕ) (ns : List ℕ) → line (w ∷ map decimal ns) ≡ w ++ (numbers_behind ns ++ (10 ∷ []))
unfolding line numbers_behind
line_behind w [] = refl
line_behind w (n ∷ ns) =
    ap (λ (t : List ℕ). followed w 32 ++ t) (line_behind (decimal n) ns)
    ∙ append_assoc w (32 ∷ []) (decimal n ++ (numbers_behind ns ++ (10 ∷ [])))
    ∙ ap (λ (t : List ℕ). w ++ t) (sym (append_assoc (32 ∷ decimal n) (numbers_behind ns) (10 ∷ [])))

-- the line of a taken reply: four numbers with a space behind each, the delay, the places, the newline
pub reply_line_is : (n kind flips : ℕ) (delay : ℤ) (ps : List ℕ)
    → followed (decimal n) 32 ++ (followed (decimal kind) 32 ++ (followed (decimal 0) 32 ++ (followed (decimal flips) 32
    ++ (signed_decimal delay ++ (numbers_behind ps ++ (10 ∷ [])))))) ≡ reply_line n kind flips delay ps
unfolding line reply_line
reply_line_is n kind flips delay ps =
    ap (λ (t : List ℕ). followed (decimal n) 32 ++ (followed (decimal kind) 32 ++ (followed (decimal 0) 32 ++ (followed (decimal flips) 32 ++ t))))
    (sym (line_behind (signed_decimal delay) ps))

-- a mark buffer of at most 124 bytes has bit numbers of three digits, so a place takes four bytes
pub places_short : (marks : List ℕ) → length marks ≤ 124 → length (numbers_behind (places_in marks)) ≤ 4 * length (places_in marks)
places_short marks h =
    behind_short (places_in marks)
    (inside 1 (bits marks) 1000 (omega (arith, bits_length marks)))
