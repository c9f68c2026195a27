-- The row of a name, line by line.
use Prim.Native.Nat.{ℕ, ◌+◌, ◌≤◌, ◌<◌}
use native.Mathlib.Numerals.{add-one}
use native.Mathlib.Omega.{arith}
use mathlib.Core.Path.{◌≡◌, refl, sym, ap, ◌∙◌}
use mathlib.Core.Bool.{Bool, true, false}
use mathlib.Core.List.{List, ◌∷◌, map}
use denote.Ref.{Bor}
use lib.ListN.{length, get_or, drop, drop_of_length-le, get_or-map}
use lib.Seq.{drop-cons}
use Rattle.std.specs.Prelude.{Some, None}
use Rattle.text_rules.specs.Line.{same_as}
use Rattle.console_rules.specs.declared.names.Command.{Command}
use Rattle.console_rules.specs.declared.names.Row.{Row}
use Rattle.console_rules.specs.Names.{Named, table, row_in, row_of}
use Rattle.console_rules.proofs.Table.{row_taken, row_passed, no_row}

-- a line of the code: its name, and what its row is made of
abbrev pub Entry : Type 0
Entry = Bor (List ℕ) × Command × ℕ × ℕ × ℕ × ℕ × Bool

abbrev pub row_by : Entry → Row
row_by e = record { command = e.1; words = e.2; bytes = e.3; more = e.4; sign = e.5; aircraft = e.6 }

abbrev pub named : Entry → Named
named e = record { name = e.0.now; row = row_by e }

-- the lines of the code are those of the definition
pub record Listed (es : List Entry) : Type 0 where
  pub are : map named es ≡ table

pub rows : length table ≡ 27
unfolding table
rows = refl

-- what the lines from k on say is what all of them say
module _ (w : List ℕ) {es : List Entry} (listed : Listed es) (k : ℕ) (d : Entry) (e : row_of w ≡ row_in w (drop k table)) where
  module _ (h : k < 27) where
    next : row_of w ≡ row_in w (named (get_or es k d) ∷ drop (k + 1) table)
    next =
        let n : k < length table = omega (arith, rows) in
        let i : get_or table k (named d) ≡ named (get_or es k d) = ap (λ (l : List Named). get_or l k (named d)) (sym listed.are) ∙ get_or-map named es k d in
        e ∙ rw (drop-cons table k (named d) n, add-one k, i)

    pub row_found : same_as w (get_or es k d).0.now ≡ true → Some (row_by (get_or es k d)) ≡ row_of w
    row_found t = sym (next ∙ row_taken w (named (get_or es k d)) (drop (k + 1) table) t)

    pub row_other : same_as w (get_or es k d).0.now ≡ false → row_of w ≡ row_in w (drop (k + 1) table)
    row_other t = next ∙ row_passed w (named (get_or es k d)) (drop (k + 1) table) t

pub rows_over : (w : List ℕ) (k : ℕ) → row_of w ≡ row_in w (drop k table) → 27 ≤ k → None ≡ row_of w
rows_over w k e h =
    let n : length table ≤ k = omega (arith, rows) in
    sym (e ∙ rw (drop_of_length-le table n) (no_row w))
