-- The table of names: its rows as the code finds them, one after the other.
use Rattle.std.specs.Prelude.{Some, None}
use Prim.Native.Nat.{ℕ, suc, ◌+◌}
use mathlib.Core.Path.{◌≡◌, refl}
use mathlib.Core.Bool.{true, false}
use mathlib.Core.List.{List, [], ◌∷◌, map}
use lib.ListN.{take}
use Rattle.lists.specs.Lists.{pick}
use Rattle.text_rules.specs.Line.{lines_of, words_of, parts, full, grown, blank, newline, same_as}
use Rattle.text_rules.specs.Plain.{plain}
use Rattle.console_rules.specs.Texts.{word}
use Rattle.console_rules.specs.Help.{help_text}
use Rattle.console_rules.specs.Names.{Named, table, row_in}

-- row by row
module _ (w : List ℕ) (n : Named) (ns : List Named) where
  pub row_taken : same_as w n.name ≡ true → row_in w (n ∷ ns) ≡ Some n.row
  unfolding row_in
  row_taken t = rw t

  pub row_passed : same_as w n.name ≡ false → row_in w (n ∷ ns) ≡ row_in w ns
  unfolding row_in
  row_passed t = rw t

pub no_row : (w : List ℕ) → row_in w [] ≡ None
unfolding row_in
no_row w = refl

-- the lines of help begin with the names, in the table's order, and each has behind its name as many words as its line, where `..` stands for six
abbrev pub words_in : List (List ℕ) → ℕ
words_in [] = 0
words_in (w ∷ ws) = pick (same_as w (plain "..")) 6 1 + words_in ws

pub help_named : map (λ (l : List ℕ). word 0 (words_of l)) (lines_of help_text) ≡ map (λ (n : Named). n.name) (take 26 table)
unfolding word words_of lines_of parts full grown blank newline table
help_named = refl

pub help_counted : map (λ (l : List ℕ). words_in (words_of l)) (lines_of help_text) ≡ map (λ (n : Named). suc n.row.words) (take 26 table)
unfolding words_of lines_of parts full grown blank newline table same_as
help_counted = refl
