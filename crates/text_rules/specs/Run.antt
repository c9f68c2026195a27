-- A program that answers line after line.
use Rattle.std.specs.Prelude.{ℕ, List, [], ◌∷◌, ◌++◌}

-- the texts of the lines, one after the other
unfoldable pub lines_text : (List ℕ → List ℕ) → List (List ℕ) → List ℕ
lines_text text [] = []
lines_text text (l ∷ ls) = text l ++ lines_text text ls
