-- Words with a space behind each of them: what ends them makes them a line.
use Prim.Native.Nat.{ℕ}
use mathlib.Core.Path.{◌≡◌, refl, sym, ap, ◌∙◌}
use mathlib.Core.List.{List, [], ◌∷◌, ◌++◌, append_assoc, append-nil}
use Rattle.stream_rules.specs.Lines.{followed, line, spaced}

-- a line is its words with a space behind each but the last, and the last with the newline
pub line_spaced : (ws : List (List ℕ)) (w : List ℕ) → line (ws ++ (w ∷ [])) ≡ spaced ws ++ followed w 10
unfolding line spaced
line_spaced [] w = refl
line_spaced (v ∷ []) w = rw (append-nil (followed v 32))
line_spaced (v ∷ u ∷ ws) w =
    ap (λ (t : List ℕ). followed v 32 ++ t) (line_spaced (u ∷ ws) w)
    ∙ sym (append_assoc (followed v 32) (spaced (u ∷ ws)) (followed w 10))

-- one word more
pub spaced_more : (ws : List (List ℕ)) (w : List ℕ) → spaced (ws ++ (w ∷ [])) ≡ spaced ws ++ followed w 32
unfolding spaced
spaced_more [] w = append-nil (followed w 32)
spaced_more (v ∷ ws) w = ap (λ (t : List ℕ). followed v 32 ++ t) (spaced_more ws w) ∙ sym (append_assoc (followed v 32) (spaced ws) (followed w 32))
