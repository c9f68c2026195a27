-- `put_numbers` lays six numbers.
use Rattle.std.proofs.Common.{ℕ, ◌+◌, List, [], ◌∷◌, ◌++◌, sym, append_assoc}
use Rattle.stream_rules.specs.Lines.{followed, spaced}
use Rattle.stream.specs.Calls.{Within}
use Rattle.stream.proofs.Lengths.{within_then, within_of}
use Rattle.stream.proofs.entries.put_numbers.Goals as goal

-- a word with its space, and what follows it; and nothing but what follows
spaced-then : (w : List ℕ) (ws : List (List ℕ)) (t : List ℕ) {l m o : List ℕ} {at r q j k : ℕ} → Within j (followed w 32) at l m r
    → Within k (spaced ws ++ t) r m o q → Within (j + k) (spaced (w ∷ ws) ++ t) at l o q
unfolding spaced
spaced-then w ws t x y = within_of (sym (append_assoc (followed w 32) (spaced ws) t)) (within_then x y)

spaced-end : (t : List ℕ) {l m : List ℕ} {at r k : ℕ} → Within k t at l m r → Within k (spaced [] ++ t) at l m r
unfolding spaced
spaced-end t x = x

pub returns : goal.returns
returns c =
    spaced-then _ _ _ c.put_number-at_b.ensures
    (spaced-then _ _ _ c.put_number-at_c.ensures
    (spaced-then _ _ _ c.put_number-at_d.ensures
    (spaced-then _ _ _ c.put_number-at_e.ensures
    (spaced-then _ _ _ c.put_number-at_f.ensures (spaced-end _ c.put_number.ensures)))))
