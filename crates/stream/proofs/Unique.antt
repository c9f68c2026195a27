-- An outcome is unique: two outcomes that a contract of the stream allows are the same one.
use Rattle.std.proofs.Common.{◌≡◌, ℕ, List, sym, ◌∙◌}
use Rattle.stream_rules.specs.declared.run.Run.{Run}
use Rattle.stream.specs.Calls.{Within, Advanced}

-- of a text that was laid, the buffer and the place after it
pub within_one : {k at r q : ℕ} {t l m o : List ℕ} → Within k t at l m r → Within k t at l o q → (m ≡ o) × (r ≡ q)
within_one x y = (x.put.text ∙ sym y.put.text, x.put.next ∙ sym y.put.next)

-- of a step, the buffer, the run afterwards, and the place behind its lines
pub advanced_one : {s l m o : List ℕ} {r : Run} {at : ℕ} {p q : Run} {j k : ℕ} → Advanced s r at l m p j → Advanced s r at l o q k
    → (m ≡ o) × (p ≡ q) × (j ≡ k)
advanced_one x y =
    let b = within_one x.lines y.lines in
    (b.0, x.run ∙ sym y.run, b.1)
