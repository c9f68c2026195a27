-- What a step of the code gives the program: fewer bytes left, and the record's lines behind those that are held.
use Rattle.std.proofs.Common.{◌≡◌, ℕ, ◌+◌, ◌<◌, ◌≤◌, true, false, List, ◌++◌, length, take, drop, ap, ◌∙◌, arith, length-append, length-take, take_at}
use Rattle.text_rules.proofs.Laid.{length_laid, laid_split}
use Rattle.stream_rules.specs.declared.run.Run.{Run}
use Rattle.stream_rules.specs.Run.{lines_now, is_full, room}
use Rattle.stream_rules.proofs.Runs.{left, falls, not_full}
use Rattle.stream.specs.Calls.{Advanced}

-- the bytes left fall with each step, so the program ends
pub falls_after : {s l m : List ℕ} {r : Run} {at : ℕ} {q : Run} {end : ℕ} → Advanced s r at l m q end → r.more ≡ true → left s q < left s r
falls_after {s} {r = r} a e = rw a.run (falls s r e)

-- what is held then is what was held, and the record's lines whole, if there was room for one record more
pub shown : {s l m : List ℕ} {r : Run} {at : ℕ} {q : Run} {end : ℕ} → length l ≡ room → is_full at ≡ false → Advanced s r at l m q end
    → take end m ≡ take at l ++ lines_now s r
shown {s} {l} {m} {r} {at} {q} {end} z f a =
    let t = lines_now s r in
    let free = not_full at f in
    let here : end ≡ at + length t = omega (arith, a.lines.put.next, a.lines.short) in
    let fits : at + length t ≤ length l = omega (arith, a.lines.put.next, a.lines.short) in
    let front : length (take at l ++ t) ≡ end = simp (length-append, length-take) (omega arith) in
    ap (take end) (a.lines.put.text ∙ laid_split t at l fits)
    ∙ take_at (take at l ++ t) (drop (at + length t) l) end front

-- and it is all in the buffer, as lending its front asks
pub shown_count : {s l m : List ℕ} {r : Run} {at : ℕ} {q : Run} {end : ℕ} → Advanced s r at l m q end → (end ≤ length m) × (end ≡ length (take end m))
shown_count {s} {l} {m} {r} {at} {q} {end} a =
    let k : length m ≡ length l = ap length a.lines.put.text ∙ length_laid (lines_now s r) at l in
    (omega (arith, a.lines.put.next, k), simp length-take (omega (arith, a.lines.put.next, k)))
