-- The format and AC or ID of a message, from its bytes.
use Rattle.std.proofs.Common.{◌≡◌, ℕ, ◌+◌, ◌*◌, ◌/◌, ◌%◌, ◌<◌, List, [], ◌∷◌, length, get_or, sym, ap, ◌∙◌, arith}
use Rattle.frames_rules.specs.Fields.{head_of, value_at, at_uf, at_ac_or_id}
use Rattle.frames_rules.specs.Reading.{format_of}
use Rattle.station_rules.specs.Replies.{value_in}

-- four bytes as a number
abbrev four : ℕ → ℕ → ℕ → ℕ → ℕ
four a b c d = ((a * 256 + b) * 256 + c) * 256 + d

head_is : (m : List ℕ) → 3 < length m → head_of m ≡ four (get_or m 0 0) (get_or m 1 0) (get_or m 2 0) (get_or m 3 0)
unfolding head_of
head_is [] h = absurd (omega arith)
head_is (a ∷ []) h = absurd (omega arith)
head_is (a ∷ b ∷ []) h = absurd (omega arith)
head_is (a ∷ b ∷ c ∷ []) h = absurd (omega arith)
head_is (a ∷ b ∷ c ∷ d ∷ m) h = omega arith

first_bits : (a b c d : ℕ) → a < 256 → b < 256 → c < 256 → d < 256 → a / 8 ≡ value_at at_uf (four a b c d)
first_bits a b c d ha hb hc hd = omega arith

last_bits : (a b c d : ℕ) → c < 256 → d < 256 → c % 32 * 256 + d ≡ value_at at_ac_or_id (four a b c d)
last_bits a b c d hc hd = omega arith

module _ (m : List ℕ) (h : 3 < length m) where
  pub format_is : get_or m 0 0 < 256 → get_or m 1 0 < 256 → get_or m 2 0 < 256 → get_or m 3 0 < 256 → get_or m 0 0 / 8 ≡ format_of m
  format_is ha hb hc hd = first_bits (get_or m 0 0) (get_or m 1 0) (get_or m 2 0) (get_or m 3 0) ha hb hc hd ∙ sym (ap (value_at at_uf) (head_is m h))

  pub value_is : get_or m 2 0 < 256 → get_or m 3 0 < 256 → get_or m 2 0 % 32 * 256 + get_or m 3 0 ≡ value_in m
  unfolding value_in
  value_is hc hd = last_bits (get_or m 0 0) (get_or m 1 0) (get_or m 2 0) (get_or m 3 0) hc hd ∙ sym (ap (value_at at_ac_or_id) (head_is m h))
