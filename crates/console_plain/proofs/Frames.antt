-- The texts of frames from what the calls answered and from the numbers that the code lays one after the other.
use Prim.Native.Nat.{ℕ, ◌+◌, ◌≤◌, ◌<◌}
use native.Mathlib.Numerals.{add-one}
use mathlib.Core.Path.{◌≡◌, refl, ap}
use mathlib.Core.List.{List, [], ◌∷◌, ◌++◌, append_assoc}
use lib.Seq.{drop-cons}
use lib.ListN.{length, get_or, drop, drop_of_length-le}
use Rattle.std.specs.Prelude.{Result, Ok, Err}
use Rattle.refusals.specs.declared.refusal.Refusal.{Refusal}
use Rattle.refusals.specs.Refusals.{number_of}
use Rattle.text_rules.specs.Put.{Put}
use Rattle.text_rules.proofs.Laid.{Still, put_then, still_next, still_end}
use Rattle.frames_rules.specs.Answers.{up_said, down_said}
use Rattle.frames_rules.specs.declared.answers.Up.{Up}
use Rattle.frames_rules.specs.declared.answers.Down.{Down}
use Rattle.frames_rules.specs.Reading.{read_up, read_down, mb_part}
use Rattle.console_rules.specs.Texts.{done_text, answer_text}
use Rattle.console_rules.specs.Frames.{number_text, numbers_text, values_text, read_text, interrogation_text, reply_text}

-- ---- `search frame` lays the values of a frame that was read, one case of the answer after the other

module _ (msg : List ℕ) {at q : ℕ} {l m : List ℕ} where
  pub a_reply_is : {d : Result Down Refusal} {e f : Down} → down_said d ≡ read_down msg → d ≡ Ok e → e ≡ f
      → Put (read_text (down_said (Ok f)) (mb_part msg)) at l m q → Put (reply_text msg) at l m q
  unfolding reply_text
  a_reply_is e h k p = rw (← e, h, k) p

  pub no_reply : {d : Result Down Refusal} {r : Refusal} → down_said d ≡ read_down msg → d ≡ Err r
      → ((value : List ℕ) → Put (answer_text (number_of r) value) at l m q) → Put (reply_text msg) at l m q
  unfolding reply_text read_text
  no_reply e h p = rw (← e, h) (p _)

  pub an_interrogation : {u : Result Up Refusal} {v w : Up} → up_said u ≡ read_up msg → u ≡ Ok v → v ≡ w
      → Put (read_text (up_said (Ok w)) (mb_part msg)) at l m q → Put (interrogation_text msg) at l m q
  unfolding interrogation_text
  an_interrogation e h k p = rw (← e, h, k) p

  pub no_interrogation : {u : Result Up Refusal} {r : Refusal} → up_said u ≡ read_up msg → u ≡ Err r
      → ((value : List ℕ) → Put (answer_text (number_of r) value) at l m q) → Put (interrogation_text msg) at l m q
  unfolding interrogation_text read_text
  no_interrogation e h p = rw (← e, h) (p _)

-- MA or MB as the call gave it
pub its_part : (vs : List ℕ) {x y : List ℕ} {at q : ℕ} {l m : List ℕ} → x ≡ y → Put (done_text (values_text vs x)) at l m q
    → Put (done_text (values_text vs y)) at l m q
its_part vs e p = rw e at p

pub ruleset frame = (a_reply_is, no_reply, an_interrogation, no_interrogation, its_part)

-- ---- numbers laid one after the other: what is left from place i on

module _ (ns : List ℕ) {t l m : List ℕ} {start at i : ℕ} (s : Still t start l (numbers_text (drop i ns) []) at m) where
  pub numbers_more : {o : List ℕ} {r : ℕ} → i < length ns → Put (number_text (get_or ns i 0)) at m o r → Still t start l (numbers_text (drop (i + 1) ns) []) r o
  unfolding numbers_text
  numbers_more h p = still_next s (rw (drop-cons ns i 0 h, add-one)) p

  pub numbers_end : length ns ≤ i → at ≤ length m → Put t start l m at
  unfolding numbers_text
  numbers_end h k = still_end s (rw (drop_of_length-le ns h)) k

-- numbers, and what follows them
joined : (ns rest : List ℕ) → numbers_text ns rest ≡ numbers_text ns [] ++ rest
unfolding numbers_text
joined [] rest = refl
joined (n ∷ ns) rest = rw (append_assoc (number_text n)) (ap (λ (t : List ℕ). number_text n ++ t) (joined ns rest))

pub numbers_then : (ns rest : List ℕ) {at r q : ℕ} {l m o : List ℕ} → Put (numbers_text ns []) at l m r → Put rest r m o q → Put (numbers_text ns rest) at l o q
numbers_then ns rest x y = rw (joined ns rest) (put_then x y)
