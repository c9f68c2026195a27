-- What a line's words say, and the text of an answer; shared by all lines of the console.
use Rattle.std.specs.Prelude.{ℕ, ◌≤◌, ◌≡◌, List, [], ◌++◌, eqb, ℤ, pos, length, get_or, unwrap_or}
use Rattle.lists.specs.Lists.{pick}
use Rattle.text_rules.specs.Put.{laid, Put, decimal}
use Rattle.text_rules.specs.Plain.{plain}
use Rattle.text_rules.specs.Bases.{number_of}
use Rattle.text_rules.specs.Signed.{integer_of}
use Rattle.text_rules.specs.Hex.{bytes_in}

-- ---- read

-- the k-th word, from 0, which is the name; the empty one where there is none
unfoldable pub word : ℕ → List (List ℕ) → List ℕ
word k ws = get_or ws k []

-- the number, the number with its sign, and the bytes of the k-th word; 0 or none for a word that says none, whose line is not read
abbrev pub number_at : ℕ → List (List ℕ) → ℕ
number_at k ws = unwrap_or (number_of (word k ws)) 0

abbrev pub integer_at : ℕ → List (List ℕ) → ℤ
integer_at k ws = unwrap_or (integer_of (word k ws)) (pos 0)

abbrev pub bytes_at : ℕ → List (List ℕ) → List ℕ
bytes_at k ws = unwrap_or (bytes_in (word k ws)) []

-- a call laid the bytes of the k-th word at the front of a buffer, and answered how many they are
pub record BytesAt (k : ℕ) (ws : List (List ℕ)) (before after : List ℕ) (r : ℕ) : Type 0 where
  pub answer : r ≡ length (bytes_at k ws)
  pub buffer : after ≡ laid (bytes_at k ws) 0 before

-- ---- printed

-- 0 and a value
unfoldable pub done_text : List ℕ → List ℕ
done_text value = plain "0 " ++ (value ++ plain "\n")

-- the refusal's number alone
unfoldable pub refusal_text : ℕ → List ℕ
refusal_text n = decimal n ++ plain "\n"

-- a call's answer: its number, with the value where that is 0
unfoldable pub answer_text : ℕ → List ℕ → List ℕ
answer_text n value = pick (eqb n 0) (done_text value) (refusal_text n)

-- the buffer that the program lends: room for the lines of 128 entries, or of 64 targets
abbrev pub room : ℕ
room = 12288

-- a text that lists neither: it was laid at the front of a buffer, and is at most 512 bytes
pub record Brief (t before after : List ℕ) (r : ℕ) : Type 0 where
  pub text_put : Put t 0 before after r
  pub short : length t ≤ 512
