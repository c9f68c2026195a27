-- Formats: which are listed at which length.
use Rattle.std.specs.Prelude.{ℕ, Bool, ◌&&◌, ◌||◌, eqb}
use Rattle.lists.specs.Lists.{pick}

-- 20 and 21, of an interrogation or a reply, are long
abbrev pub long_format : ℕ → Bool
long_format f = eqb f 20 || eqb f 21

-- "UF of a request 4, 5, 20 or 21", and DF of its reply
abbrev pub surveillance : ℕ → Bool
surveillance f = eqb f 4 || eqb f 5 || long_format f

-- the bytes of a frame: 14 for a long format, else 7
abbrev pub length_of : ℕ → ℕ
length_of f = pick (long_format f) 14 7

-- "a format not listed here or not of that length" is 14
abbrev pub listed : ℕ → ℕ → Bool
listed f n = eqb n (length_of f) && (eqb f 11 || surveillance f)
