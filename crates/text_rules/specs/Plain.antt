-- A quoted text as its bytes.
use Rattle.std.specs.Prelude.{ℕ, zero, suc, List, [], ◌∷◌}
use Prim.Native.Char.{code}
use Prim.Native.String.{String, len, char_at}

-- n characters from the place i on
abbrev characters_from : ℕ → ℕ → String → List ℕ
characters_from zero i t = []
characters_from (suc n) i t = code (char_at t i) ∷ characters_from n (suc i) t

-- the bytes of a text in plain letters, digits and signs, each of which is one byte
abbrev pub plain : String → List ℕ
plain t = characters_from (len t) 0 t
