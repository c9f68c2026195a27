-- What tests joined by && and || say.
use mathlib.Core.Path.{◌≡◌, refl}
use mathlib.Core.Bool.{Bool, true, false, ◌&&◌, ◌||◌, false≢true}
use mathlib.Core.Logic.{◌⊎◌, inl, inr}

pub and_true : (a b : Bool) → a && b ≡ true → (a ≡ true) × (b ≡ true)
and_true true b e = (refl, e)
and_true false b e = absurd (false≢true e)

pub and_left : (a b : Bool) → a && b ≡ true → a ≡ true
and_left a b e = (and_true a b e).0

pub and_right : (a b : Bool) → a && b ≡ true → b ≡ true
and_right a b e = (and_true a b e).1

pub and_no_left : (a b : Bool) → a ≡ false → a && b ≡ false
and_no_left a b e = rw e

pub and_no_right : (a b : Bool) → b ≡ false → a && b ≡ false
and_no_right true b e = e
and_no_right false b e = refl

pub and_yes : (a b : Bool) → a ≡ true → b ≡ true → a && b ≡ true
and_yes a b p q = rw (p, q)

pub or_true : (a b : Bool) → a || b ≡ true → (a ≡ true) ⊎ (b ≡ true)
or_true true b e = inl refl
or_true false b e = inr e

pub or_yes_left : (a b : Bool) → a ≡ true → a || b ≡ true
or_yes_left a b e = rw e

pub or_no : (a b : Bool) → a ≡ false → b ≡ false → a || b ≡ false
or_no a b p q = rw (p, q)

-- what a last test gives, where those before it are passed
pub and_rest : (a b : Bool) {x : Bool} → a ≡ true → x ≡ b → x ≡ a && b
and_rest a b e h = rw e h

pub or_rest : (a b : Bool) {x : Bool} → a ≡ false → x ≡ b → x ≡ a || b
or_rest a b e h = rw e h
