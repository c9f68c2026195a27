-- What stands at a place is answered in one way: answers that say the same are the same, and the number is that of document 01's table.
use Prim.Native.Nat.{ℕ}
use mathlib.Core.Path.{◌≡◌, refl, sym, ap, ◌∙◌}
use mathlib.Core.Bool.{Bool, true, false}
use mathlib.Core.List.{List}
use lib.Dec.{eqb, ltb}
use lib.ListN.{length, get_or}
use Rattle.lists.specs.Lists.{pick}
use Rattle.lists.specs.Answers.{Answer}
use Rattle.lists.specs.Checks.{checked, given}
use Rattle.lists.proofs.Checks.{view}
use Rattle.reader_rules.specs.declared.reading.Found.{Found}
use Rattle.reader_rules.specs.declared.reading.Found.TheVariants.{End, Unknown, Cut, Whole}
use Rattle.reader_rules.specs.Records.{place_checks, not_whole, whole_or_end, record_at}
use Rattle.reader_rules.specs.Answers.{found_said, found_number, said_at}

-- the i-th value
at : Answer → ℕ → ℕ
at a i = get_or a.values i 0

-- the case that the number and the values tell
found_by : Answer → Found
found_by a =
    pick (eqb a.number 16) (Unknown (at a 0))
    (pick (eqb a.number 17) (Cut (at a 0))
    (pick (eqb (length a.values) 0) End (Whole (at a 0) (at a 1) (at a 2))))

found_back : (f : Found) → found_by (found_said f) ≡ f
unfolding found_by at
found_back End = refl
found_back (Unknown b) = refl
found_back (Cut kind) = refl
found_back (Whole kind body next) = refl

pub found_one : (a b : Found) → found_said a ≡ found_said b → a ≡ b
found_one a b e = sym (found_back a) ∙ ap found_by e ∙ found_back b

pub found_is : (s : List ℕ) (place : ℕ) (x : Found) → found_said x ≡ said_at s place → x ≡ record_at s place
unfolding said_at
found_is s place x e = found_one x (record_at s place) e

-- ---- 16 and 17 exactly when the table says
none : (b : Bool) (kind body next : ℕ) → found_number (pick b (Whole kind body next) End) ≡ 0
none true kind body next = refl
none false kind body next = refl

pub number_at : (s : List ℕ) (place : ℕ) → (said_at s place).number ≡ given (place_checks s place)
unfolding said_at record_at checked
number_at s place =
    view found_number (place_checks s place) not_whole (whole_or_end s place)
    ∙ ap (λ (n : ℕ). checked (place_checks s place) (λ c. found_number (not_whole c)) n) (none (ltb place (length s)) _ _ _)
