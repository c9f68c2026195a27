-- No refusal has the number 0, and no two have the same.
use Rattle.std.proofs.Common.{refl}
use mathlib.Core.Path.{◌≡◌, sym, ap, ◌∙◌}
use Rattle.std.specs.Prelude.{ℕ, false, eqb}
use Rattle.lists.specs.Lists.{pick}
use Rattle.refusals.specs.declared.refusal.Refusal.{Refusal}
use Rattle.refusals.specs.declared.refusal.Refusal.TheVariants as refusal
use Rattle.refusals.specs.Refusals.{number_of}

-- 0 is done, and no refusal
pub not_done : (r : Refusal) → eqb (number_of r) 0 ≡ false
not_done refusal.Length = refl
not_done refusal.Range = refl
not_done refusal.Shares = refl
not_done refusal.NoTarget = refl
not_done refusal.Present = refl
not_done refusal.Full = refl
not_done refusal.NoEntry = refl
not_done refusal.Closed = refl
not_done refusal.OtherLength = refl
not_done refusal.Outside = refl
not_done refusal.Marks = refl
not_done refusal.NoMatch = refl
not_done refusal.Doubt = refl
not_done refusal.Format = refl
not_done refusal.Earlier = refl
not_done refusal.Unknown = refl
not_done refusal.Cut = refl
not_done refusal.Illegal = refl
not_done refusal.NoCode = refl

-- the refusal of a number; the last one stands for every number that is none
abbrev refusal_of : ℕ → Refusal
refusal_of n =
    (pick (eqb n 1) refusal.Length
    (pick (eqb n 2) refusal.Range
    (pick (eqb n 3) refusal.Shares
    (pick (eqb n 4) refusal.NoTarget
    (pick (eqb n 5) refusal.Present
    (pick (eqb n 6) refusal.Full
    (pick (eqb n 7) refusal.NoEntry
    (pick (eqb n 8) refusal.Closed
    (pick (eqb n 9) refusal.OtherLength
    (pick (eqb n 10) refusal.Outside
    (pick (eqb n 11) refusal.Marks
    (pick (eqb n 12) refusal.NoMatch
    (pick (eqb n 13) refusal.Doubt
    (pick (eqb n 14) refusal.Format
    (pick (eqb n 15) refusal.Earlier
    (pick (eqb n 16) refusal.Unknown
    (pick (eqb n 17) refusal.Cut
    (pick (eqb n 18) refusal.Illegal
    refusal.NoCode))))))))))))))))))

found : (r : Refusal) → refusal_of (number_of r) ≡ r
found refusal.Length = refl
found refusal.Range = refl
found refusal.Shares = refl
found refusal.NoTarget = refl
found refusal.Present = refl
found refusal.Full = refl
found refusal.NoEntry = refl
found refusal.Closed = refl
found refusal.OtherLength = refl
found refusal.Outside = refl
found refusal.Marks = refl
found refusal.NoMatch = refl
found refusal.Doubt = refl
found refusal.Format = refl
found refusal.Earlier = refl
found refusal.Unknown = refl
found refusal.Cut = refl
found refusal.Illegal = refl
found refusal.NoCode = refl

-- a refusal is known by its number
pub same_number : (r s : Refusal) → number_of r ≡ number_of s → r ≡ s
same_number r s e = sym (found r) ∙ ap refusal_of e ∙ found s
