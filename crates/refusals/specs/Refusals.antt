-- The number of each refusal, as document 01 and the requests give it, and the number that a call is given.
use Rattle.std.specs.Prelude.{ℕ, Result, Ok, Err}
use Rattle.refusals.specs.declared.refusal.Refusal.{Refusal}
use Rattle.refusals.specs.declared.refusal.Refusal.TheVariants as refusal

-- each refusal's number
abbrev pub number_of : Refusal → ℕ
number_of refusal.Length = 1
number_of refusal.Range = 2
number_of refusal.Shares = 3
number_of refusal.NoTarget = 4
number_of refusal.Present = 5
number_of refusal.Full = 6
number_of refusal.NoEntry = 7
number_of refusal.Closed = 8
number_of refusal.OtherLength = 9
number_of refusal.Outside = 10
number_of refusal.Marks = 11
number_of refusal.NoMatch = 12
number_of refusal.Doubt = 13
number_of refusal.Format = 14
number_of refusal.Earlier = 15
number_of refusal.Unknown = 16
number_of refusal.Cut = 17
number_of refusal.Illegal = 18
number_of refusal.NoCode = 19

-- "0 means done"; else the refusal's number
abbrev pub number_given : {A : Type 0} → Result A Refusal → ℕ
number_given (Ok a) = 0
number_given (Err r) = number_of r
