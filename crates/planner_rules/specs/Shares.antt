-- Shares: when they fit, and the checks of a setup.
use Rattle.std.specs.Prelude.{ℕ, ◌+◌, ◌*◌, Bool, not, ◌&&◌, List, [], ◌∷◌, leb, get_or}
use Rattle.lists.specs.Lists.{total, every}
use Rattle.lists.specs.Checks.{Check, check, given}
use Rattle.planner_rules.specs.declared.setup.Setup.{Setup}
use Rattle.planner_rules.specs.Exchange.{longest}

-- a unit's share of a list of them; a unit above 7 has none
abbrev pub share : List ℕ → ℕ → ℕ
share l u = get_or l u 0

-- a unit's share is from 0 to 16
abbrev pub in_range : List ℕ → ℕ → Bool
in_range l u = leb (share l u) 16

-- a unit's guarantee is not above its ceiling
abbrev pub ordered : List ℕ → List ℕ → ℕ → Bool
ordered g c u = leb (share g u) (share c u)

-- shares fit when (sum of guarantees) × (1012 + R) ≤ L
unfoldable pub shares_fit : Setup → Bool
shares_fit s = leb (total (share s.guarantee) 8 * (longest + s.reach)) s.period

-- 2: "correction limit 0 to 12 .. reach R 0 to 13,000; guarantee and ceiling 0 to 16"; a period has 16 bits
abbrev pub setup_ranged : Setup → Bool
setup_ranged s = leb s.reach 13000 && leb s.limit 12 && every (in_range s.guarantee) 8 && every (in_range s.ceiling) 8

-- 3: "a guarantee above its ceiling, or shares that do not fit"
abbrev pub shares_good : Setup → Bool
shares_good s = every (ordered s.guarantee s.ceiling) 8 && shares_fit s

-- the checks of a setup
unfoldable pub setup_checks : Setup → List Check
setup_checks s = check 2 (not (setup_ranged s)) ∷ check 3 (not (shares_good s)) ∷ []

-- the number that a setup is answered
unfoldable pub setup_number : Setup → ℕ
unfolding setup_checks
setup_number s = given (setup_checks s)
