-- What model and station share: the code that CL and IC stand for, and the format that a request draws.
use Rattle.std.specs.Prelude.{ℕ, ◌+◌, ◌-◌, ◌*◌, Bool, ◌&&◌, ◌||◌, not, eqb, leb, Option, Some, None}
use Rattle.lists.specs.Lists.{pick}
use Rattle.lists.specs.Answers.{Answer}
use Rattle.frames_rules.specs.declared.answers.Interrogator.{Interrogator}
use Rattle.frames_rules.specs.declared.answers.Interrogator.TheVariants.{II, SI}
use Rattle.frames_rules.specs.Answers.{interrogator_said, draws_said}
use Rattle.frames_rules.specs.Formats.{surveillance}

-- ---- codes
-- "the code 16×CL + IC"
abbrev pub code_number : ℕ → ℕ → ℕ
code_number cl ic = 16 * cl + ic

-- "CL 1 to 4" are those of SI
abbrev pub of_si : ℕ → Bool
of_si cl = leb 1 cl && leb cl 4

-- "SI = 16×(CL−1)+IC"
abbrev pub si_number : ℕ → ℕ → ℕ
si_number cl ic = 16 * (cl - 1) + ic

-- "CL 0 is II = IC; CL 1 to 4 is SI = 16×(CL−1)+IC; SI 0 and CL 5 to 7 get no reply"
unfoldable pub code_for : ℕ → ℕ → Option Interrogator
code_for cl ic =
    pick (leb ic 15)
    (pick (eqb cl 0)
    (Some (II ic))
    (pick (of_si cl && not (eqb (si_number cl ic) 0)) (Some (SI (si_number cl ic))) None))
    None

-- what is answered for them
unfoldable pub code_told : ℕ → ℕ → Answer
code_told cl ic = interrogator_said (code_for cl ic)

-- ---- requests
-- "UF 4/20 draw AC, UF 5/21 draw ID": DF 4 holds AC, DF 5 ID
abbrev pub short_reply : ℕ → ℕ
short_reply uf = pick (eqb uf 4 || eqb uf 20) 4 5

-- "RR 16 and above draws the long form": DF 20 for 4, 21 for 5. Another UF or an RR above 31 draws nothing
unfoldable pub drawn : ℕ → ℕ → Option ℕ
drawn uf rr =
    pick (surveillance uf && leb rr 31)
    (pick (leb 16 rr) (Some (short_reply uf + 16)) (Some (short_reply uf)))
    None

unfoldable pub drawn_told : ℕ → ℕ → Answer
drawn_told uf rr = draws_said (drawn uf rr)
