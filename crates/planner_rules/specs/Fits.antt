-- When an exchange fits beside those placed, and its place.
use Rattle.std.specs.Prelude.{ℕ, zero, suc, Bool, true, ◌&&◌, List, [], ◌∷◌, leb, Option, Some, None}
use Rattle.lists.specs.Lists.{pick}
use Rattle.planner_rules.specs.declared.request.Ask.{Ask}
use Rattle.planner_rules.specs.declared.entry.Entry.{Entry}
use Rattle.planner_rules.specs.Exchange.{entry_at, spans, clear}

-- clear of all placed
unfoldable pub clear_of : Entry → List Entry → Bool
clear_of d [] = true
clear_of d (e ∷ es) = clear d e && clear_of d es

-- an exchange fits when it ends by L and is clear of all placed
unfoldable pub fits : ℕ → List Entry → Entry → Bool
fits L es d = leb (spans d).hi L && clear_of d es

-- the first of the n numbers from t on that passes
unfoldable pub first : (ℕ → Bool) → ℕ → ℕ → Option ℕ
first f zero t = None
first f (suc n) t =
    let later = first f n (suc t) in
    pick (f t) (Some t) later

-- its place is the smallest such start
unfoldable pub place : ℕ → List Entry → Ask → Option ℕ
place L es a = first (λ t. fits L es (entry_at a t)) (suc L) 0
