-- What is read of a line on the way to a call of the station.
use Rattle.std.specs.Prelude.{ℕ, Bool, Option, Some, None, List}
use Rattle.lists.specs.Lists.{pick}
use Rattle.planner_rules.specs.declared.request.Request.{Request}
use Rattle.planner_rules.specs.declared.setup.Setup.{Setup}
use Rattle.console_rules.specs.Texts.{number_at}
use Rattle.console_rules.specs.Station.{fits, all_fit, numbers_from}

-- what is read where the numbers fit their fields
abbrev pub where_fit : {A : Type 0} → Bool → A → Option A
where_fit b a = pick b (Some a) None

-- a number of so many bits
abbrev pub narrow : ℕ → ℕ → Option ℕ
narrow bits n = where_fit (fits bits n) n

-- the next part of what is read
abbrev pub and_then : {A B : Type 0} → Option A → (A → Option B) → Option B
and_then None f = None
and_then (Some a) f = f a

-- the eight numbers from the k-th word on, of eight bits each
abbrev pub eight_from : ℕ → List (List ℕ) → Option (List ℕ)
eight_from k ws = where_fit (all_fit 8 (numbers_from k 8 ws)) (numbers_from k 8 ws)

-- near and far of a target
abbrev pub edges_in : List (List ℕ) → Option (ℕ × ℕ)
edges_in ws = and_then (narrow 16 (number_at 2 ws)) (λ near. and_then (narrow 16 (number_at 3 ws)) (λ far. Some (near, far)))

-- a setup
abbrev pub setup_in : List (List ℕ) → Option Setup
setup_in ws =
    and_then (narrow 16 (number_at 1 ws)) (λ period.
    and_then (narrow 16 (number_at 2 ws)) (λ reach.
    and_then (narrow 8 (number_at 3 ws)) (λ limit.
    and_then (eight_from 4 ws) (λ guarantee.
    and_then (eight_from 12 ws) (λ ceiling.
    Some (record { period = period; reach = reach; limit = limit; guarantee = guarantee; ceiling = ceiling }))))))

-- a request with this MA
abbrev pub request_in : ℕ → List (List ℕ) → Option Request
request_in ma ws =
    and_then (narrow 8 (number_at 1 ws)) (λ unit.
    and_then (narrow 8 (number_at 3 ws)) (λ uf.
    and_then (narrow 8 (number_at 4 ws)) (λ pc.
    and_then (narrow 8 (number_at 5 ws)) (λ rr.
    and_then (narrow 8 (number_at 6 ws)) (λ di.
    and_then (narrow 16 (number_at 7 ws)) (λ sd.
    Some (record { unit = unit; address = number_at 2 ws; uf = uf; pc = pc; rr = rr; di = di; sd = sd; ma = ma })))))))
