-- The place of an address that is in the target list, and room in the waiting list.
use Rattle.std.specs.Prelude.{Option, Some, None, position, is_some}
use Rattle.std.proofs.Common.{◌≡◌, ℕ, ◌<◌, ◌≤◌, Bool, true, false, ◌||◌, List, length}
use Rattle.std.proofs.Common.{take, leb, true≢false, sym, refl, ap, ◌∙◌, arith, length-take, ltb-true, leb-false}
use native.Mathlib.Nat.{min-le_right}
use Rattle.lists.specs.Lists.{pick, count_of}
use Rattle.lists.proofs.Library.{position_is}
use Rattle.station_rules.specs.declared.state.Targets.{Targets}
use Rattle.station_rules.specs.declared.state.Waiting.{Waiting}
use Rattle.station_rules.specs.State.{targets_of, is_at, place_in, in_list, requests_of, is_of}
use Rattle.station_rules.specs.Calls.{unit_full}

-- no more are held than there are slots
pub no_more : {A : Type 0} (m : ℕ) (l : List A) → length (take m l) ≤ length l
no_more m l = omega (arith, length-take m l, min-le_right m (length l))

-- ---- a place found is that of the address, which is in the list
abbrev value : Option ℕ → ℕ
value None = 0
value (Some k) = k

some_or_none : (b : Bool) (k : ℕ) → is_some (pick b (Some k) None) ≡ b
some_or_none true k = refl
some_or_none false k = refl

picked : (b : Bool) (k i : ℕ) → pick b (Some k) None ≡ Some i → (i ≡ k) × (b ≡ true)
picked true k i e = (sym (ap value e), refl)
picked false k i e = absurd (true≢false (sym (ap (λ (o : Option ℕ). is_some o) e)))

module _ (a : ℕ) (t : Targets) where
  pub is_held : is_some (position (is_at a) (targets_of t)) ≡ in_list a t
  is_held = ap (λ (o : Option ℕ). is_some o) (position_is (is_at a) (targets_of t)) ∙ some_or_none (in_list a t) (place_in (targets_of t) a)

  module _ (r : Option ℕ) (e : r ≡ position (is_at a) (targets_of t)) where
    pub at_place : (i : ℕ) → r ≡ Some i → (i ≡ place_in (targets_of t) a) × (in_list a t ≡ true)
    at_place i q = picked (in_list a t) (place_in (targets_of t) a) i (sym (e ∙ position_is (is_at a) (targets_of t)) ∙ q)

    pub nowhere : r ≡ None → in_list a t ≡ false
    nowhere q = sym is_held ∙ ap (λ (o : Option ℕ). is_some o) (sym e ∙ q)

-- the place is one of the list
pub place_held : (a : ℕ) (t : Targets) → in_list a t ≡ true → place_in (targets_of t) a < length (targets_of t)
place_held a t h = ltb-true (place_in (targets_of t) a) (length (targets_of t)) h

or_right : (a b : Bool) → a || b ≡ false → b ≡ false
or_right true b e = absurd (true≢false e)
or_right false b e = e

-- where a unit has room, a slot is left
pub slot_left : (u : ℕ) (w : Waiting) → unit_full u w ≡ false → length (requests_of w) < 128
unfolding unit_full
slot_left u w e = leb-false 128 (length (requests_of w)) (or_right (leb 16 (count_of (is_of u) (requests_of w))) (leb 128 (length (requests_of w))) e)
