-- Eight shares at once: what a chain over a list says of each unit.
use Prim.Native.Nat.{ℕ, zero, suc, ◌*◌, ◌≤◌, ◌<◌}
use native.Mathlib.Omega.{arith}
use native.Mathlib.Numerals.{add-one}
use mathlib.Core.Path.{◌≡◌, refl, sym, ap, ◌∙◌}
use mathlib.Core.Bool.{Bool, true, false}
use mathlib.Core.List.{List}
use lib.ListN.{length, take}
use lib.Seq.{take-length}
use Rattle.std.specs.Prelude.{◌↔◌, IsTrue, EachIndex, slice_index, sum}
use Rattle.std.proofs.lemmas.List.Elements.{All-from_get_or}
use Rattle.std.proofs.lemmas.List.Sums.{sum_by_more, sum_by-le}
use Rattle.lists.specs.Lists.{every, total}
use Rattle.lists.proofs.Every.{every_none, every_more, every_at}
use Rattle.lists.proofs.Total.{total_none, total_more}
use Rattle.planner_rules.specs.Shares.{share}

-- two answers that are yes for the same reasons are one
one_answer : (a b : Bool) → (a ≡ true → b ≡ true) → (b ≡ true → a ≡ true) → a ≡ b
one_answer true b f g = sym (f refl)
one_answer false true f g = g refl
one_answer false false f g = refl

every_of : (p : ℕ → Bool) (n : ℕ) → ((i : ℕ) → i < n → p i ≡ true) → every p n ≡ true
every_of p zero h = every_none p
every_of p (suc n) h = rw (sym (add-one n)) (every_more p n (every_of p n (λ i l. h i (omega arith))) (h n (omega arith)))

-- an answer that is yes where P holds at each index of a list of eight is the test of the eight numbers
pub every_one : (p : ℕ → Bool) (P : ℕ → Type 0) → ((k : ℕ) → p k ≡ true → P k) → ((k : ℕ) → P k → p k ≡ true)
    → (s : List ℕ) (r : Bool) → length s ≡ 8 → (IsTrue r ↔ EachIndex s P) → r ≡ every p 8
every_one p P f g s r n h =
    one_answer r (every p 8)
    (λ e. every_of p 8 (λ k l. g k (h.0 e k (omega (arith, n)))))
    (λ e. h.1 (λ k l. f k (every_at p 8 k e (omega (arith, n)))))

total_take : (s : List ℕ) (n : ℕ) → n ≤ length s → total (share s) n ≡ sum (take n s)
total_take s zero h = sym (total_none (share s))
total_take s (suc n) h =
    let e = total_more (share s) n (sum (take n s)) (sym (total_take s n (omega arith))) in
    rw (sym (add-one n)) (sym e ∙ sym (sum_by_more (λ x. x) s n 0 (omega arith)))

pub total_sum : (s : List ℕ) → length s ≡ 8 → total (share s) 8 ≡ sum s
total_sum s n = total_take s 8 (omega arith) ∙ ap sum (ap (λ k. take k s) (sym n) ∙ take-length s)

pub sum_small : (s : List ℕ) → EachIndex s (λ k. slice_index s k ≤ 255) → sum s ≤ length s * 255
sum_small s h = sum_by-le (λ x. x) 255 s (All-from_get_or (λ x. x ≤ 255) s 0 h)
