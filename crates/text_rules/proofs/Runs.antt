-- Laws of a run of bytes that a test takes: where it ends, as a loop finds it, and what stands in it.
use Prim.Native.Nat.{ℕ, zero, suc, ◌+◌, ◌≤◌, ◌<◌}
use native.Mathlib.Numerals.{add-one}
use native.Mathlib.Omega.{arith}
use mathlib.Core.Path.{◌≡◌, refl}
use mathlib.Core.List.{List, [], ◌∷◌}
use mathlib.Core.Bool.{Bool, true, false}
use lib.Seq.{drop-cons, get_or-drop}
use lib.ListN.{length, get_or, drop, length-drop}
use Rattle.text_rules.specs.Line.{front, run_end}

module _ (p : ℕ → Bool) where
  pub front_more : (b : ℕ) (t : List ℕ) → p b ≡ true → front p (b ∷ t) ≡ suc (front p t)
  unfolding front
  front_more b t h = rw h

  pub front_stop : (b : ℕ) (t : List ℕ) → p b ≡ false → front p (b ∷ t) ≡ 0
  unfolding front
  front_stop b t h = rw h

  fits_by : (b : ℕ) (t : List ℕ) (v : Bool) → p b ≡ v → front p t ≤ length t → front p (b ∷ t) ≤ length (b ∷ t)
  fits_by b t true e h = rw (front_more b t e) (omega arith)
  fits_by b t false e h = rw (front_stop b t e) (omega arith)

  pub front_fits : (t : List ℕ) → front p t ≤ length t
  unfolding front
  front_fits [] = omega arith
  front_fits (b ∷ t) = fits_by b t (p b) refl (front_fits t)

  inside_by : (b : ℕ) (t : List ℕ) (k : ℕ) (v : Bool) → p b ≡ v → ((j : ℕ) → j < front p t → p (get_or t j 0) ≡ true) → k < front p (b ∷ t)
      → p (get_or (b ∷ t) k 0) ≡ true
  inside_by b t zero true e ih h = e
  inside_by b t (suc k) true e ih h = ih k (omega (arith, front_more b t e))
  inside_by b t k false e ih h = absurd (omega (arith, front_stop b t e))

  front_inside : (t : List ℕ) (k : ℕ) → k < front p t → p (get_or t k 0) ≡ true
  unfolding front
  front_inside [] k h = absurd (omega arith)
  front_inside (b ∷ t) k h = inside_by b t k (p b) refl (front_inside t) h

  end_by : (b : ℕ) (t : List ℕ) (v : Bool) → p b ≡ v → (front p t < length t → p (get_or t (front p t) 0) ≡ false) → front p (b ∷ t) < length (b ∷ t)
      → p (get_or (b ∷ t) (front p (b ∷ t)) 0) ≡ false
  end_by b t true e ih h = rw (front_more b t e) (ih (omega (arith, front_more b t e)))
  end_by b t false e ih h = rw (front_stop b t e) e

  front_end : (t : List ℕ) → front p t < length t → p (get_or t (front p t) 0) ≡ false
  unfolding front
  front_end [] h = absurd (omega arith)
  front_end (b ∷ t) h = end_by b t (p b) refl (front_end t) h

  -- ---- by places: a loop that has come to i

  module _ (s : List ℕ) (i : ℕ) where
    pub run_fits : run_end p s i ≤ length s
    unfolding run_end
    run_fits = omega arith

    pub run_none : length s ≤ i → run_end p s i ≡ length s
    unfolding run_end
    run_none h = omega arith

    pub run_is : i ≤ length s → run_end p s i ≡ i + front p (drop i s)
    unfolding run_end
    run_is h = omega (arith, front_fits (drop i s), length-drop i s)

    pub run_more : i < length s → p (get_or s i 0) ≡ true → run_end p s (i + 1) ≡ run_end p s i
    unfolding run_end
    run_more h e =
        let f : front p (drop i s) ≡ suc (front p (drop (i + 1) s)) = rw (drop-cons s i 0 h, add-one i) (front_more (get_or s i 0) (drop (suc i) s) e) in
        omega (arith, f)

    pub run_stop : i < length s → p (get_or s i 0) ≡ false → run_end p s i ≡ i
    unfolding run_end
    run_stop h e =
        let f : front p (drop i s) ≡ 0 = rw (drop-cons s i 0 h) (front_stop (get_or s i 0) (drop (suc i) s) e) in
        omega (arith, f)

    -- ---- what stands in the run, and at its end

    pub run_inside : (k : ℕ) → i + k < run_end p s i → p (get_or s (i + k) 0) ≡ true
    run_inside k h =
        let short : i ≤ length s = omega (arith, run_fits) in
        rw (← get_or-drop i s k 0) (front_inside (drop i s) k (omega (arith, run_is short)))

    run_short : run_end p s i < length s → i ≤ length s
    unfolding run_end
    run_short h = omega arith

    pub run_at_end : run_end p s i < length s → p (get_or s (run_end p s i) 0) ≡ false
    run_at_end h =
        let e : run_end p s i ≡ i + front p (drop i s) = run_is (run_short h) in
        rw (e, ← get_or-drop i s (front p (drop i s)) 0) (front_end (drop i s) (omega (arith, length-drop i s)))
