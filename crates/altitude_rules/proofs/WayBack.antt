-- The way back: reading what it writes gives the same feet, and it has a code exactly where one is read as those feet.
use Prim.Native.Nat.{ℕ, suc, ◌+◌, ◌-◌, ◌*◌, ◌/◌, ◌%◌, ◌<◌, ◌≤◌}
use native.Mathlib.Omega.{arith}
use mathlib.Core.Path.{◌≡◌, refl, sym, ap, ◌∙◌}
use mathlib.Core.Bool.{Bool, true, false, ◌&&◌, ◌||◌, or-true, false≢true}
use mathlib.Core.List.{[], ◌∷◌}
use lib.Dec.{eqb, leb, ltb}
use Rattle.std.specs.Prelude.{Result, Ok, Err}
use Rattle.refusals.specs.declared.refusal.Refusal.{Refusal}
use Rattle.refusals.specs.declared.refusal.Refusal.TheVariants as refusal
use Rattle.altitude_rules.specs.declared.code.Altitude.{Altitude}
use lib.IntN.{ℤ, pos, negsuc, sub_ℕ}
use lib.ListN.{get_or}
use borrow.Author.Tests.{eqb-true, leb-true, eq-eqb, le-leb, lt-ltb, le-ltb, ltb-true, ltb-false}
use Rattle.lists.specs.Lists.{pick, every}
use Rattle.lists.specs.Checks.{checked}
use Rattle.lists.specs.Answers.{Answer, done, refusal}
use Rattle.lists.proofs.Tests.{and_true, or_no, or_rest}
use Rattle.lists.proofs.Every.{every_at, equal_below, less_below}
use Rattle.lists.proofs.Signed.{same_difference}
use Rattle.altitude_rules.specs.Code.{Form, form_of, group, eleven, feet_by_25, feet_by_100}
use Rattle.altitude_rules.specs.Code.Form.{all_zero, metric, by25, by100, illegal}
use Rattle.altitude_rules.specs.WayBack.{raised, reaches, reaches25, reaches100, code_by_25, code_by_100, code_at, way_back}
use Rattle.altitude_rules.specs.Claims.{nth, Writes, Reads, Back100, ThereAndBack}
use Rattle.altitude_rules.specs.declared.code.Altitude.TheVariants.{Feet, None, Metric}
use Rattle.altitude_rules.proofs.Forms.{form_by_is, read_by}
use Rattle.altitude_rules.proofs.Reckoned.{eleven_lt}
use Rattle.altitude_rules.proofs.Hundreds.{above, code_lt, hundred_form, code_above, its_code, in_reach, feet_is}

-- ---- feet counted from −1300 ft, and back

pub raised_of : (up : ℕ) → raised (sub_ℕ up 1300) ≡ up
unfolding raised
raised_of up = go (ltb up 1300) refl
  where
    go : (t : Bool) → ltb up 1300 ≡ t → raised (sub_ℕ up 1300) ≡ up
    go true e = let h = ltb-true up 1300 e in rw e (omega arith)
    go false e = let h = ltb-false up 1300 e in rw e (omega arith)

raised_from : (feet : ℤ) → 0 < raised feet → feet ≡ sub_ℕ (raised feet) 1300
unfolding raised
raised_from (pos n) h =
    let e : n ≡ n + 1300 - 1300 = omega arith in
    rw (le-ltb (n + 1300) 1300 (omega arith)) (ap pos e)
raised_from (negsuc n) h =
    let e : n ≡ 1300 - suc (1300 - (n + 1)) = omega arith in
    rw (lt-ltb (1300 - (n + 1)) 1300 (omega arith)) (ap negsuc e)

-- by the size of feet below zero, and of others
module _ (feet : ℤ) (n : ℕ) where
  pub raised_none : feet ≡ negsuc n → 1300 ≤ n → 0 ≡ raised feet
  unfolding raised
  raised_none e h = rw e (omega arith)

  pub raised_below : feet ≡ negsuc n → 1299 - n ≡ raised feet
  unfolding raised
  raised_below e = rw e (omega arith)

  pub raised_above : feet ≡ pos n → n + 1300 ≡ raised feet
  unfolding raised
  raised_above e = rw e

-- ---- what the reach of a form says

module _ (step low high up : ℕ) where
  pub reached : reaches step low high up ≡ true → (up % step ≡ 0) × ((low ≤ up) × (up ≤ high))
  unfolding reaches
  reached e =
      let a = and_true (eqb (up % step) 0) (leb low up && leb up high) e in
      let b = and_true (leb low up) (leb up high) a.1 in
      (eqb-true (up % step) 0 a.0, (leb-true low up b.0, leb-true up high b.1))

  pub reaching : up % step ≡ 0 → low ≤ up → up ≤ high → reaches step low high up ≡ true
  unfolding reaches
  reaching z l h = rw (eq-eqb (up % step) 0 z, le-leb low up l, le-leb up high h)

-- ---- the 25 ft form, computed over all of its codes

code_25_lt : (n : ℕ) → n < 2048 → code_by_25 n < 8192
unfolding every code_by_25
code_25_lt n h = less_below code_by_25 8192 2048 refl n h

code_25_form : (n : ℕ) → n < 2048 → form_of (code_by_25 n) ≡ by25
unfolding every code_by_25 form_of group
code_25_form n h = form_by_is (form_of (code_by_25 n)) 2 (equal_below (λ x. nth (form_of (code_by_25 x))) (λ x. 2) 2048 refl n h)

code_25_eleven : (n : ℕ) → n < 2048 → eleven (code_by_25 n) ≡ n
unfolding every code_by_25 eleven
code_25_eleven n h = equal_below (λ x. eleven (code_by_25 x)) (λ x. x) 2048 refl n h

abbrev back_25 : ℕ → Bool
back_25 ac = pick (eqb (nth (form_of ac)) 2) (eqb (code_by_25 (eleven ac)) ac) true

all_back_25 : (ac : ℕ) → ac < 8192 → back_25 ac ≡ true
unfolding every code_by_25 form_of group eleven
all_back_25 ac h = every_at back_25 8192 ac refl h

its_code_25 : (ac : ℕ) → ac < 8192 → form_of ac ≡ by25 → code_by_25 (eleven ac) ≡ ac
its_code_25 ac h f = eqb-true (code_by_25 (eleven ac)) ac (rw f at (all_back_25 ac h))

-- ---- what is written, and what it reads as

-- feet as they are read
abbrev feet_said : ℤ → Result Altitude Refusal
feet_said z = Ok (Feet z)

-- some form reaches
abbrev codes : ℕ → Bool
codes up = reaches25 up || reaches100 up

wrote : (feet : ℤ) → codes (raised feet) ≡ true → Writes feet (code_at (raised feet))
unfolding way_back checked
wrote feet h = rw h

refused : (feet : ℤ) → codes (raised feet) ≡ false → way_back feet ≡ refusal 19
unfolding way_back checked
refused feet h = rw h

codes_25 : (up : ℕ) → reaches25 up ≡ true → codes up ≡ true
codes_25 up h = rw h

-- a code of 13 bits that reads as the feet that stand so far above −1300 ft
pub record Fits (up ac : ℕ) : Type 0 where
  pub short : ac < 8192
  pub said : Reads ac (sub_ℕ up 1300)

module _ (up : ℕ) (h : reaches25 up ≡ true) where
  steps : (25 * ((up - 300) / 25) + 300 ≡ up) × ((up - 300) / 25 < 2048)
  steps =
      let r = reached _ _ _ up h in
      let z = r.0 in
      let l = r.1.0 in
      let m = r.1.1 in
      (omega arith, omega arith)

  at_25 : code_at up ≡ code_by_25 ((up - 300) / 25)
  unfolding code_at
  at_25 = rw h

  form_25 : form_of (code_at up) ≡ by25
  form_25 = rw at_25 (code_25_form ((up - 300) / 25) steps.1)

  fits_25 : Fits up (code_at up)
  unfolding feet_by_25
  fits_25 =
      let n = (up - 300) / 25 in
      let l = code_25_lt n steps.1 in
      rw at_25
      (record {
        short = l;
        said =
            read_by (code_by_25 n) by25 l (code_25_form n steps.1)
            ∙ ap feet_said (same_difference (25 * eleven (code_by_25 n)) up 1000 1300 (omega (arith, code_25_eleven n steps.1, steps.0)));
      })

module _ (up : ℕ) (beyond : reaches25 up ≡ false) where
  at_100 : code_at up ≡ code_by_100 ((up - 100) / 100)
  unfolding code_at
  at_100 = rw beyond

  fits_100 : reaches100 up ≡ true → Fits up (code_at up)
  fits_100 h =
      let r = reached _ _ _ up h in
      let z = r.0 in
      let l = r.1.0 in
      let m = r.1.1 in
      let k = (up - 100) / 100 in
      let i : k < 1280 = omega arith in
      let e : 100 * (k + 1) ≡ up = omega arith in
      rw at_100
      (record {
        short = code_lt k i;
        said =
            read_by (code_by_100 k) by100 (code_lt k i) (hundred_form k i)
            ∙ ap feet_said
            (feet_is (code_by_100 k)
            ∙ ap (λ (n : ℕ). sub_ℕ (100 * n) 1300) (code_above k i)
            ∙ ap (λ (n : ℕ). sub_ℕ n 1300) e);
      })

pub fits : (up : ℕ) → codes up ≡ true → Fits up (code_at up)
fits up h = go (reaches25 up) refl (reaches100 up) refl
  where
    go : (s : Bool) → reaches25 up ≡ s → (t : Bool) → reaches100 up ≡ t → Fits up (code_at up)
    go true e t f = fits_25 up e
    go false e true f = fits_100 up e f
    go false e false f = absurd (false≢true (rw (e, f) at h))

-- only feet above −1300 ft have a code
up_positive : (up : ℕ) → codes up ≡ true → 0 < up
up_positive up h = go (reaches25 up) refl (reaches100 up) refl
  where
    go : (s : Bool) → reaches25 up ≡ s → (t : Bool) → reaches100 up ≡ t → 0 < up
    go true e t f = omega (arith, (reached _ _ _ up e).1.0)
    go false e true f = omega (arith, (reached _ _ _ up f).1.0)
    go false e false f = absurd (false≢true (rw (e, f) at h))

reads_at : (feet : ℤ) → codes (raised feet) ≡ true → Reads (code_at (raised feet)) feet
reads_at feet h = (fits (raised feet) h).said ∙ ap feet_said (sym (raised_from feet (up_positive (raised feet) h)))

-- ---- each return of the call, by the form that reaches

module _ (feet : ℤ) (up : ℕ) (is : up ≡ raised feet) where
  written_at : codes up ≡ true → done (code_at up ∷ []) ≡ way_back feet
  written_at h = sym (rw (sym is) at (wrote feet (rw is at h)))

  pub written_by_25 : {x : ℕ} → reaches25 up ≡ true → x ≡ code_by_25 ((up - 300) / 25) → done (x ∷ []) ≡ way_back feet
  written_by_25 h e = rw (e ∙ sym (at_25 up h)) (written_at (codes_25 up h))

  module _ (beyond : reaches25 up ≡ false) where
    pub written_by_100 : {x : ℕ} → reaches100 up ≡ true → x ≡ code_by_100 ((up - 100) / 100) → done (x ∷ []) ≡ way_back feet
    written_by_100 h e = rw (e ∙ sym (at_100 up beyond)) (written_at (sym (or_rest (reaches25 up) (reaches100 up) beyond (sym h))))

    pub not_written : reaches100 up ≡ false → refusal 19 ≡ way_back feet
    not_written h = sym (refused feet (rw is at (or_no (reaches25 up) (reaches100 up) beyond h)))

-- what is written is the code at that height
code_written : (feet : ℤ) (ac : ℕ) → codes (raised feet) ≡ true → Writes feet ac → code_at (raised feet) ≡ ac
code_written feet ac h w = ap (λ (a : Answer). get_or a.values 0 0) (sym (wrote feet h) ∙ w)

-- two altitudes said in feet are the same feet
said_feet : (b a : ℤ) → feet_said a ≡ feet_said b → a ≡ b
said_feet b a e = cc

written_not : (feet : ℤ) (ac : ℕ) → (way_back feet).number ≡ 19 → Writes feet ac → ⊥
written_not feet ac n w = let z : ◌≡◌ {A = ℕ} 0 19 = ap (λ (a : Answer). a.number) (sym w) ∙ n in omega arith

-- ---- the claims

reads_back : (feet : ℤ) (ac : ℕ) → Writes feet ac → Reads ac feet
reads_back feet ac w = go (codes (raised feet)) refl
  where
    go : (t : Bool) → codes (raised feet) ≡ t → Reads ac feet
    go true e = rw (code_written feet ac e w) at (reads_at feet e)
    go false e = let z : ◌≡◌ {A = ℕ} 19 0 = ap (λ (a : Answer). a.number) (sym (refused feet e) ∙ w) in absurd (omega arith)

no_code : (feet : ℤ) → ((ac : ℕ) → ac < 8192 → Reads ac feet → ⊥) → (way_back feet).number ≡ 19
no_code feet none = go (codes (raised feet)) refl
  where
    go : (t : Bool) → codes (raised feet) ≡ t → (way_back feet).number ≡ 19
    go true e = absurd (none (code_at (raised feet)) (fits (raised feet) e).short (reads_at feet e))
    go false e = ap (λ (a : Answer). a.number) (refused feet e)

-- a code of the 25 ft form, and how far above −1300 ft it reads
module _ (ac : ℕ) (h : ac < 8192) (f : form_of ac ≡ by25) where
  feet_25 : feet_by_25 ac ≡ sub_ℕ (25 * eleven ac + 300) 1300
  unfolding feet_by_25
  feet_25 = same_difference (25 * eleven ac) (25 * eleven ac + 300) 1000 1300 (omega arith)

  up_25 : raised (feet_by_25 ac) ≡ 25 * eleven ac + 300
  up_25 = ap raised feet_25 ∙ raised_of (25 * eleven ac + 300)

  reach_25 : reaches25 (raised (feet_by_25 ac)) ≡ true
  reach_25 =
      let l = eleven_lt ac in
      rw up_25 (reaching _ _ _ (25 * eleven ac + 300) (omega arith) (omega arith) (omega arith))

  by_25 : Writes (feet_by_25 ac) ac
  by_25 =
      let e : (25 * eleven ac + 300 - 300) / 25 ≡ eleven ac = omega arith in
      wrote (feet_by_25 ac) (codes_25 (raised (feet_by_25 ac)) reach_25)
      ∙ ap (λ (c : ℕ). done (c ∷ []))
      (at_25 (raised (feet_by_25 ac)) reach_25 ∙ ap (λ (u : ℕ). code_by_25 ((u - 300) / 25)) up_25 ∙ ap code_by_25 e ∙ its_code_25 ac h f)

-- a code of the 100 ft form
module _ (ac : ℕ) (h : ac < 8192) (f : form_of ac ≡ by100) where
  up_100 : raised (feet_by_100 ac) ≡ 100 * above ac
  up_100 = ap raised (feet_is ac) ∙ raised_of (100 * above ac)

  reach_100 : reaches100 (raised (feet_by_100 ac)) ≡ true
  reach_100 =
      let r = in_reach ac h f in
      let l = r.0 in
      let m = r.1 in
      rw up_100 (reaching _ _ _ (100 * above ac) (omega arith) (omega arith) (omega arith))

  has_code : codes (raised (feet_by_100 ac)) ≡ true
  has_code = rw reach_100 (or-true (reaches25 (raised (feet_by_100 ac))))

  very_code : reaches25 (raised (feet_by_100 ac)) ≡ false → code_at (raised (feet_by_100 ac)) ≡ ac
  very_code beyond =
      let e : (100 * above ac - 100) / 100 ≡ above ac - 1 = omega arith in
      at_100 (raised (feet_by_100 ac)) beyond ∙ ap (λ (u : ℕ). code_by_100 ((u - 100) / 100)) up_100 ∙ ap code_by_100 e ∙ its_code ac h f

  only_there : code_at (raised (feet_by_100 ac)) ≡ ac → reaches25 (raised (feet_by_100 ac)) ≡ false
  only_there e = go (reaches25 (raised (feet_by_100 ac))) refl
    where
      go : (t : Bool) → reaches25 (raised (feet_by_100 ac)) ≡ t → t ≡ false
      go true r = let z : ◌≡◌ {A = ℕ} 2 3 = ap nth (sym (form_25 (raised (feet_by_100 ac)) r) ∙ ap form_of e ∙ f) in absurd (omega arith)
      go false r = refl

  by_100 : Back100 ac
  by_100 =
      record {
        code = code_at (raised (feet_by_100 ac));
        written = wrote (feet_by_100 ac) has_code;
        same_feet = reads_at (feet_by_100 ac) has_code;
        very_code = very_code;
        only_there = only_there;
      }

-- whichever code reads as the feet, the way back has one
none_reads : (feet : ℤ) → (way_back feet).number ≡ 19 → (ac : ℕ) → ac < 8192 → Reads ac feet → ⊥
none_reads feet n ac h r = go (form_of ac) refl
  where
    go : (f : Form) → form_of ac ≡ f → ⊥
    go all_zero e = let z : Ok None ≡ feet_said feet = sym (read_by ac all_zero h e) ∙ r in let y : ◌≡◌ {A = ℕ} 0 1 = cc in omega arith
    go metric e = let z : Ok Metric ≡ feet_said feet = sym (read_by ac metric h e) ∙ r in let y : ◌≡◌ {A = ℕ} 0 1 = cc in omega arith
    go illegal e = let z : Err refusal.Illegal ≡ feet_said feet = sym (read_by ac illegal h e) ∙ r in let y : ◌≡◌ {A = ℕ} 0 1 = cc in omega arith
    go by25 e = written_not feet ac n (rw (said_feet feet (feet_by_25 ac) (sym (read_by ac by25 h e) ∙ r)) at (by_25 ac h e))
    go by100 e =
        let b = by_100 ac h e in
        written_not feet b.code n (rw (said_feet feet (feet_by_100 ac) (sym (read_by ac by100 h e) ∙ r)) at b.written)

pub there_and_back : ThereAndBack
there_and_back =
    record {
      reads_back = reads_back;
      none_reads = none_reads;
      no_code = no_code;
      by_25 = by_25;
      by_100 = by_100;
      not_shared = λ a b ac v w. said_feet b a (sym (reads_back a ac v) ∙ reads_back b ac w);
    }
