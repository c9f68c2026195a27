-- What a line of the station says, from what was read of its words: the call's answer, or 2 where a number is too wide for its field.
use Rattle.std.proofs.Common.{◌≡◌, ℕ, Bool, true, false, ◌&&◌, Option, Some, None, List, length, take, refl, sym, ap, ◌∙◌, arith, eq-eqb, ne_eqb, take_all}
use Rattle.frames_rules.specs.Bytes.{number_of_bytes}
use Rattle.station_rules.specs.declared.state.Station.{Station}
use Rattle.station_rules.specs.Calls.{set_up, new_target, moved, requested}
use Rattle.planner_rules.specs.declared.request.Request.{Request}
use Rattle.planner_rules.specs.declared.setup.Setup.{Setup}
use Rattle.console_rules.specs.Texts.{number_at, bytes_at, BytesAt}
use Rattle.console_rules.specs.Station.{Spoken, Spoke, number_spoken, outcome_spoken, fits, all_fit, where_held, numbers_from}
use Rattle.console_rules.specs.Station.{setup_spoken, target_spoken, move_spoken, request_spoken}
use Rattle.console_plain.proofs.Texts.{bytes_are}
use Rattle.console_station.specs.Held.{edges_in, setup_in, request_in, and_then, where_fit}

-- what is said to what was read
unfoldable pub read_spoken : {A : Type 0} → Station → Option A → (A → Spoken) → Spoken
read_spoken s None f = number_spoken 2 s
read_spoken s (Some a) f = f a

module _ {A : Type 0} (s : Station) (f : A → Spoken) {o : Option A} {said : Spoken} {l m : List ℕ} {q : Station} {r : ℕ} where
  pub was_read : said ≡ read_spoken s o f → (a : A) → Some a ≡ o → Spoke (f a) l m q r → Spoke said l m q r
  unfolding read_spoken
  was_read e a h p = rw (e, ← h) p

  pub not_read : said ≡ read_spoken s o f → None ≡ o → Spoke (number_spoken 2 s) l m q r → Spoke said l m q r
  unfolding read_spoken
  not_read e h p = rw (e, ← h) p

-- ---- the targets
module _ (s : Station) (near far : ℕ) (f : ℕ → ℕ → Spoken) where
  edges_by : (a b : Bool)
      → where_held (a && b) s (f near far)
      ≡ read_spoken {A = ℕ × ℕ} s (and_then (where_fit a near) (λ near. and_then (where_fit b far) (λ far. Some (near, far)))) (λ e. f e.0 e.1)
  unfolding where_held read_spoken
  edges_by true true = refl
  edges_by true false = refl
  edges_by false b = refl

module _ (s : Station) (ws : List (List ℕ)) where
  pub target_read : target_spoken s ws ≡ read_spoken {A = ℕ × ℕ} s (edges_in ws) (λ e. outcome_spoken (new_target s (number_at 1 ws) e.0 e.1))
  unfolding target_spoken
  target_read =
      edges_by s (number_at 2 ws) (number_at 3 ws) (λ near far. outcome_spoken (new_target s (number_at 1 ws) near far))
      (fits 16 (number_at 2 ws)) (fits 16 (number_at 3 ws))

  pub move_read : move_spoken s ws ≡ read_spoken {A = ℕ × ℕ} s (edges_in ws) (λ e. outcome_spoken (moved s (number_at 1 ws) e.0 e.1))
  unfolding move_spoken
  move_read =
      edges_by s (number_at 2 ws) (number_at 3 ws) (λ near far. outcome_spoken (moved s (number_at 1 ws) near far))
      (fits 16 (number_at 2 ws)) (fits 16 (number_at 3 ws))

-- ---- the setup
module _ (s : Station) (p r l : ℕ) (g k : List ℕ) (f : Setup → Spoken) where
  setup_by : (a b c d e : Bool)
      → where_held (a && b && c) s
      (where_held d s (where_held e s (f (record { period = p; reach = r; limit = l; guarantee = g; ceiling = k }))))
      ≡ read_spoken s
      (and_then (where_fit a p) (λ p. and_then (where_fit b r) (λ r. and_then (where_fit c l) (λ l. and_then (where_fit d g) (λ g.
      and_then (where_fit e k) (λ k. Some (record { period = p; reach = r; limit = l; guarantee = g; ceiling = k })))))))
      f
  unfolding where_held read_spoken
  setup_by true true true true true = refl
  setup_by true true true true false = refl
  setup_by true true true false e = refl
  setup_by true true false d e = refl
  setup_by true false c d e = refl
  setup_by false b c d e = refl

pub setup_read : (s : Station) (ws : List (List ℕ)) → setup_spoken s ws ≡ read_spoken s (setup_in ws) (λ h. outcome_spoken (set_up s h))
unfolding setup_spoken
setup_read s ws =
    setup_by s (number_at 1 ws) (number_at 2 ws) (number_at 3 ws) (numbers_from 4 8 ws) (numbers_from 12 8 ws) (λ h. outcome_spoken (set_up s h))
    (fits 16 (number_at 1 ws)) (fits 16 (number_at 2 ws)) (fits 8 (number_at 3 ws)) (all_fit 8 (numbers_from 4 8 ws)) (all_fit 8 (numbers_from 12 8 ws))

-- ---- a request
module _ (s : Station) (unit address uf pc rr di sd ma : ℕ) (f : Request → Spoken) where
  request_by : (a b c d e g : Bool)
      → where_held (a && (b && (c && (d && (e && true)))) && g) s
      (f (record { unit = unit; address = address; uf = uf; pc = pc; rr = rr; di = di; sd = sd; ma = ma }))
      ≡ read_spoken s
      (and_then (where_fit a unit) (λ unit. and_then (where_fit b uf) (λ uf. and_then (where_fit c pc) (λ pc. and_then (where_fit d rr) (λ rr.
      and_then (where_fit e di) (λ di. and_then (where_fit g sd) (λ sd.
      Some (record { unit = unit; address = address; uf = uf; pc = pc; rr = rr; di = di; sd = sd; ma = ma }))))))))
      f
  unfolding where_held read_spoken
  request_by true true true true true true = refl
  request_by true true true true true false = refl
  request_by true true true true false g = refl
  request_by true true true false e g = refl
  request_by true true false d e g = refl
  request_by true false c d e g = refl
  request_by false b c d e g = refl

module _ (s : Station) (ws : List (List ℕ)) {n : ℕ} {before after : List ℕ} (e : BytesAt 8 ws before after n) where
  pub request_short : {l m : List ℕ} {q : Station} {r : ℕ} → (n ≡ 7 → ⊥) → Spoke (number_spoken 1 s) l m q r → Spoke (request_spoken s ws) l m q r
  unfolding request_spoken
  request_short h p = rw (ne_eqb (length (bytes_at 8 ws)) 7 (λ z. h (e.answer ∙ z))) p

  pub request_read : {ma : ℕ} → ma ≡ number_of_bytes (take 7 (take n after)) → length before ≡ 32 → n ≡ 7
      → request_spoken s ws ≡ read_spoken s (request_in ma ws) (λ q. outcome_spoken (requested s q))
  unfolding request_spoken all_fit numbers_from
  request_read {ma} d z h =
      let k : length (bytes_at 8 ws) ≡ 7 = sym e.answer ∙ h in
      let w : take 7 (take n after) ≡ bytes_at 8 ws = ap (take 7) (bytes_are e z) ∙ take_all 7 (bytes_at 8 ws) (omega arith) in
      let v : ma ≡ number_of_bytes (bytes_at 8 ws) = d ∙ ap number_of_bytes w in
      rw (eq-eqb (length (bytes_at 8 ws)) 7 k, v)
      (request_by s (number_at 1 ws) (number_at 2 ws) (number_at 3 ws) (number_at 4 ws) (number_at 5 ws) (number_at 6 ws) (number_at 7 ws)
      (number_of_bytes (bytes_at 8 ws)) (λ q. outcome_spoken (requested s q))
      (fits 8 (number_at 1 ws)) (fits 8 (number_at 3 ws)) (fits 8 (number_at 4 ws)) (fits 8 (number_at 5 ws)) (fits 8 (number_at 6 ws))
      (fits 16 (number_at 7 ws)))
