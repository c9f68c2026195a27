-- Bits 1 to 32: values laid at their fields are read there again, and the values read, laid again, make the same bits.
use mathlib.Core.Path.{◌≡◌}
use mathlib.Core.List.{[], ◌∷◌}
use Prim.Native.Nat.{ℕ, ◌+◌, ◌*◌, ◌/◌, ◌%◌, ◌<◌}
use native.Mathlib.Omega.{arith}
use Rattle.lists.specs.Answers.{done}
use Rattle.frames_rules.specs.Fields.{value_at, at_uf, at_pc, at_rr, at_di, at_sd, at_pr, at_ic, at_cl, at_fs, at_dr, at_um, at_ac_or_id, at_ca, at_address}
use Rattle.frames_rules.specs.Fields.{selective_head, all_call_head, reply_head, all_call_reply_head}
use Rattle.frames_rules.specs.Reading.{selective_read, all_call_read, surveillance_read, all_call_reply_read}

-- ---- a head from its fields: `p` to `s` stand for its quotients, `a` to `e` for the values
join_five : (h p q r s a b c d e : ℕ) → a ≡ p → p * 8 + b ≡ q → q * 32 + c ≡ r → r * 8 + d ≡ s → s * 65536 + e ≡ h
    → a * 134217728 + b * 16777216 + c * 524288 + d * 65536 + e * 1 ≡ h
join_five h p q r s a b c d e e0 e1 e2 e3 e4 = omega arith

join_four : (h p q r s b c d e : ℕ) → p ≡ 11 → p * 16 + b ≡ q → q * 16 + c ≡ r → r * 8 + d ≡ s → s * 65536 + e ≡ h
    → 11 * 134217728 + b * 8388608 + c * 524288 + d * 65536 + e ≡ h
join_four h p q r s b c d e e0 e1 e2 e3 e4 = omega arith

join_value : (h p q r s a b c d e : ℕ) → a ≡ p → p * 8 + b ≡ q → q * 32 + c ≡ r → r * 64 + d ≡ s → s * 8192 + e ≡ h
    → a * 134217728 + b * 16777216 + c * 524288 + d * 8192 + e * 1 ≡ h
join_value h p q r s a b c d e e0 e1 e2 e3 e4 = omega arith

-- ---- UF 4, 5, 20, 21
module _ (uf pc rr di sd : ℕ) (hu : uf < 32) (hp : pc < 8) (hr : rr < 32) (hd : di < 8) (hs : sd < 65536) where
  pub selective_lt : selective_head uf pc rr di sd < 4294967296
  unfolding selective_head
  selective_lt = omega arith

  pub selective_format : value_at at_uf (selective_head uf pc rr di sd) ≡ uf
  unfolding selective_head
  selective_format = omega arith

  pub selective_fields : (ma r : ℕ) → selective_read (selective_head uf pc rr di sd) ma r ≡ done (uf ∷ pc ∷ rr ∷ di ∷ sd ∷ ma ∷ r ∷ [])
  unfolding selective_head selective_read
  selective_fields ma r =
      let a : value_at at_uf (selective_head uf pc rr di sd) ≡ uf = omega arith in
      let b : value_at at_pc (selective_head uf pc rr di sd) ≡ pc = omega arith in
      let c : value_at at_rr (selective_head uf pc rr di sd) ≡ rr = omega arith in
      let d : value_at at_di (selective_head uf pc rr di sd) ≡ di = omega arith in
      let e : value_at at_sd (selective_head uf pc rr di sd) ≡ sd = omega arith in
      cc

pub selective_again : (h : ℕ) → h < 4294967296
    → selective_head (value_at at_uf h) (value_at at_pc h) (value_at at_rr h) (value_at at_di h) (value_at at_sd h) ≡ h
unfolding selective_head
selective_again h l =
    join_five h (h / 134217728) (h / 16777216) (h / 524288) (h / 65536) (h / 134217728 % 32) (h / 16777216 % 8) (h / 524288 % 32) (h / 65536 % 8)
    (h / 1 % 65536)
    (omega arith) (omega arith) (omega arith) (omega arith) (omega arith)

-- ---- UF 11
module _ (pr ic cl : ℕ) (hp : pr < 16) (hi : ic < 16) (hc : cl < 8) where
  pub all_call_lt : all_call_head pr ic cl < 4294967296
  unfolding all_call_head
  all_call_lt = omega arith

  pub all_call_format : value_at at_uf (all_call_head pr ic cl) ≡ 11
  unfolding all_call_head
  all_call_format = omega arith

  pub all_call_fields : (r : ℕ) → all_call_read (all_call_head pr ic cl) r ≡ done (11 ∷ pr ∷ ic ∷ cl ∷ r ∷ [])
  unfolding all_call_head all_call_read
  all_call_fields r =
      let a : value_at at_pr (all_call_head pr ic cl) ≡ pr = omega arith in
      let b : value_at at_ic (all_call_head pr ic cl) ≡ ic = omega arith in
      let c : value_at at_cl (all_call_head pr ic cl) ≡ cl = omega arith in
      cc

-- up to bits 17 to 32
pub all_call_again : (h : ℕ) → h < 4294967296 → value_at at_uf h ≡ 11 → all_call_head (value_at at_pr h) (value_at at_ic h) (value_at at_cl h) + h % 65536 ≡ h
unfolding all_call_head
all_call_again h l e =
    join_four h (h / 134217728) (h / 8388608) (h / 524288) (h / 65536) (h / 8388608 % 16) (h / 524288 % 16) (h / 65536 % 8) (h % 65536)
    (omega arith) (omega arith) (omega arith) (omega arith) (omega arith)

-- ---- DF 4, 5, 20, 21
module _ (df fs dr um value : ℕ) (hd : df < 32) (hf : fs < 8) (hr : dr < 32) (hu : um < 64) (hv : value < 8192) where
  pub reply_lt : reply_head df fs dr um value < 4294967296
  unfolding reply_head
  reply_lt = omega arith

  pub reply_format : value_at at_uf (reply_head df fs dr um value) ≡ df
  unfolding reply_head
  reply_format = omega arith

  pub reply_fields : (mb r : ℕ) → surveillance_read (reply_head df fs dr um value) mb r ≡ done (df ∷ fs ∷ dr ∷ um ∷ value ∷ mb ∷ r ∷ [])
  unfolding reply_head surveillance_read
  reply_fields mb r =
      let a : value_at at_uf (reply_head df fs dr um value) ≡ df = omega arith in
      let b : value_at at_fs (reply_head df fs dr um value) ≡ fs = omega arith in
      let c : value_at at_dr (reply_head df fs dr um value) ≡ dr = omega arith in
      let d : value_at at_um (reply_head df fs dr um value) ≡ um = omega arith in
      let e : value_at at_ac_or_id (reply_head df fs dr um value) ≡ value = omega arith in
      cc

pub reply_again : (h : ℕ) → h < 4294967296 → reply_head (value_at at_uf h) (value_at at_fs h) (value_at at_dr h) (value_at at_um h) (value_at at_ac_or_id h) ≡ h
unfolding reply_head
reply_again h l =
    join_value h (h / 134217728) (h / 16777216) (h / 524288) (h / 8192) (h / 134217728 % 32) (h / 16777216 % 8) (h / 524288 % 32) (h / 8192 % 64) (h / 1 % 8192)
    (omega arith) (omega arith) (omega arith) (omega arith) (omega arith)

-- ---- DF 11
module _ (ca address : ℕ) (hc : ca < 8) (ha : address < 16777216) where
  pub all_call_reply_lt : all_call_reply_head ca address < 4294967296
  unfolding all_call_reply_head
  all_call_reply_lt = omega arith

  pub all_call_reply_format : value_at at_uf (all_call_reply_head ca address) ≡ 11
  unfolding all_call_reply_head
  all_call_reply_format = omega arith

  pub all_call_reply_fields : (r : ℕ) → all_call_reply_read (all_call_reply_head ca address) r ≡ done (11 ∷ ca ∷ address ∷ r ∷ [])
  unfolding all_call_reply_head all_call_reply_read
  all_call_reply_fields r =
      let a : value_at at_ca (all_call_reply_head ca address) ≡ ca = omega arith in
      let b : value_at at_address (all_call_reply_head ca address) ≡ address = omega arith in
      cc

pub all_call_reply_again : (h : ℕ) → h < 4294967296 → value_at at_uf h ≡ 11 → all_call_reply_head (value_at at_ca h) (value_at at_address h) ≡ h
unfolding all_call_reply_head
all_call_reply_again h l e = omega arith
