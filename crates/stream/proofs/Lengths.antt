-- How long words can be, so that a buffer lent large enough holds a record's lines whole.
use Rattle.std.proofs.Common.{◌≡◌, ℕ, ◌+◌, ◌≤◌, List, [], ◌++◌, length, ℤ, pos, negsuc, arith, length-append, w32, SFits}
use Rattle.text_rules.specs.Put.{Put}
use Rattle.text_rules.specs.Signed.{signed_decimal}
use Rattle.text_rules.proofs.Decimal.{decimal_fits}
use Rattle.text_rules.proofs.Laid.{put_then, put_inside, Still, still_first, still_next, still_end}
use Rattle.stream.specs.Calls.{Within}

-- a number of 32 bits with its sign: the sign and ten digits
pub signed_short : (z : ℤ) → SFits w32 z → length (signed_decimal z) ≤ 11
unfolding signed_decimal
signed_short (pos n) f = omega (arith, decimal_fits n (omega (arith, f.sfits)))
signed_short (negsuc n) f = omega (arith, decimal_fits (n + 1) (omega (arith, f.sfits)))

-- a text whose length is known
pub within : {t : List ℕ} {at r : ℕ} {l m : List ℕ} (k : ℕ) → length t ≤ k → Put t at l m r → Within k t at l m r
within k h p = record { put = p; short = h }

-- one text after another
pub within_then : {a b : List ℕ} {at r q j k : ℕ} {l m o : List ℕ} → Within j a at l m r → Within k b r m o q → Within (j + k) (a ++ b) at l o q
within_then {j = j} {k = k} x y = record { put = put_then x.put y.put; short = simp length-append (omega (arith, x.short, y.short)) }

-- a looser bound
pub within_more : {t : List ℕ} {at r : ℕ} {l m : List ℕ} (j k : ℕ) → j ≤ k → Within j t at l m r → Within k t at l m r
within_more j k h x = record { put = x.put; short = omega (arith, x.short) }

-- a text by another name
pub within_of : {k : ℕ} {a b : List ℕ} {at r : ℕ} {l m : List ℕ} → a ≡ b → Within k a at l m r → Within k b at l m r
within_of e p = rw e at p

-- ---- parts laid one after the other: `rest` is what is still to be laid, and what was laid so far is at most k bytes
pub record Going (k : ℕ) (t : List ℕ) (start : ℕ) (l rest : List ℕ) (at : ℕ) (m : List ℕ) : Type 0 where
  pub still : Still t start l rest at m
  pub short : length t ≤ k + length rest
  pub inside : at ≤ length m

pub going_first : (t : List ℕ) (start : ℕ) (l : List ℕ) → start ≤ length l → Going 0 t start l t start l
going_first t start l h = record { still = still_first t start l; short = omega arith; inside = h }

module _ {k : ℕ} {t : List ℕ} {start : ℕ} {l rest : List ℕ} {at : ℕ} {m : List ℕ} (g : Going k t start l rest at m) where
  pub going_next : (j c : ℕ) {a b o : List ℕ} {r : ℕ} → rest ≡ a ++ b → Within j a at m o r → k + j ≤ c → Going c t start l b r o
  going_next j c {a} {b} e w h =
      let z : length rest ≡ length a + length b = rw e (simp length-append) in
      record { still = still_next g.still e w.put; short = omega (arith, g.short, w.short, z, h); inside = put_inside w.put }

  -- nothing is left
  pub going_end : (c : ℕ) → rest ≡ [] → k ≤ c → Within c t start l m at
  going_end c e h =
      let z : length rest ≡ 0 = rw e in
      record { put = still_end g.still e g.inside; short = omega (arith, g.short, z, h) }
