-- Building from what was read of a frame gives the same bytes.
use mathlib.Core.Path.{◌≡◌, refl, sym, ap, ◌∙◌}
use mathlib.Core.Bool.{Bool, true, false, ◌||◌, ◌&&◌}
use mathlib.Core.List.{List, [], ◌∷◌}
use mathlib.Core.Logic.{◌⊎◌, inl, inr}
use Prim.Native.Nat.{ℕ, ◌+◌, ◌%◌, ◌<◌, ◌≤◌}
use native.Mathlib.Omega.{arith}
use lib.Dec.{eqb, leb}
use lib.ListN.{length, get_or}
use borrow.Author.Tests.{eqb-true, eq-eqb, le-leb, not-false}
use Rattle.lists.specs.Lists.{pick, All}
use Rattle.lists.specs.Answers.{Answer, done, refusal, refused_by}
use Rattle.lists.proofs.Tests.{and_true, and_yes}
use Rattle.lists.proofs.Checks.{whichever, all, end, not_off}
use Rattle.parity_rules.specs.Messages.{bits, seven_or_fourteen, AreBytes}
use Rattle.parity_rules.specs.Division.{remainder_of}
use Rattle.parity_rules.specs.Overlays.{overlay_of}
use Rattle.frames_rules.specs.Answers.{holding, not_built}
use Rattle.frames_rules.specs.Bytes.{number_of_bytes}
use Rattle.frames_rules.specs.Fields.{head_of, mid_of, value_at, at_uf, at_pc, at_rr}
use Rattle.frames_rules.specs.Fields.{at_di, at_sd, selective_head, all_call_head, reply_head, all_call_reply_head}
use Rattle.frames_rules.specs.Formats.{long_format, surveillance, length_of, listed}
use Rattle.frames_rules.specs.Frames.{framed}
use Rattle.frames_rules.specs.Building.{selective_ranged, selective, all_call, a_reply, an_all_call_reply, building}
use Rattle.frames_rules.specs.Reading.{format_of, read_checks, read_as, read_up, read_down}
use Rattle.frames_rules.specs.Reading.{selective_read, all_call_read, surveillance_read, all_call_reply_read}
use Rattle.frames_rules.specs.Shared.{code_number}
use Rattle.frames_rules.proofs.Heads.{selective_again, all_call_again, reply_again, all_call_reply_again}
use Rattle.frames_rules.proofs.Laying.{at_least_seven}
use Rattle.frames_rules.proofs.Ranges.{surveillance_is}
use Rattle.frames_rules.proofs.Sealing.{same_frame, head_lt, mid_le}

-- ---- what a reading says of the message
pub data Read (eleven : ℕ → ℕ → Answer) (others : ℕ → ℕ → ℕ → Answer) (m : List ℕ) : Answer → Type 0 where
  no_length : Read eleven others m (refusal 1)
  no_format : Read eleven others m (refusal 14)
  an_eleven : seven_or_fourteen (length m) ≡ true → length m ≡ 7 → format_of m ≡ 11 → Read eleven others m (eleven (head_of m) (remainder_of (bits m)))
  another : seven_or_fourteen (length m) ≡ true → length m ≡ length_of (format_of m) → surveillance (format_of m) ≡ true
      → Read eleven others m (others (head_of m) (mid_of m) (remainder_of (bits m)))

seven_eleven : (f n : ℕ) → f ≡ 11 → n ≡ length_of f → n ≡ 7
seven_eleven f n e l = rw e at l

or_other : (a b : Bool) → a ≡ false → a || b ≡ true → b ≡ true
or_other a b e h = rw e at h

pub read_cases : (eleven : ℕ → ℕ → Answer) (others : ℕ → ℕ → ℕ → Answer) (m : List ℕ) → Read eleven others m (read_as eleven others m)
unfolding All read_as
read_cases eleven others m =
    whichever (Read eleven others m) (read_checks m) refused_by _ (no_length, (no_format, tt))
    (λ p. go (not-false _ (p.off 1)) (not-false _ (p.off 14)) (eqb (format_of m) 11) refl)
  where
    go : seven_or_fourteen (length m) ≡ true → listed (format_of m) (length m) ≡ true → (b : Bool) → eqb (format_of m) 11 ≡ b
        → Read eleven others m (pick b (eleven (head_of m) (remainder_of (bits m))) (others (head_of m) (mid_of m) (remainder_of (bits m))))
    go w l true e =
        let f = eqb-true (format_of m) 11 e in
        let t = and_true (eqb (length m) (length_of (format_of m))) (eqb (format_of m) 11 || surveillance (format_of m)) l in
        an_eleven w (seven_eleven (format_of m) (length m) f (eqb-true (length m) (length_of (format_of m)) t.0)) f
    go w l false e =
        let t = and_true (eqb (length m) (length_of (format_of m))) (eqb (format_of m) 11 || surveillance (format_of m)) l in
        another w (eqb-true (length m) (length_of (format_of m)) t.0) (or_other (eqb (format_of m) 11) (surveillance (format_of m)) e t.1)

-- ---- a frame from parts that are the message's own
short_mid : (m : List ℕ) → length m ≡ 7 → mid_of m ≡ 0
unfolding mid_of
short_mid m e = rw e

frame_of : (m : List ℕ) → AreBytes m → seven_or_fourteen (length m) ≡ true → (n head mid overlay : ℕ) → n ≡ length m → head ≡ head_of m → mid ≡ mid_of m
    → overlay ≡ remainder_of (bits m)
    → framed n head mid overlay ≡ m
frame_of m h w n head mid overlay a b c d = alike ∙ same_frame m h w
  where
    alike : framed n head mid overlay ≡ framed (length m) (head_of m) (mid_of m) (remainder_of (bits m))
    alike = cc

head_fits : (m : List ℕ) → AreBytes m → seven_or_fourteen (length m) ≡ true → head_of m < 4294967296
head_fits m h w = head_lt m h (omega (arith, at_least_seven (length m) w))

-- the i-th value of an answer, and how many there are
nth : ℕ → Answer → ℕ
nth i a = get_or a.values i 0

count : Answer → ℕ
count a = length a.values

-- ---- UF 4, 5, 20, 21
module _ (m : List ℕ) (h : AreBytes m) (uf pc rr di sd ma r : ℕ) where
  -- what stands where in a message that reads so
  pub record Selective : Type 0 where
    pub measured : seven_or_fourteen (length m) ≡ true
    pub length_is : length m ≡ length_of uf
    pub format_is : surveillance uf ≡ true
    pub at_uf_is : uf ≡ value_at at_uf (head_of m)
    pub at_pc_is : pc ≡ value_at at_pc (head_of m)
    pub at_rr_is : rr ≡ value_at at_rr (head_of m)
    pub at_di_is : di ≡ value_at at_di (head_of m)
    pub at_sd_is : sd ≡ value_at at_sd (head_of m)
    pub ma_is : ma ≡ mid_of m
    pub remainder_is : r ≡ remainder_of (bits m)

  pub selective_of_is : read_up m ≡ done (uf ∷ pc ∷ rr ∷ di ∷ sd ∷ ma ∷ r ∷ []) → Selective
  unfolding selective_read all_call_read nth count
  selective_of_is e = go (read_up m) (read_cases all_call_read selective_read m) e
    where
      go : (a : Answer) → Read all_call_read selective_read m a → a ≡ done (uf ∷ pc ∷ rr ∷ di ∷ sd ∷ ma ∷ r ∷ []) → Selective
      go a no_length q = absurd (omega (arith, ap count q))
      go a no_format q = absurd (omega (arith, ap count q))
      go a (an_eleven w l f) q = absurd (omega (arith, ap count q))
      go a (another w l f) q =
          let u : uf ≡ value_at at_uf (head_of m) = sym (ap (nth 0) q) in
          record {
            measured = w;
            length_is = rw u l;
            format_is = rw u f;
            at_uf_is = u;
            at_pc_is = sym (ap (nth 1) q);
            at_rr_is = sym (ap (nth 2) q);
            at_di_is = sym (ap (nth 3) q);
            at_sd_is = sym (ap (nth 4) q);
            ma_is = sym (ap (nth 5) q);
            remainder_is = sym (ap (nth 6) q);
          }

  module _ (e : read_up m ≡ done (uf ∷ pc ∷ rr ∷ di ∷ sd ∷ ma ∷ r ∷ [])) (address : ℕ) (o : r ≡ overlay_of address) where
    pub selective_rebuilt : selective uf pc rr di sd ma address ≡ m
    unfolding selective
    selective_rebuilt =
        let s = selective_of_is e in
        let hd : selective_head uf pc rr di sd ≡ head_of m = same_head s ∙ selective_again (head_of m) (head_fits m h s.measured) in
        frame_of m h s.measured (length_of uf) (selective_head uf pc rr di sd) ma (overlay_of address) (sym s.length_is) hd s.ma_is
        (sym o ∙ s.remainder_is)
      where
        same_head : Selective
            → selective_head uf pc rr di sd
            ≡ selective_head (value_at at_uf (head_of m)) (value_at at_pc (head_of m)) (value_at at_rr (head_of m)) (value_at at_di (head_of m))
            (value_at at_sd (head_of m))
        same_head s = cc (s.at_uf_is, s.at_pc_is, s.at_rr_is, s.at_di_is, s.at_sd_is)

    zero_or_long : Selective → eqb ma 0 || leb ma 0xFFFFFFFFFFFFFF && long_format uf ≡ true
    zero_or_long s = go (surveillance_is uf s.format_is)
      where
        short : length m ≡ 7 → eqb ma 0 || leb ma 0xFFFFFFFFFFFFFF && long_format uf ≡ true
        short l = rw (eq-eqb ma 0 (s.ma_is ∙ short_mid m l))

        long : (a b c : Bool) → b ≡ true → c ≡ true → a || b && c ≡ true
        long true b c p q = refl
        long false b c p q = and_yes b c p q

        fits : leb ma 0xFFFFFFFFFFFFFF ≡ true
        fits = le-leb ma 0xFFFFFFFFFFFFFF (omega (arith, mid_le m h, s.ma_is))

        go : ((uf ≡ 4) ⊎ (uf ≡ 5)) ⊎ ((uf ≡ 20) ⊎ (uf ≡ 21)) → eqb ma 0 || leb ma 0xFFFFFFFFFFFFFF && long_format uf ≡ true
        go (inl (inl q)) = short (s.length_is ∙ ap length_of q)
        go (inl (inr q)) = short (s.length_is ∙ ap length_of q)
        go (inr (inl q)) = long (eqb ma 0) (leb ma 0xFFFFFFFFFFFFFF) (long_format uf) fits (ap long_format q)
        go (inr (inr q)) = long (eqb ma 0) (leb ma 0xFFFFFFFFFFFFFF) (long_format uf) fits (ap long_format q)

    -- the builder, given the values that were read, writes the same bytes
    pub build_again : (seven out : List ℕ) → length seven ≡ 7 → number_of_bytes seven ≡ ma → length out ≡ length m → 1 ≤ address → address ≤ 16777214
        → building uf pc rr di sd seven address out ≡ holding m
    unfolding building selective_ranged
    build_again seven out l n k low high =
        let s = selective_of_is e in
        let t : selective_ranged uf pc rr di sd (number_of_bytes seven) address ≡ true =
        rw (
          n,
          s.format_is,
          le-leb pc 7 (omega (arith, s.at_pc_is)),
          le-leb rr 31 (omega (arith, s.at_rr_is)),
          le-leb di 7 (omega (arith, s.at_di_is)),
          le-leb sd 65535 (omega (arith, s.at_sd_is)),
          le-leb 1 address low,
          le-leb address 16777214 high,
        )
        (zero_or_long s) in
        sym (end (not_built out) _ all (
          not_off _ s.format_is,
          (not_off _ (and_yes _ _ (eq-eqb (length out) (length_of uf) (k ∙ s.length_is)) (eq-eqb (length seven) 7 l)), (not_off _ t, tt)),
        ))
        ∙ rw n (ap holding selective_rebuilt)

-- ---- UF 11, up to bits 17 to 32
module _ (m : List ℕ) (h : AreBytes m) (pr ic cl r : ℕ) (e : read_up m ≡ done (11 ∷ pr ∷ ic ∷ cl ∷ r ∷ [])) where
  pub record AllCall : Type 0 where
    pub length_is : length m ≡ 7
    pub same_bits : all_call_head pr ic cl + head_of m % 65536 ≡ head_of m
    pub remainder_is : r ≡ remainder_of (bits m)

  pub all_call_of_is : AllCall
  unfolding selective_read all_call_read nth count
  all_call_of_is = go (read_up m) (read_cases all_call_read selective_read m) e
    where
      same_head : (x y z : ℕ) → x ≡ pr → y ≡ ic → z ≡ cl → all_call_head pr ic cl ≡ all_call_head x y z
      same_head x y z a b c = cc

      go : (a : Answer) → Read all_call_read selective_read m a → a ≡ done (11 ∷ pr ∷ ic ∷ cl ∷ r ∷ []) → AllCall
      go a no_length q = absurd (omega (arith, ap count q))
      go a no_format q = absurd (omega (arith, ap count q))
      go a (another w l f) q = absurd (omega (arith, ap count q))
      go a (an_eleven w l f) q =
          record {
            length_is = l;
            same_bits =
                ap (λ (k : ℕ). k + head_of m % 65536) (same_head _ _ _ (ap (nth 1) q) (ap (nth 2) q) (ap (nth 3) q))
                ∙ all_call_again (head_of m) (head_fits m h w) f;
            remainder_is = sym (ap (nth 4) q);
          }

  -- with zeros there, the same bytes
  pub all_call_rebuilt : r ≡ overlay_of 0xFFFFFF → head_of m % 65536 ≡ 0 → all_call pr ic cl ≡ m
  unfolding all_call
  all_call_rebuilt o z =
      let s = all_call_of_is in
      let hd : all_call_head pr ic cl ≡ head_of m = omega (arith, s.same_bits) in
      frame_of m h (ap seven_or_fourteen s.length_is) 7 (all_call_head pr ic cl) 0 (overlay_of 0xFFFFFF) (sym s.length_is) hd
      (sym (short_mid m s.length_is)) (sym o ∙ s.remainder_is)

-- ---- DF 4, 5, 20, 21
pub reply_rebuilt : (m : List ℕ) → AreBytes m → (df fs dr um value mb address : ℕ) → read_down m ≡ done (df ∷ fs ∷ dr ∷ um ∷ value ∷ mb ∷ address ∷ [])
    → a_reply df fs dr um value mb address ≡ m
unfolding surveillance_read all_call_reply_read nth count a_reply
reply_rebuilt m h df fs dr um value mb address e = go (read_down m) (read_cases all_call_reply_read surveillance_read m) e
  where
    same_head : (a b c d k : ℕ) → a ≡ df → b ≡ fs → c ≡ dr → d ≡ um → k ≡ value → reply_head df fs dr um value ≡ reply_head a b c d k
    same_head a b c d k p q r s t = cc

    go : (a : Answer) → Read all_call_reply_read surveillance_read m a → a ≡ done (df ∷ fs ∷ dr ∷ um ∷ value ∷ mb ∷ address ∷ [])
        → a_reply df fs dr um value mb address ≡ m
    go a no_length q = absurd (omega (arith, ap count q))
    go a no_format q = absurd (omega (arith, ap count q))
    go a (an_eleven w l f) q = absurd (omega (arith, ap count q))
    go a (another w l f) q =
        frame_of m h w (length_of df) (reply_head df fs dr um value) mb address (sym (l ∙ ap length_of (ap (nth 0) q)))
        (same_head _ _ _ _ _ (ap (nth 0) q) (ap (nth 1) q) (ap (nth 2) q) (ap (nth 3) q) (ap (nth 4) q) ∙ reply_again (head_of m) (head_fits m h w))
        (sym (ap (nth 5) q)) (sym (ap (nth 6) q))

-- ---- DF 11
pub all_call_reply_rebuilt : (m : List ℕ) → AreBytes m → (ca address cl ic : ℕ) → read_down m ≡ done (11 ∷ ca ∷ address ∷ code_number cl ic ∷ [])
    → an_all_call_reply ca address cl ic ≡ m
unfolding surveillance_read all_call_reply_read nth count an_all_call_reply
all_call_reply_rebuilt m h ca address cl ic e = go (read_down m) (read_cases all_call_reply_read surveillance_read m) e
  where
    same_head : (a b : ℕ) → a ≡ ca → b ≡ address → all_call_reply_head ca address ≡ all_call_reply_head a b
    same_head a b p q = cc

    go : (a : Answer) → Read all_call_reply_read surveillance_read m a → a ≡ done (11 ∷ ca ∷ address ∷ code_number cl ic ∷ [])
        → an_all_call_reply ca address cl ic ≡ m
    go a no_length q = absurd (omega (arith, ap count q))
    go a no_format q = absurd (omega (arith, ap count q))
    go a (another w l f) q = absurd (omega (arith, ap count q))
    go a (an_eleven w l f) q =
        frame_of m h w 7 (all_call_reply_head ca address) 0 (code_number cl ic) (sym l)
        (same_head _ _ (ap (nth 1) q) (ap (nth 2) q) ∙ all_call_reply_again (head_of m) (head_fits m h w) f)
        (sym (short_mid m l)) (sym (ap (nth 3) q))
