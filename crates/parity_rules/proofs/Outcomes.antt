-- What the outcomes of a correction say of messages. One that is taken becomes the one message that differs at marked places
-- only and has the overlay as its remainder, its places are those where the two differ, and its flips are how many they are; 12 says that there
-- is no such message, and 13 that there are two.
use mathlib.Core.Path.{◌≡◌, refl, sym, ap, ◌∙◌, subst}
use mathlib.Core.Bool.{not, true, false}
use mathlib.Core.List.{List, [], ◌∷◌}
use Prim.Native.Nat.{ℕ, ◌*◌, ◌≤◌}
use native.Mathlib.Omega.{arith}
use lib.Bits.{bit_xor}
use lib.Dec.{ltb}
use lib.ListN.{length}
use borrow.Author.Tests.{not-false, ne_eqb, ltb-true, ltb-false, le-ltb}
use Rattle.std.specs.Prelude.{Ok, Err}
use Rattle.lists.specs.Checks.{Check, check, checked, given}
use Rattle.lists.specs.Lists.{All}
use Rattle.lists.proofs.Checks.{view, Passed, CameTo, was_refused, was_done, came_to, gave, whichever, all, past, rest, stop, not_off}
use Rattle.lists.proofs.Xor.{xor_back}
use Rattle.refusals.specs.declared.refusal.Refusal.TheVariants.{NoMatch, Doubt}
use Rattle.parity_rules.specs.Messages.{bits, xor_bits, differing, AreBits, AreBytes}
use Rattle.parity_rules.specs.Answers.{Buffers, buffers, Correction, fix_said, not_corrected}
use Rattle.parity_rules.specs.Division.{remainder_of}
use Rattle.parity_rules.specs.Correction.{size_of, xor_of, matching, sought, matches_of, first, flipped, mark_buffer, flipped_by, sized}
use Rattle.parity_rules.specs.Correction.{ranged, match_checks, mark_checks, correction_checks, correction}
use Rattle.parity_rules.specs.Places.{places_in, places_told}
use Rattle.parity_rules.specs.Corrected.{AtMarks, Fitting, Corrected}
use Rattle.parity_rules.proofs.Bits.{bits_length, bits_are}
use Rattle.parity_rules.proofs.Linear.{divide_xor}
use Rattle.parity_rules.proofs.Sum.{sum_is, xor_are}
use Rattle.parity_rules.proofs.Judged.{sizes, only_match, no_match, two_match}
use Rattle.parity_rules.proofs.Flipped.{flipped_back, flipped_bits, flipped_differ, flipped_twice, buffer_bits, flipped_length, flipped_bytes}
use Rattle.parity_rules.proofs.Places.{numbered}
use Rattle.parity_rules.proofs.Found.{within_are, within_length, match_is, match_only, match_none, match_two, match_both}

-- ---- a correction that is taken: buffers of one length, and one match
pub record Match (msg marks : List ℕ) (overlay n : ℕ) (b : Buffers) : Type 0 where
  pub same : length marks ≡ length msg
  pub subset : List ℕ
  pub one : matches_of msg marks overlay ≡ subset ∷ []
  pub flips : n ≡ size_of subset
  pub buffers : b ≡ buffers (flipped msg subset) (mark_buffer (length msg) subset)

-- ---- one that is refused with 13: no more marks than the limit, and two matches
pub record InDoubt (msg marks : List ℕ) (overlay limit : ℕ) : Type 0 where
  pub same : length marks ≡ length msg
  pub short : length msg ≤ 14
  pub few : size_of (bits marks) ≤ limit
  pub one : List ℕ
  pub other : List ℕ
  pub more : List (List ℕ)
  pub found : matches_of msg marks overlay ≡ one ∷ other ∷ more

module _ (msg marks : List ℕ) (overlay limit : ℕ) (lent : Buffers) where
  abbrev cs : List Check
  cs = correction_checks msg marks overlay limit lent

  abbrev found : Correction
  found = flipped_by msg (matches_of msg marks overlay)

  is_checked : correction msg marks overlay limit lent ≡ checked cs (not_corrected lent) found
  unfolding correction
  is_checked = refl

  -- the lengths, where their line is not the case
  lengths : not (sized (length msg) (length marks) (length lent.output) (length lent.places)) ≡ false → length marks ≡ length msg
  lengths h = (sizes (length msg) (length marks) (length lent.output) (length lent.places) (not-false _ h)).marks

  taken : (n : ℕ) (b : Buffers) → fix_said (Ok n) b ≡ correction msg marks overlay limit lent → Match msg marks overlay n b
  unfolding correction_checks
  taken n b e = go (checked cs (not_corrected lent) found) (e ∙ is_checked) (came_to (not_corrected lent) found cs refl)
    where
      go : (x : Correction) → fix_said (Ok n) b ≡ x → CameTo cs (not_corrected lent) found x → Match msg marks overlay n b
      go x e (was_refused c m k g q) = absurd (m (sym (ap (λ (y : Correction). y.number) (e ∙ q))))
      go x e (was_done p g q) =
          record {
            same = lengths (p.off 1);
            subset = first (matches_of msg marks overlay);
            one = only_match (matches_of msg marks overlay) (p.off 12) (p.off 13);
            flips = ap (λ (y : Correction). y.flips) (e ∙ q);
            buffers = ap (λ (y : Correction). y.buffers) (e ∙ q);
          }

  -- ---- a refusal gives the number that the table gives
  pub number_is : (correction msg marks overlay limit lent).number ≡ given cs
  number_is = ap (λ (x : Correction). x.number) is_checked ∙ view (λ (x : Correction). x.number) cs (not_corrected lent) found

  -- 12 and 13 are given where the lengths are right, by how many match
  none_found : (b : Buffers) → fix_said (Err NoMatch) b ≡ correction msg marks overlay limit lent
      → (length marks ≡ length msg) × (matches_of msg marks overlay ≡ [])
  unfolding correction_checks
  none_found b e =
      let y = gave 12 (λ z. omega arith) cs refl (sym number_is ∙ sym (ap (λ (x : Correction). x.number) e)) in
      (lengths y.0.0, no_match (matches_of msg marks overlay) y.1)

  pub in_doubt : (correction msg marks overlay limit lent).number ≡ 13 → InDoubt msg marks overlay limit
  unfolding correction_checks mark_checks
  in_doubt e =
      let y = gave 13 (λ z. omega arith) cs refl (sym number_is ∙ e) in
      let z = sizes (length msg) (length marks) (length lent.output) (length lent.places) (not-false _ y.0.0) in
      let m = two_match (matches_of msg marks overlay) y.1 in
      record {
        same = z.marks;
        short = z.most;
        few = ltb-false limit (size_of (bits marks)) y.0.1.1.0;
        one = m.0;
        other = m.1;
        more = m.2;
        found = m.3;
      }

  -- where 1, 2 and 11 are not the case the matches decide
  pub by_matches : sized (length msg) (length marks) (length lent.output) (length lent.places) ≡ true → ranged overlay limit ≡ true
      → size_of (bits marks) ≤ limit
      → correction msg marks overlay limit lent
      ≡ checked (match_checks (matches_of msg marks overlay)) (not_corrected lent) (flipped_by msg (matches_of msg marks overlay))
  unfolding correction_checks mark_checks
  by_matches hs hr few =
      is_checked
      ∙ sym (rest (not_corrected lent) found (past (past (past all (not_off _ hs)) (not_off _ hr)) (le-ltb limit (size_of (bits marks)) few)))

-- ---- the remainder of a message with some places flipped
remainder_xor : (xs ys : List ℕ) → AreBits xs → AreBits ys → length xs ≡ length ys → remainder_of (xor_bits xs ys) ≡ bit_xor (remainder_of xs) (remainder_of ys)
unfolding remainder_of
remainder_xor xs ys hx hy e = divide_xor xs ys hx hy e 0 0 (omega arith) (omega arith)

module _ (msg marks : List ℕ) (overlay : ℕ) (same : length marks ≡ length msg) (bm : AreBytes msg) where
  long : (s : List ℕ) → AtMarks s (bits marks) → length s ≡ length msg * 8
  long s h = within_length s (bits marks) h ∙ bits_length marks ∙ ap (λ (n : ℕ). n * 8) same

  -- a subset that matches makes a fitting message
  fitting : (s : List ℕ) → AtMarks s (bits marks) → xor_of s ≡ sought msg overlay → Fitting msg marks overlay (flipped msg s)
  fitting s h e =
      let b = within_are s (bits marks) (bits_are marks) h in
      let l = long s h in
      record {
        bytes = flipped_bytes msg s bm b;
        length_is = flipped_length msg s;
        at_marks = subst (λ (t : List ℕ). AtMarks t (bits marks)) (sym (flipped_differ msg s b l)) h;
        overlaid =
            ap remainder_of (flipped_bits msg s b l) ∙ remainder_xor (bits msg) s (bits_are msg) b (bits_length msg ∙ sym l)
            ∙ ap (bit_xor (remainder_of (bits msg))) (sym (sum_is s b) ∙ e) ∙ xor_back (remainder_of (bits msg)) overlay;
      }

  -- the places where a fitting message differs are a subset that matches
  pub matched : (o : List ℕ) → Fitting msg marks overlay o → xor_of (differing msg o) ≡ sought msg overlay
  matched o f =
      sum_is (differing msg o) (xor_are (bits msg) (bits o) (bits_are msg) (bits_are o))
      ∙ remainder_xor (bits msg) (bits o) (bits_are msg) (bits_are o) (bits_length msg ∙ ap (λ (n : ℕ). n * 8) (sym f.length_is) ∙ sym (bits_length o))
      ∙ ap (bit_xor (remainder_of (bits msg))) f.overlaid

  one_message : (s o : List ℕ) → matching (sought msg overlay) (bits marks) ≡ s ∷ [] → Fitting msg marks overlay o → o ≡ flipped msg s
  one_message s o e f =
      sym (flipped_back msg o bm f.bytes f.length_is)
      ∙ ap (flipped msg) (match_only (sought msg overlay) (bits marks) s (differing msg o) (bits_are marks) e f.at_marks (matched o f))

-- two matches are refused with 13
two_refused : (msg : List ℕ) (lent : Buffers) (l : List (List ℕ)) → ltb 1 (length l) ≡ true
    → checked (match_checks l) (not_corrected lent) (flipped_by msg l) ≡ not_corrected lent (check 13 true)
two_refused msg lent l h =
    sym (stop (not_corrected lent) (flipped_by msg l) 13 all (ne_eqb (length l) 0 (λ e. omega (arith, e, ltb-true 1 (length l) h)), tt) h)

-- ---- the theorems, each from what `correct` promises of the answer
module _ (msg marks : List ℕ) (overlay limit : ℕ) (lent b : Buffers) (bm : AreBytes msg) where
  -- a correction that is taken
  pub corrected : (n : ℕ) → fix_said (Ok n) b ≡ correction msg marks overlay limit lent → Corrected msg marks overlay n b
  corrected n e =
      let m = taken msg marks overlay limit lent n b e in
      let s = m.subset in
      let w = match_is (sought msg overlay) (bits marks) s [] m.one in
      let a = within_are s (bits marks) (bits_are marks) w.0 in
      let l = long msg marks overlay m.same bm s w.0 in
      let p = buffer_bits (length msg) s a l in
      rw m.buffers
      (record {
        fits = fitting msg marks overlay m.same bm s w.0 w.1;
        only = λ o f. one_message msg marks overlay m.same bm s o m.one f;
        places = p ∙ sym (flipped_differ msg s a l);
        marked = subst (λ (t : List ℕ). AtMarks t (bits marks)) (sym p) w.0;
        flips = m.flips ∙ ap size_of (sym p);
        back = ap (flipped (flipped msg s)) p ∙ flipped_twice msg s;
      })

  -- refusal 12: no message fits
  pub no_message : fix_said (Err NoMatch) b ≡ correction msg marks overlay limit lent → (o : List ℕ) → Fitting msg marks overlay o → ⊥
  no_message e o f =
      let d = none_found msg marks overlay limit lent b e in
      match_none (sought msg overlay) (bits marks) (differing msg o) (bits_are marks) d.1
      f.at_marks (matched msg marks overlay d.0 bm o f)

  -- refusal 13: two messages fit
  pub two_messages : fix_said (Err Doubt) b ≡ correction msg marks overlay limit lent
      → (o : List ℕ) × (p : List ℕ) × Fitting msg marks overlay o × Fitting msg marks overlay p × (o ≡ p → ⊥)
  two_messages e =
      let d = in_doubt msg marks overlay limit lent (sym (ap (λ (x : Correction). x.number) e)) in
      let w = match_two (sought msg overlay) (bits marks) d.one d.other _ d.found in
      let own : (s : List ℕ) → AtMarks s (bits marks) → differing msg (flipped msg s) ≡ s =
      λ s h. flipped_differ msg s (within_are s (bits marks) (bits_are marks) h) (long msg marks overlay d.same bm s h) in (
        flipped msg d.one,
        flipped msg d.other,
        fitting msg marks overlay d.same bm d.one w.0 w.1,
        fitting msg marks overlay d.same bm d.other w.2 w.3,
        λ q. w.4 (sym (own d.one w.0) ∙ ap (differing msg) q ∙ own d.other w.2),
      )

  -- and where two messages fit, and 1, 2 and 11 are not the case, it is 13
  pub doubt_of_two : sized (length msg) (length marks) (length lent.output) (length lent.places) ≡ true → ranged overlay limit ≡ true
      → size_of (bits marks) ≤ limit → (o p : List ℕ) → Fitting msg marks overlay o → Fitting msg marks overlay p → (o ≡ p → ⊥)
      → correction msg marks overlay limit lent ≡ not_corrected lent (check 13 true)
  doubt_of_two hs hr few o p f g n =
      let same = (sizes (length msg) (length marks) (length lent.output) (length lent.places) hs).marks in
      let m = match_both (sought msg overlay) (bits marks) (differing msg o) (differing msg p) (bits_are marks) f.at_marks g.at_marks
      (matched msg marks overlay same bm o f) (matched msg marks overlay same bm p g)
      (λ e. n (sym (flipped_back msg o bm f.bytes f.length_is) ∙ ap (flipped msg) e ∙ flipped_back msg p bm g.bytes g.length_is)) in
      by_matches msg marks overlay limit lent hs hr few ∙ two_refused msg lent (matches_of msg marks overlay) m

-- two corrections of one message, with the same marks and overlay, that are taken: by whatever limits and into whatever buffers, they leave the same
-- output and the same places
pub same_places : (msg marks : List ℕ) (overlay limit limit' : ℕ) (lent lent' b b' : Buffers) (n n' : ℕ)
    → fix_said (Ok n) b ≡ correction msg marks overlay limit lent → fix_said (Ok n') b' ≡ correction msg marks overlay limit' lent' → b ≡ b'
same_places msg marks overlay limit limit' lent lent' b b' n n' e e' =
    let m = taken msg marks overlay limit lent n b e in
    let m' = taken msg marks overlay limit' lent' n' b' e' in
    let s : m.subset ≡ m'.subset = ap first (sym m.one ∙ m'.one) in
    m.buffers ∙ ap (λ (t : List ℕ). buffers (flipped msg t) (mark_buffer (length msg) t)) s ∙ sym m'.buffers

-- ---- the flips of every answer are the number of places that it tells
told_by_is : (msg marks : List ℕ) (overlay limit : ℕ) (lent : Buffers) → Passed (correction_checks msg marks overlay limit lent)
    → size_of (first (matches_of msg marks overlay)) ≡ length (places_in (mark_buffer (length msg) (first (matches_of msg marks overlay))))
unfolding correction_checks
told_by_is msg marks overlay limit lent p =
    let s = first (matches_of msg marks overlay) in
    let same = lengths msg marks overlay limit lent (p.off 1) in
    let w = match_is (sought msg overlay) (bits marks) s [] (only_match (matches_of msg marks overlay) (p.off 12) (p.off 13)) in
    let a = within_are s (bits marks) (bits_are marks) w.0 in
    let l = within_length s (bits marks) w.0 ∙ bits_length marks ∙ ap (λ (n : ℕ). n * 8) same in
    sym ((numbered (mark_buffer (length msg) s)).counted ∙ ap size_of (buffer_bits (length msg) s a l))

pub flips_told : (msg marks : List ℕ) (overlay limit : ℕ) (lent : Buffers)
    → (correction msg marks overlay limit lent).flips ≡ length (places_told (correction msg marks overlay limit lent))
unfolding All correction correction_checks
flips_told msg marks overlay limit lent =
    whichever (λ o. o.flips ≡ length (places_told o)) (correction_checks msg marks overlay limit lent) (not_corrected lent)
    (flipped_by msg (matches_of msg marks overlay)) (refl, (refl, (refl, (refl, (refl, tt))))) (told_by_is msg marks overlay limit lent)
