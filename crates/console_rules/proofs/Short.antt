-- The text of every line without a state fits 512 bytes.
use Rattle.std.specs.Prelude.{Option, Some, None, unwrap_or}
use Prim.Native.Nat.{ℕ, zero, suc, ◌≤◌, ◌<◌}
use native.Mathlib.Omega.{arith}
use mathlib.Core.Path.{◌≡◌, refl}
use mathlib.Core.Bool.{Bool, true, false}
use mathlib.Core.List.{List, [], ◌∷◌, ◌++◌}
use lib.Dec.{eqb, ltb}
use lib.IntN.{ℤ}
use lib.ListN.{length, get_or, take, drop, replicate, length-append, length-take, length-replicate}
use borrow.Author.Tests.{not-false}
use Rattle.lists.specs.Lists.{pick, All}
use Rattle.lists.specs.Checks.{check, checked}
use Rattle.lists.specs.Answers.{Answer, done, refusal, refused_by}
use Rattle.lists.proofs.Checks.{whichever}
use Rattle.text_rules.specs.Put.{decimal, numbers_behind}
use Rattle.text_rules.specs.Line.{same_as}
use Rattle.text_rules.specs.Hex.{bytes_in, hex_of}
use Rattle.text_rules.specs.Plain.{plain}
use Rattle.text_rules.proofs.Decimal.{decimal_length}
use Rattle.text_rules.proofs.HexMade.{hex_length, hex_of_length}
use Rattle.text_rules.proofs.HexRead.{bytes_fit}
use Rattle.altitude_rules.specs.Code.{altitude}
use Rattle.altitude_rules.specs.WayBack.{raised, way_back_checks, way_back}
use Rattle.altitude_rules.proofs.WayBack.{fits}
use Rattle.console_rules.specs.FeetLines as feet-lines
use Rattle.console_rules.proofs.FeetRun.{answer_short}
use Rattle.parity_rules.specs.Answers.{Buffers, Correction}
use Rattle.parity_rules.specs.Places.{places_in, places_told}
use Rattle.parity_rules.proofs.Outcomes.{flips_told}
use Rattle.stream_rules.proofs.Placed.{places_short}
use Rattle.parity_rules.specs.Division.{remainder_checks, remainder_answer}
use Rattle.parity_rules.specs.Overlays.{uplink_overlay_checks, uplink_overlay}
use Rattle.parity_rules.specs.Correction.{correction}
use Rattle.parity_rules.proofs.Sizes.{Small, outcome_small}
use Rattle.frames_rules.specs.Answers.{Building, not_built, own, matching_ii}
use Rattle.frames_rules.specs.Bytes.{bytes_of}
use Rattle.frames_rules.specs.Formats.{long_format, length_of}
use Rattle.frames_rules.specs.Frames.{front, sealed, framed}
use Rattle.frames_rules.specs.Building.{selective, all_call, building_checks, building, all_calling_checks, all_calling}
use Rattle.frames_rules.specs.Codes.{code_of_checks, code_of}
use Rattle.frames_rules.specs.Reading.{format_of, read_checks, read_as, all_call_read, selective_read, all_call_reply_read, surveillance_read, mb_part}
use Rattle.console_rules.specs.Texts.{word, bytes_at, done_text, refusal_text, answer_text}
use Rattle.console_rules.specs.Parity.{reckoned_text, corrected_text, remainder_text, overlay_text, lent_for, fixed_text, correct_text}
use Rattle.console_rules.specs.Building.{built_text, selective_text, build_text, all_call_text}
use Rattle.console_rules.specs.Frames.{number_text, numbers_text, fields_text, end_text, values_text, read_text, interrogation_text, reply_text, up_text}
use Rattle.console_rules.specs.Frames.{down_text, code_word, whose_text, code_text}
use Rattle.console_rules.specs.Feet.{feet_text, written_text, ac_text}
use Rattle.console_rules.specs.Explain.{meanings, meaning_text, explain_text}
use Rattle.console_rules.specs.declared.names.Reason.TheVariants.{Wanted, NoNumber, NoBytes}
use Rattle.console_rules.specs.Reasons.{reason_text}

-- how long such a text is at most
abbrev pub brief : ℕ
brief = 512

-- ---- a text that is one of two, and what a word says

pub either_fits : (t : Bool) (a b : List ℕ) {n : ℕ} → length a ≤ n → length b ≤ n → length (pick t a b) ≤ n
either_fits true a b h k = h
either_fits false a b h k = k

-- a word says at most 32 bytes
bytes_by : (w : List ℕ) (o : Option (List ℕ)) → bytes_in w ≡ o → length (unwrap_or o []) ≤ 32
bytes_by w (Some bs) e = bytes_fit w bs e
bytes_by w None e = omega arith

pub bytes_short : (k : ℕ) (ws : List (List ℕ)) → length (bytes_at k ws) ≤ 32
bytes_short k ws = bytes_by (word k ws) (bytes_in (word k ws)) refl

-- ---- the text of an answer

pub answer_fits : (n : ℕ) (v : List ℕ) → n < 100 → length v ≤ 80 → length (answer_text n v) ≤ brief
unfolding answer_text done_text refusal_text
answer_fits n v h k =
    either_fits (eqb n 0) _ _ (simp length-append (omega arith)) (simp length-append (omega (arith, decimal_length 1 n (omega arith))))

reckoned_fits : (a : Answer) → a.number < 100 → length (reckoned_text a) ≤ brief
unfolding reckoned_text
reckoned_fits a h = answer_fits _ _ h (simp hex_length (omega arith))

remainder_number : (msg : List ℕ) → (remainder_answer msg).number < 100
unfolding All remainder_answer
remainder_number msg = whichever (λ (a : Answer). a.number < 100) (remainder_checks msg) refused_by _ (omega arith, tt) (λ p. omega arith)

overlay_number : (address : ℕ) → (uplink_overlay address).number < 100
unfolding All uplink_overlay
overlay_number address = whichever (λ (a : Answer). a.number < 100) (uplink_overlay_checks address) refused_by _ (omega arith, tt) (λ p. omega arith)

-- a correction: at most 12 places of four bytes behind the message and the flips
corrected_fits : (o : Correction) (lent : Buffers) → length lent.output ≤ 32 → length lent.places ≤ 32 → Small lent o
    → o.flips ≡ length (places_told o) → length (corrected_text o) ≤ brief
unfolding corrected_text answer_text done_text refusal_text
corrected_fits o lent h k s f = go (eqb o.number 0) refl
  where
    go : (t : Bool) → eqb o.number 0 ≡ t
        → length (pick t (done_text (hex_of o.buffers.output ++ (plain " " ++ (decimal o.flips ++ numbers_behind (places_in o.buffers.places)))))
        (refusal_text o.number)) ≤ brief
    go true e =
        let c : o.flips ≡ length (places_in o.buffers.places) = rw e at f in
        simp (length-append, hex_of_length)
        (omega (
          arith,
          s.output,
          h,
          decimal_length 1 o.flips (omega (arith, s.flips)),
          c,
          s.flips,
          places_short o.buffers.places (omega (arith, s.places, k)),
        ))
    go false e = simp length-append (omega (arith, decimal_length 1 o.number (omega (arith, s.number))))

fixed_fits : (msg marks : List ℕ) (overlay limit : ℕ) → length msg ≤ 32 → length (fixed_text msg marks overlay limit) ≤ brief
unfolding fixed_text
fixed_fits msg marks overlay limit h =
    let zeros = length-replicate {A = ℕ} (length msg) 0 in
    corrected_fits (correction msg marks overlay limit (lent_for msg)) (lent_for msg) (omega (arith, zeros)) (omega (arith, zeros))
    (outcome_small msg marks overlay limit (lent_for msg)) (flips_told msg marks overlay limit (lent_for msg))

-- ---- a frame that is read

number_fits : (n : ℕ) → n < 100000000 → length (number_text n) ≤ 9
unfolding number_text
number_fits n h = simp length-append (omega (arith, decimal_length 7 n (omega arith)))

part_fits : (msg : List ℕ) → length (mb_part msg) ≤ 7
part_fits msg = go (eqb (length msg) 14)
  where
    go : (t : Bool) → length (pick t (take 7 (drop 4 msg)) []) ≤ 7
    go true = simp length-take (omega arith)
    go false = omega arith

end_fits : (f : ℕ) (part : List ℕ) (r : ℕ) → length part ≤ 7 → length (end_text f part r) ≤ 21
unfolding end_text
end_fits f part r h =
    either_fits (long_format f) _ _ (simp length-append (omega (arith, hex_of_length part, hex_length 6 r))) (omega (arith, hex_length 6 r))

seven_fits : (f a b c d m r : ℕ) (part : List ℕ) → f < 100000000 → a < 100000000 → b < 100000000 → c < 100000000 → d < 100000000 → length part ≤ 7
    → length (read_text (done (f ∷ a ∷ b ∷ c ∷ d ∷ m ∷ r ∷ [])) part) ≤ brief
unfolding read_text values_text numbers_text
seven_fits f a b c d m r part hf ha hb hc hd hp =
    answer_fits 0 _ (omega arith)
    (simp length-append (omega (arith, number_fits f hf, number_fits a ha, number_fits b hb, number_fits c hc, number_fits d hd, end_fits f part r hp)))

four_fits : (f a b r : ℕ) (part : List ℕ) → f < 100000000 → a < 100000000 → b < 100000000 → length (read_text (done (f ∷ a ∷ b ∷ r ∷ [])) part) ≤ brief
unfolding read_text values_text fields_text
four_fits f a b r part hf ha hb =
    answer_fits 0 _ (omega arith)
    (simp length-append (omega (arith, number_fits f hf, number_fits a ha, number_fits b hb, hex_length 6 r)))

five_fits : (f a b c r : ℕ) (part : List ℕ) → f < 100000000 → a < 100000000 → b < 100000000 → c < 100000000
    → length (read_text (done (f ∷ a ∷ b ∷ c ∷ r ∷ [])) part) ≤ brief
unfolding read_text values_text fields_text
five_fits f a b c r part hf ha hb hc =
    answer_fits 0 _ (omega arith)
    (simp length-append (omega (arith, number_fits f hf, number_fits a ha, number_fits b hb, number_fits c hc, hex_length 6 r)))

refused_fits : (n : ℕ) (part : List ℕ) → n < 100 → length (read_text (refusal n) part) ≤ brief
unfolding read_text values_text fields_text
refused_fits n part h = answer_fits n [] h (omega arith)

-- what a reading answers, refused or one of two
either_read : (v : Bool) (x y : Answer) (part : List ℕ) → length (read_text x part) ≤ brief → length (read_text y part) ≤ brief
    → length (read_text (pick v x y) part) ≤ brief
either_read true x y part h k = h
either_read false x y part h k = k

read_fits : (m : List ℕ) (x y : Answer) (part : List ℕ) → length (read_text x part) ≤ brief → length (read_text y part) ≤ brief
    → length (read_text (checked (read_checks m) refused_by (pick (eqb (format_of m) 11) x y)) part) ≤ brief
unfolding All read_checks
read_fits m x y part h k =
    whichever (λ (a : Answer). length (read_text a part) ≤ brief) (read_checks m) refused_by (pick (eqb (format_of m) 11) x y)
    (refused_fits 1 part (omega arith), (refused_fits 14 part (omega arith), tt)) (λ p. either_read (eqb (format_of m) 11) x y part h k)

interrogation_fits : (msg : List ℕ) → length (interrogation_text msg) ≤ brief
unfolding interrogation_text read_as all_call_read selective_read
interrogation_fits msg =
    read_fits msg _ _ _
    (five_fits 11 _ _ _ _ _ (omega arith) (omega arith) (omega arith) (omega arith))
    (seven_fits _ _ _ _ _ _ _ _ (omega arith) (omega arith) (omega arith) (omega arith) (omega arith) (omega (arith, part_fits msg)))

reply_fits : (msg : List ℕ) → length (reply_text msg) ≤ brief
unfolding reply_text read_as all_call_reply_read surveillance_read
reply_fits msg =
    read_fits msg _ _ _
    (four_fits 11 _ _ _ _ (omega arith) (omega arith) (omega arith))
    (seven_fits _ _ _ _ _ _ _ _ (omega arith) (omega arith) (omega arith) (omega arith) (omega arith) (omega (arith, part_fits msg)))

-- ---- whose code a reply carries

code_word_fits : (vs : List ℕ) → length (code_word vs) ≤ 80
unfolding code_word
code_word_fits vs =
    either_fits (same_as vs own) _ _ (omega arith) (either_fits (same_as vs matching_ii) _ _ (omega arith) (omega arith))

code_number_is : (msg : List ℕ) (cl ic permit : ℕ) → (code_of msg cl ic permit).number < 100
unfolding All code_of
code_number_is msg cl ic permit =
    whichever (λ (a : Answer). a.number < 100) (code_of_checks msg cl ic permit) refused_by _ (omega arith, (omega arith, (omega arith, tt))) (λ p. omega arith)

whose_fits : (msg : List ℕ) (cl ic permit : ℕ) → length (whose_text (code_of msg cl ic permit)) ≤ brief
unfolding whose_text
whose_fits msg cl ic permit = answer_fits _ _ (code_number_is msg cl ic permit) (code_word_fits _)

-- ---- a frame that is built

frame_short : (n head mid overlay : ℕ) → length (framed n head mid overlay) ≤ 14
unfolding front sealed
frame_short n head mid overlay = go (eqb n 14) _
  where
    go : (t : Bool) (x : ℕ) → length ((bytes_of 4 head ++ pick t (bytes_of 7 mid) []) ++ bytes_of 3 x) ≤ 14
    go true x = omega arith
    go false x = omega arith

lent_short : (t : Bool) → length (replicate {A = ℕ} (pick t 14 7) 0) ≤ 14
lent_short true = omega arith
lent_short false = omega arith

-- the frame, or a refusal that leaves the lent buffer
held_fits : (n : ℕ) (l : List ℕ) → n < 100 → length l ≤ 14 → length (built_text (not_built l (check n true))) ≤ brief
unfolding built_text
held_fits n l h k = answer_fits _ _ h (omega (arith, hex_of_length l))

selective_fits : (uf pc rr di sd : ℕ) (ma : List ℕ) (address : ℕ) → length (selective_text uf pc rr di sd ma address) ≤ brief
unfolding All selective_text building selective
selective_fits uf pc rr di sd ma address =
    let l = replicate {A = ℕ} (length_of uf) 0 in
    let by : (n : ℕ) → n < 100 → length (built_text (not_built l (check n true))) ≤ brief = λ n h. held_fits n l h (lent_short (long_format uf)) in
    whichever (λ (o : Building). length (built_text o) ≤ brief) (building_checks uf pc rr di sd ma address l) (not_built l) _
    (by 2 (omega arith), (by 1 (omega arith), (by 2 (omega arith), tt))) (λ p. held_fits 0 _ (omega arith) (frame_short (length_of uf) _ _ _))

all_call_fits : (pr ic cl : ℕ) → length (built_text (all_calling pr ic cl (replicate 7 0))) ≤ brief
unfolding All all_calling all_call
all_call_fits pr ic cl =
    let l = replicate {A = ℕ} 7 0 in
    whichever (λ (o : Building). length (built_text o) ≤ brief) (all_calling_checks pr ic cl l) (not_built l) _
    (held_fits 1 l (omega arith) (omega arith), (held_fits 2 l (omega arith) (omega arith), tt)) (λ p. held_fits 0 _ (omega arith) (frame_short 7 _ _ _))

-- ---- an altitude

altitude_fits : (ac : ℕ) → length (feet-lines.answer_text (altitude ac)) ≤ brief
altitude_fits ac = omega (arith, answer_short ac)

-- the way back answers a code of 13 bits, or 19
written_fits : (n v : ℕ) → n < 100 → v < 100000000 → length (answer_text n (decimal v)) ≤ brief
written_fits n v h k = answer_fits n (decimal v) h (omega (arith, decimal_length 7 v (omega arith)))

way_back_fits : (feet : ℤ) → length (written_text (way_back feet)) ≤ brief
unfolding All way_back written_text
way_back_fits feet =
    whichever (λ (a : Answer). length (written_text a) ≤ brief) (way_back_checks feet) refused_by _ (written_fits 19 0 (omega arith) (omega arith), tt)
    (λ p. written_fits 0 _ (omega arith) (omega (arith, (fits (raised feet) (not-false _ (p.off 19))).short)))

-- ---- a meaning

each_fits : (l : List (List ℕ)) (n : ℕ) → All (λ (t : List ℕ). length t ≤ 500) l → length (get_or l n []) ≤ 500
unfolding All
each_fits [] n h = omega arith
each_fits (t ∷ l) zero h = h.0
each_fits (t ∷ l) (suc n) h = each_fits l n h.1

meanings_fit : All (λ (t : List ℕ). length t ≤ 500) meanings
unfolding All meanings
meanings_fit = search arith depth 64

refusal_short : (n : ℕ) → n < 100 → length (refusal_text n) ≤ brief
unfolding refusal_text
refusal_short n h = simp length-append (omega (arith, decimal_length 1 n (omega arith)))

done_fits : (t : List ℕ) → length t ≤ 500 → length (done_text t) ≤ brief
unfolding done_text
done_fits t h = simp length-append (omega arith)

meaning_fits : (n : ℕ) → length (meaning_text n) ≤ brief
unfolding meaning_text
meaning_fits n = either_fits (ltb n (length meanings)) _ _ (done_fits _ (each_fits meanings _ meanings_fit)) (refusal_short 2 (omega arith))

-- ---- the reasons

module _ (n : ℕ) (h : n < 256) where
  three_digits : length (decimal n) ≤ 3
  three_digits = decimal_length 2 n (omega arith)

  pub wanted_fits : length (reason_text (Wanted n)) ≤ brief
  unfolding reason_text
  wanted_fits = simp length-append (omega (arith, three_digits))

  pub no_number_fits : length (reason_text (NoNumber n)) ≤ brief
  unfolding reason_text
  no_number_fits = simp length-append (omega (arith, three_digits))

  pub no_bytes_fits : length (reason_text (NoBytes n)) ≤ brief
  unfolding reason_text
  no_bytes_fits = simp length-append (omega (arith, three_digits))

-- ---- the lines

module _ (ws : List (List ℕ)) where
  pub remainder_fits : length (remainder_text ws) ≤ brief
  unfolding remainder_text
  remainder_fits = reckoned_fits _ (remainder_number _)

  pub overlay_fits : length (overlay_text ws) ≤ brief
  unfolding overlay_text
  overlay_fits = reckoned_fits _ (overlay_number _)

  pub correct_fits : length (correct_text ws) ≤ brief
  unfolding correct_text
  correct_fits = fixed_fits _ _ _ _ (bytes_short 1 ws)

  pub build_fits : length (build_text ws) ≤ brief
  unfolding build_text
  build_fits = selective_fits _ _ _ _ _ _ _

  pub all_call_frame_fits : length (all_call_text ws) ≤ brief
  unfolding all_call_text
  all_call_frame_fits = all_call_fits _ _ _

  pub up_fits : length (up_text ws) ≤ brief
  unfolding up_text
  up_fits = interrogation_fits _

  pub down_fits : length (down_text ws) ≤ brief
  unfolding down_text
  down_fits = reply_fits _

  pub code_fits : length (code_text ws) ≤ brief
  unfolding code_text
  code_fits = whose_fits _ _ _ _

  pub feet_fits : length (feet_text ws) ≤ brief
  unfolding feet_text
  feet_fits = altitude_fits _

  pub ac_fits : length (ac_text ws) ≤ brief
  unfolding ac_text
  ac_fits = way_back_fits _

  pub explain_fits : length (explain_text ws) ≤ brief
  unfolding explain_text
  explain_fits = meaning_fits _
