-- A correction on trial in buffers of its own says what one in the caller's buffers does.
use borrow.Author.Tests.{eqb-false}
use Rattle.std.specs.Prelude.{Result, Ok, Err}
use Rattle.std.specs.Result.{is_err}
use Rattle.std.proofs.Common.{◌≡◌, ℕ, ◌<◌, ◌≤◌, true, false, true≢false, List, ◌++◌, length, take}
use Rattle.std.proofs.Common.{replicate, sym, refl, ap, ◌∙◌, ⊎_elim, arith, length-append, length-take-le, eq-eqb, ne_eqb}
use Rattle.lists.specs.Checks.{Check, checked, given, numbered}
use Rattle.lists.proofs.Checks.{view, join, all, stop, end, not_on, not_off, zero_done, number_refused}
use Rattle.parity_rules.specs.Answers.{Buffers, Correction, fix_said, not_corrected, flips_of}
use Rattle.parity_rules.specs.Correction.{matches_of, flipped_by, correction_checks, correction}
use Rattle.parity_rules.proofs.Judged.{Sizes}
use Rattle.frames_rules.specs.Reading.{format_of}
use Rattle.station_rules.specs.Replies.{format_checks, corrected_checks, corrected_as}
use Rattle.refusals.specs.declared.refusal.Refusal.{Refusal}
use Rattle.refusals.specs.Refusals.{number_of, number_given}
use Rattle.refusals.proofs.Numbers.{not_done}

-- ---- a message of a right length is long enough for a format and a value
pub sized_least : {n marks out places : ℕ} → Sizes n marks out places → 3 < n
sized_least z = ⊎_elim (λ e. omega arith) (λ e. omega arith) z.either

-- ---- the part of a scratch buffer that a trial is made in, and what it holds afterwards
pub same_as_is : (t : List ℕ) (n : ℕ) → length t ≡ length (take n (replicate {A = ℕ} 14 0)) → n ≤ 14 → length t ≡ n
same_as_is t n e h = e ∙ length-take-le n (replicate {A = ℕ} 14 0) h

pub share_fits : (t w : List ℕ) (n : ℕ) → length t ≡ n → n ≤ length (t ++ w)
share_fits t w n e = omega (arith, length-append t w)

abbrev number_in : Correction → ℕ
number_in o = o.number

-- a refusal by its number, with what the buffers then hold
abbrev refused_at : Buffers → ℕ → Correction
refused_at b n = record { number = n; flips = 0; buffers = b }

-- ---- a refusal's number is not 0, and a call that is not refused is given 0
pub not_zero : (w : Refusal) → number_of w ≡ 0 → ⊥
not_zero w = eqb-false (number_of w) 0 (not_done w)

pub err_number : {A : Type 0} (r : Result A Refusal) → is_err r ≡ true → number_given r ≡ 0 → ⊥
err_number (Ok a) e = absurd (true≢false (sym e))
err_number (Err w) e = not_zero w

pub ok_number : {A : Type 0} (r : Result A Refusal) → is_err r ≡ false → number_given r ≡ 0
ok_number (Ok a) e = refl
ok_number (Err w) e = absurd (true≢false e)

-- ---- a trial, by the correction's answer
module _ (f : ℕ) (msg marks : List ℕ) (overlay limit : ℕ) (out : Buffers) where
  abbrev found : Correction
  found = flipped_by msg (matches_of msg marks overlay)

  abbrev own : List Check
  own = correction_checks msg marks overlay limit out

  -- the correction's own lines, then that of the format
  in_parts : (left : Buffers)
      → corrected_as f msg marks overlay limit out left
      ≡ checked own (not_corrected left) (checked (format_checks f msg (matches_of msg marks overlay)) (not_corrected left) found)
  unfolding corrected_as
  in_parts left = join own (format_checks f msg (matches_of msg marks overlay)) (not_corrected left) found

  own_numbered : numbered own ≡ true
  unfolding correction_checks
  own_numbered = refl

  module _ (r : Result ℕ Refusal) (t : Buffers) (e : fix_said r t ≡ correction msg marks overlay limit out) where
    given_is : number_given r ≡ given own
    unfolding correction
    given_is = ap number_in e ∙ view number_in own (not_corrected out) found

    pub trial_refused : (w : Refusal) → r ≡ Err w → refused_at t (number_of w) ≡ corrected_as f msg marks overlay limit out t
    trial_refused w q =
        let g : number_of w ≡ given own = sym (ap (λ (y : Result ℕ Refusal). number_given y) q) ∙ given_is in
        ap (refused_at t) g
        ∙ number_refused own (checked (format_checks f msg (matches_of msg marks overlay)) (not_corrected t) found) own_numbered (refused_at t)
        (λ z. not_zero w (g ∙ z))
        ∙ sym (in_parts t)

    module _ (l : ℕ) (q : r ≡ Ok l) where
      zero : given own ≡ 0
      zero = sym given_is ∙ ap (λ (y : Result ℕ Refusal). number_given y) q

      is_found : fix_said r t ≡ found
      unfolding correction
      is_found = e ∙ sym (zero_done own found own_numbered (not_corrected out) zero)

      flips_are : l ≡ flips_of r
      flips_are = ap (λ (y : Result ℕ Refusal). flips_of y) (sym q)

      by_format : checked (format_checks f msg (matches_of msg marks overlay)) (not_corrected t) found ≡ corrected_as f msg marks overlay limit out t
      by_format =
          zero_done own (checked (format_checks f msg (matches_of msg marks overlay)) (not_corrected t) found) own_numbered (not_corrected t) zero
          ∙ sym (in_parts t)

      written : t.output ≡ found.buffers.output
      written = ap (λ (o : Correction). o.buffers.output) is_found

      pub trial_other : (m : ℕ) → m ≡ format_of t.output → (m ≡ f → ⊥) → refused_at t 14 ≡ corrected_as f msg marks overlay limit out t
      unfolding format_checks
      trial_other m g d =
          stop (not_corrected t) found 14 all tt (not_on _ (ne_eqb (format_of found.buffers.output) f (λ z. d (g ∙ ap format_of written ∙ z)))) ∙ by_format

      pub trial_taken : (m : ℕ) → m ≡ format_of t.output → m ≡ f
          → ◌≡◌ {A = Correction} (record { number = 0; flips = l; buffers = t }) (corrected_as f msg marks overlay limit out t)
      unfolding format_checks
      trial_taken m g d =
          (rw flips_are (ap (λ (o : Correction). record { number = 0; flips = o.flips; buffers = o.buffers }) is_found))
          ∙ end (not_corrected t) found all (not_off _ (eq-eqb (format_of found.buffers.output) f (sym (ap format_of written) ∙ sym g ∙ d)), tt)
          ∙ by_format

-- ---- the outcome in some buffers and in others of the same lengths
module _ (f : ℕ) (msg marks : List ℕ) (overlay limit : ℕ) (a out t : Buffers) (same : length a.output ≡ length out.output)
    (same_places : length a.places ≡ length out.places) (r : Result ℕ Refusal)
    (h : fix_said r t ≡ corrected_as f msg marks overlay limit a t) where
  abbrev lines : List Check
  lines = corrected_checks f msg marks overlay limit out

  lines_are : corrected_checks f msg marks overlay limit a ≡ lines
  unfolding corrected_checks correction_checks
  lines_are = rw (same, same_places)

  lines_numbered : numbered lines ≡ true
  unfolding corrected_checks correction_checks format_checks
  lines_numbered = refl

  abbrev one : Correction
  one = flipped_by msg (matches_of msg marks overlay)

  here : fix_said r t ≡ checked lines (not_corrected t) one
  unfolding corrected_as
  here = h ∙ ap (λ (cs : List Check). checked cs (not_corrected t) one) lines_are

  given_by : number_given r ≡ given lines
  given_by = ap number_in here ∙ view number_in lines (not_corrected t) one

  -- what the trial refused is refused, and the caller's buffers are as they were
  pub refused_as : is_err r ≡ true → fix_said r out ≡ corrected_as f msg marks overlay limit out out
  unfolding corrected_as
  refused_as e =
      let n : given lines ≡ 0 → ⊥ = λ q. err_number r e (given_by ∙ q) in
      let s : fix_said r t ≡ refused_at t (given lines) = here ∙ sym (number_refused lines one lines_numbered (refused_at t) n) in
      ap (λ (o : Correction). record { number = o.number; flips = o.flips; buffers = out }) s
      ∙ number_refused lines one lines_numbered (refused_at out) n

  -- what the trial took is taken
  pub taken_as : is_err r ≡ false → fix_said r t ≡ corrected_as f msg marks overlay limit out out
  unfolding corrected_as
  taken_as e =
      let z : given lines ≡ 0 = sym given_by ∙ ok_number r e in
      here ∙ sym (zero_done lines one lines_numbered (not_corrected t) z)
      ∙ zero_done lines one lines_numbered (not_corrected out) z
