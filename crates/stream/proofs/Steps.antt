-- Laws of what a record does and prints, and of one step.
use Rattle.std.proofs.Common.{Result, Ok, Err, ◌≡◌, ℕ, ◌+◌, ◌%◌, ◌^◌, ◌<◌, ◌≤◌, Bool, true, false, eqb, ◌⊎◌, List}
use Rattle.std.proofs.Common.{[], ◌++◌, length, take, replicate, sym, refl, ap, ◌∙◌, ⊎_elim, append-nil, arith, eq-eqb, ne_eqb, eqb-true}
use borrow.Author.Tests.{eqb-false}
use Rattle.lists.specs.Lists.{pick}
use Rattle.reader_rules.specs.declared.fields.Reply.{Reply}
use Rattle.reader_rules.specs.declared.reading.Found.{Found}
use Rattle.reader_rules.specs.declared.reading.Found.TheVariants.{End, Unknown, Cut, Whole}
use Rattle.reader_rules.specs.Records.{message_length, record_at, next_place}
use Rattle.parity_rules.specs.Places.{places_in}
use Rattle.reader_rules.specs.Fields.{reply_at}
use Rattle.reader_rules.proofs.Parts.{parts_in_order}
use Rattle.station_rules.specs.declared.state.Station.{Station}
use Rattle.station_rules.specs.declared.state.Taken.{Taken}
use Rattle.station_rules.specs.Answers.{Report, reply_as}
use Rattle.refusals.specs.declared.refusal.Refusal.{Refusal}
use Rattle.refusals.specs.Refusals.{number_given}
use Rattle.station_rules.specs.Replies.{Replied}
use Rattle.stream_rules.specs.Lines.{answer_line, reply_line, report_line}
use Rattle.stream.specs.Calls.{Within, Did, Stepped, Advanced}
use Rattle.stream_rules.specs.declared.run.Run.{Run}
use Rattle.stream_rules.proofs.Runs.{stays_ended, lays_nothing}
use Rattle.stream_rules.specs.Step.{Obeyed, refused_at, replied_to, reply_to, zeros, reported_to, obeyed}
use Rattle.stream_rules.specs.Run.{obeyed_at, goes_on, obeyed_now, lines_now, stepped, advanced, longest}
use Rattle.stream.proofs.Lengths.{within_more, within_of}

-- what a record does, by another name
pub did_of : {o p : Obeyed} {at : ℕ} {l m : List ℕ} {st : Station} {end : ℕ} → o ≡ p → Did o at l m st end → Did p at l m st end
did_of e d = rw e at d

-- its lines, by their own name
pub did_lines : {o : Obeyed} {at : ℕ} {l m t : List ℕ} {st : Station} {end : ℕ} (k : ℕ) → k ≤ longest → st ≡ o.station → t ≡ o.lines
    → Within k t at l m end → Did o at l m st end
did_lines k h e f w = record { station = e; lines = within_more k longest h (within_of f w) }

-- ---- a report, refused and taken

module _ (n : ℕ) (st : Station) (t : Report) where
  pub report_refused : (t.number ≡ 0 → ⊥) → answer_line n 8 t.number ≡ (reported_to n st t).lines
  report_refused h = rw (ne_eqb t.number 0 h) (sym (append-nil (answer_line n 8 t.number)))

  pub report_taken : t.number ≡ 0 → answer_line n 8 t.number ++ report_line t.ac t.id ≡ (reported_to n st t).lines
  report_taken h = rw (eq-eqb t.number 0 h)

-- ---- a reply, refused and taken

-- the number of what a reply is answered
pub reply_number : (r : Result Taken Refusal) (st : Station) → (reply_as r st).number ≡ number_given r
reply_number (Ok t) st = refl
reply_number (Err x) st = refl

module _ (n kind : ℕ) (r : Replied) where
  pub reply_refused : (r.number ≡ 0 → ⊥) → answer_line n kind r.number ≡ (replied_to n kind r).lines
  reply_refused h = rw (ne_eqb r.number 0 h)

  pub reply_taken : r.number ≡ 0 → reply_line n kind r.flips r.delay (places_in r.buffers.places) ≡ (replied_to n kind r).lines
  reply_taken h = rw (eq-eqb r.number 0 h)

-- the parts of a reply that was read lie in the stream one after the other
pub in_order : (s : List ℕ) (kind b : ℕ) {q : Reply} → q ≡ reply_at s kind b → (q.message ≤ q.marks) × (q.marks ≤ q.end) × (q.end ≤ length s)
in_order s kind b e = let o = parts_in_order s kind b in rw e (o.first, o.second, o.inside)

-- ---- a record by its kind

-- a kind that has no arm of its own
pub record Rest (kind : ℕ) : Type 0 where
  pub not_1 : kind ≡ 1 → ⊥
  pub not_2 : kind ≡ 2 → ⊥
  pub not_3 : kind ≡ 3 → ⊥
  pub not_4 : kind ≡ 4 → ⊥
  pub not_5 : kind ≡ 5 → ⊥
  pub not_8 : kind ≡ 8 → ⊥
  pub not_9 : kind ≡ 9 → ⊥

module _ (s : List ℕ) (n b : ℕ) (st : Station) {kind : ℕ} where
  pub of_kind : {k : ℕ} → kind ≡ k → obeyed s n k b st ≡ obeyed s n kind b st
  of_kind e = ap (λ (x : ℕ). obeyed s n x b st) (sym e)

  -- a reply of either length
  pub of_reply_is : Rest kind → 1 ≤ kind → kind < 8 → replied_to n kind (reply_to s kind b st (zeros kind)) ≡ obeyed s n kind b st
  unfolding obeyed
  of_reply_is h low high = go (eqb kind 6) refl
    where
      go : (t : Bool) → eqb kind 6 ≡ t → replied_to n kind (reply_to s kind b st (zeros kind)) ≡ obeyed s n kind b st
      go true e = let z : kind ≡ 6 = eqb-true kind 6 e in rw z
      go false e =
          let z : kind ≡ 7 = omega (arith, h.not_1, h.not_2, h.not_3, h.not_4, h.not_5, eqb-false kind 6 e) in
          rw z

  -- no kind at all
  pub of_none : Rest kind → (kind < 1) ⊎ (8 ≤ kind) → refused_at n kind 16 st ≡ obeyed s n kind b st
  unfolding obeyed
  of_none h out =
      let not_6 : kind ≡ 6 → ⊥ = λ e. ⊎_elim (λ l. omega arith) (λ l. omega arith) out in
      let not_7 : kind ≡ 7 → ⊥ = λ e. ⊎_elim (λ l. omega arith) (λ l. omega arith) out in
      rw (
        ne_eqb kind 1 h.not_1,
        ne_eqb kind 2 h.not_2,
        ne_eqb kind 3 h.not_3,
        ne_eqb kind 4 h.not_4,
        ne_eqb kind 5 h.not_5,
        ne_eqb kind 6 not_6,
        ne_eqb kind 7 not_7,
        ne_eqb kind 8 h.not_8,
        ne_eqb kind 9 h.not_9,
      )

-- the buffer lent for a corrected message: the front of fourteen zeros
pub front_zeros : (kind n : ℕ) → n ≡ message_length kind → take {A = ℕ} n (replicate 14 0) ≡ zeros kind
unfolding message_length
front_zeros kind n e = rw e (go (eqb kind 7))
  where
    go : (b : Bool) → take {A = ℕ} (pick b 14 7) (replicate 14 0) ≡ replicate (pick b 14 7) 0
    go true = refl
    go false = refl

-- ---- a step by what stands at the run's place

module _ (s : List ℕ) (r : Run) {at : ℕ} {l : List ℕ} {n : ℕ} (counted : n ≡ (r.n + 1) % 2 ^ 32) where
  step_as : (f : Found) {m : List ℕ} {k : ℕ} → record_at s r.at ≡ f → Within longest (obeyed_at s r.n r.station f).lines at l m k
      → Stepped s r at l m
      (record { station = (obeyed_at s r.n r.station f).station; at = next_place f r.at; n = n; more = goes_on f }) k
  unfolding stepped obeyed_now
  step_as f h w = record { run = rw (h, counted); lines = rw h w }

  pub step_end : {k : ℕ} {m : List ℕ} → record_at s r.at ≡ End → Within 0 [] at l m k
      → Stepped s r at l m (record { station = r.station; at = r.at; n = n; more = false }) k
  unfolding obeyed_at goes_on next_place
  step_end h w = step_as End h (within_more 0 longest (omega arith) w)

  pub step_unknown : {kind k : ℕ} {m : List ℕ} → record_at s r.at ≡ Unknown kind → Within 36 (answer_line r.n kind 16) at l m k
      → Stepped s r at l m (record { station = r.station; at = r.at; n = n; more = false }) k
  unfolding obeyed_at goes_on next_place
  step_unknown {kind} h w = step_as (Unknown kind) h (within_more 36 longest (omega arith) w)

  pub step_cut : {kind k : ℕ} {m : List ℕ} → record_at s r.at ≡ Cut kind → Within 36 (answer_line r.n kind 17) at l m k
      → Stepped s r at l m (record { station = r.station; at = r.at; n = n; more = false }) k
  unfolding obeyed_at goes_on next_place
  step_cut {kind} h w = step_as (Cut kind) h (within_more 36 longest (omega arith) w)

  pub step_whole : {kind b next k : ℕ} {m : List ℕ} {st : Station} → record_at s r.at ≡ Whole kind b next → Did (obeyed s r.n kind b r.station) at l m st k
      → Stepped s r at l m (record { station = st; at = next; n = n; more = true }) k
  unfolding obeyed_at goes_on next_place
  step_whole {kind} {b} {next} h d = rw d.station (step_as (Whole kind b next) h d.lines)

-- ---- a run by whether it goes on

module _ (s : List ℕ) (r : Run) {at : ℕ} {l m : List ℕ} where
  pub stay_ended : {k : ℕ} → r.more ≡ false → Within 0 [] at l m k → Advanced s r at l m r k
  stay_ended e w = record { run = sym (stays_ended s r e); lines = within_of (sym (lays_nothing s r e)) (within_more 0 longest (omega arith) w) }

  pub go_on : {k : ℕ} {q : Run} → r.more ≡ true → Stepped s r at l m q k → Advanced s r at l m q k
  unfolding lines_now advanced
  go_on e p =
      record {
        run = p.run ∙ sym (ap (λ (b : Bool). pick b (stepped s r) r) e);
        lines = within_of (sym (ap (λ (b : Bool). pick b (obeyed_now s r).lines []) e)) p.lines;
      }
