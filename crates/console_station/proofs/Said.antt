-- What the lines say that lay their text in parts: a report, a plan and a reply.
use Prim.Native.Nat.{ℕ, ◌≤◌, ◌<◌}
use native.Mathlib.Omega.{arith}
use mathlib.Core.Path.{◌≡◌}
use mathlib.Core.List.{List}
use lib.ListN.{length, take, replicate, length-append, length-replicate}
use borrow.Author.Tests.{eq-eqb, ne_eqb, eqb-false}
use mir.Syntax.{w32}
use mir.Val.{SFits}
use Rattle.text_rules.specs.Put.{Put}
use Rattle.text_rules.specs.Plain.{plain}
use Rattle.text_rules.proofs.Decimal.{decimal_fits}
use Rattle.text_rules.proofs.HexMade.{hex_of_length}
use Rattle.refusals.specs.declared.refusal.Refusal.{Refusal}
use Rattle.refusals.specs.Refusals.{number_of}
use Rattle.refusals.proofs.Numbers.{not_done}
use Rattle.parity_rules.specs.Answers.{Buffers}
use Rattle.parity_rules.specs.Places.{places_in}
use Rattle.station_rules.specs.declared.state.Station.{Station}
use Rattle.station_rules.specs.Answers.{Report, Reply}
use Rattle.station_rules.specs.State.{entries_of}
use Rattle.station_rules.specs.Calls.{reported}
use Rattle.station_rules.specs.Planning.{next_plan}
use Rattle.station_rules.specs.Replies.{Replied, told, received, replied}
use Rattle.stream_rules.specs.Lines.{entry_lines, report_line}
use Rattle.stream_rules.proofs.Placed.{places_short}
use Rattle.stream.specs.Calls.{Within}
use Rattle.stream.proofs.Lengths.{within, within_then, signed_short}
use Rattle.console_rules.specs.Texts.{number_at, bytes_at, BytesAt, done_text, answer_text, room}
use Rattle.console_rules.specs.Station.{Spoke, speaking, number_spoken, report_text, report_spoken, planned_spoken, plan_spoken}
use Rattle.console_rules.specs.Station.{taken_text, replied_spoken, reply_spoken}
use Rattle.console_plain.proofs.Texts.{bytes_few, bytes_count}
use Rattle.console_station.proofs.Texts.{speaks}

-- a text of at most k bytes was laid
pub speaks_within : {k : ℕ} {t : List ℕ} {s : Station} {size : ℕ} {l m : List ℕ} → Within k t 0 l m size → k ≤ room
    → Spoke (speaking t s) l m s size
speaks_within w h = speaks w.put (omega (arith, w.short, h))

-- a refusal is not done
pub refused : (r : Refusal) → number_of r ≡ 0 → ⊥
refused r = eqb-false (number_of r) 0 (not_done r)

-- ---- `search reports`: a report, refused and taken
module _ (s : Station) (ws : List (List ℕ)) {a : ℕ} {t : Report} (e : a ≡ number_at 1 ws) (h : t ≡ reported s a) where
  pub report_refused : {l m : List ℕ} {q : Station} {r : ℕ} → (t.number ≡ 0 → ⊥) → Spoke (number_spoken t.number s) l m q r → Spoke (report_spoken s ws) l m q r
  unfolding report_spoken report_text
  report_refused n p = rw (← e, ← h, ne_eqb t.number 0 n) p

  pub report_taken : {l m o : List ℕ} {r size : ℕ} → t.number ≡ 0 → Put (plain "0 ") 0 l m r → Within 48 (report_line t.ac t.id) r m o size
      → Spoke (report_spoken s ws) l o s size
  unfolding report_spoken report_text
  report_taken n p w = rw (← e, ← h, eq-eqb t.number 0 n) (speaks_within (within_then (within 2 (omega arith) p) w) (omega arith))

pub ruleset reports = (report_refused, report_taken)

-- ---- a plan
pub plan_said : (s : Station) (ws : List (List ℕ)) {a : ℕ} {after : Station} {l m o : List ℕ} {r size : ℕ} → a ≡ number_at 1 ws → after ≡ next_plan s a
    → Put (plain "0\n") 0 l m r → Within 9216 (entry_lines 0 (entries_of after.plan)) r m o size
    → Spoke (plan_spoken s ws) l o after size
unfolding plan_spoken planned_spoken
plan_said s ws e h p w = rw (← e, ← h) (speaks_within (within_then (within 2 (omega arith) p) w) (omega arith))

-- ---- `search replies`: a reply, refused and taken
module _ (r : Reply) (b : Buffers) where
  pub reply_refused : {l m : List ℕ} {q : Station} {d : ℕ} → (r.number ≡ 0 → ⊥) → Spoke (number_spoken r.number r.station) l m q d
      → Spoke (replied_spoken (told r b)) l m q d
  unfolding replied_spoken answer_text
  reply_refused n p = rw (ne_eqb r.number 0 n) p

  pub reply_taken : {l m : List ℕ} {size : ℕ} → r.number ≡ 0 → length b.output ≤ 32 → length b.places ≤ 32 → length (places_in b.places) ≤ 12
      → r.flips < 4294967296 → SFits w32 r.delay → Put (done_text (taken_text r.flips r.delay b)) 0 l m size
      → Spoke (replied_spoken (told r b)) l m r.station size
  unfolding replied_spoken answer_text done_text
  reply_taken n h k few f z p =
      let ps = places_short b.places (omega (arith, k)) in
      rw (eq-eqb r.number 0 n)
      (speaks p (simp length-append (omega (arith, h, hex_of_length b.output, ps, few, decimal_fits r.flips f, signed_short r.delay z))))

-- what the station answers, into a buffer of zeros
pub reply_answered : {o q : Replied} {l m : List ℕ} {st : Station} {d : ℕ} → o ≡ q → Spoke (replied_spoken o) l m st d → Spoke (replied_spoken q) l m st d
reply_answered e p = rw e at p

pub into_zeros : (s : Station) (entry tag : ℕ) (msg marks : List ℕ) {c p zeros : List ℕ} {o : Replied} → o ≡ replied s (received entry tag msg marks c p)
    → c ≡ zeros → p ≡ zeros → o ≡ replied s (received entry tag msg marks zeros zeros)
into_zeros s entry tag msg marks e h g = rw (h, g) at e

-- the words of the line
pub reply_read : (s : Station) (ws : List (List ℕ)) {entry tag : ℕ} {msg marks l m : List ℕ} {q : Station} {d : ℕ}
    → Spoke (replied_spoken (replied s (received entry tag msg marks (replicate (length msg) 0) (replicate (length msg) 0)))) l m q d
    → entry ≡ number_at 1 ws → tag ≡ number_at 2 ws → msg ≡ bytes_at 3 ws → marks ≡ bytes_at 4 ws → Spoke (reply_spoken s ws) l m q d
unfolding reply_spoken
reply_read s ws p a b c d = rw (a, b, c, d) at p

-- ---- the lengths of what is lent: as many bytes as the word says, and a buffer of as many zeros
pub few_lent : {k : ℕ} {ws : List (List ℕ)} {l m : List ℕ} {n : ℕ} → BytesAt k ws l m n → length l ≡ 32 → length (take n m) ≤ 32
few_lent h z = omega (arith, bytes_few h z, bytes_count h z)

pub zeros_few : (msg d : List ℕ) {c : List ℕ} → c ≡ replicate (length msg) 0 → length msg ≤ 32 → length d ≡ length c → length d ≤ 32
zeros_few msg d {c} e h z =
    let k : length c ≡ length msg = rw e (length-replicate (length msg) 0) in
    omega (arith, k, z, h)
