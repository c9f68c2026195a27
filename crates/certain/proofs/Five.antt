-- Five marks are never in doubt: of the definition, of what `correct` promises, of the station's reply call in every history, and on the printed line.
use mathlib.Core.Path.{◌≡◌, sym, ap, ◌∙◌}
use mathlib.Core.List.{List}
use Prim.Native.Nat.{ℕ, suc, ◌*◌, ◌-◌, ◌^◌, ◌≤◌}
use native.Mathlib.Omega.{arith}
use lib.ListN.{length}
use Rattle.std.specs.Prelude.{Result, Ok, Err}
use Rattle.refusals.specs.declared.refusal.Refusal.{Refusal}
use Rattle.refusals.specs.declared.refusal.Refusal.TheVariants.{Doubt}
use Rattle.parity_rules.specs.Messages.{bits, differing, AreBytes}
use Rattle.parity_rules.specs.Answers.{Buffers, Correction, fix_said}
use Rattle.parity_rules.specs.Correction.{size_of, correction}
use Rattle.parity_rules.specs.Corrected.{Fitting}
use Rattle.parity_rules.specs.Distance.{Distance}
use Rattle.parity_rules.proofs.Bits.{bits_are, bits_length}
use Rattle.parity_rules.proofs.Sum.{xor_are}
use Rattle.parity_rules.proofs.Differing.{differing_length, bits_alike}
use Rattle.parity_rules.proofs.Flipped.{buffer_bits}
use Rattle.parity_rules.proofs.Unique.{fix_one}
use Rattle.parity_rules.proofs.Outcomes.{in_doubt}
use Rattle.parity_rules.proofs.Distance.{distance}
use Rattle.station_rules.specs.Replies.{Received, replied}
use Rattle.station_rules.specs.History.{Call, reply, after}
use Rattle.station_rules.specs.Seen.{setup_seen}
use Rattle.station_rules.proofs.Replies.{doubt_is}
use Rattle.stream_rules.specs.Spelled.{Spells, record_lines, calls_of}
use Rattle.stream_rules.specs.Reader.{numbers_on, answer_on, shown_to, known_by}
use Rattle.certain.specs.Certain.{Certain, ByDistance, marked, InLimit, sent_back, believed_over}
use Rattle.certain.specs.Replies.{RepliesCertain}
use Rattle.certain.specs.Lines.{LinesCertain}
use Rattle.certain.proofs.Few.{few_apart, few_undoubted, few_sent, few_xors}
use Rattle.certain.proofs.Chance.{few_believed, few_chance}
use Rattle.certain.proofs.Replies.{replies_certain}
use Rattle.certain.proofs.Lines.{line_is, lines_certain}

-- the bounds are read off the claims by omega, which refuses one that says too much
pub certain : ByDistance
certain n k claimed =
    let far : Distance (n * 8) (suc k) = λ d are short few none. claimed d are short (omega arith) none in
    record {
      apart = λ m o hm ho short same e few. few_apart n k far m o hm ho short same e (omega arith);
      undoubted = λ msg marks overlay limit lent short few e. few_undoubted n k far msg marks overlay limit lent short (omega arith) e;
      sent = λ msg marks overlay limit lent frame short bytes in_limit few fits.
          few_sent n k far msg marks overlay limit lent short bytes in_limit (omega arith) frame fits;
      xors = λ marks short few. few_xors n k far marks short (omega arith);
      chance = λ msg marks limit lent short in_limit few. (
        few_believed n k far msg marks limit lent short in_limit (omega arith),
        few_chance n k far msg marks limit lent short in_limit (omega arith) _ (omega (arith, in_limit.most, in_limit.few)),
      );
    }

-- the same from what `correct` promises of its answer f and of the buffers b that it leaves: f is not Doubt, and it is the flips, with the frame sent in the
-- output and in the places the marks of where it differs
module _ (n k : ℕ) (certain : Certain n k) (msg marks : List ℕ) (overlay limit : ℕ) (lent b : Buffers) (short : length msg ≤ n) where
  pub call_undoubted : limit ≤ k → fix_said (Err Doubt) b ≡ correction msg marks overlay limit lent → ⊥
  call_undoubted h e = certain.undoubted msg marks overlay limit lent short h (ap (λ (o : Correction). o.number) (sym e))

  pub call_sent : (f : Result ℕ Refusal) (frame : List ℕ) → AreBytes msg → InLimit msg marks limit lent → marked marks ≤ k → Fitting msg marks overlay frame
      → fix_said f b ≡ correction msg marks overlay limit lent
      → (f ≡ Ok (size_of (differing msg frame))) × (b.output ≡ frame) × (bits b.places ≡ differing msg frame)
  call_sent f frame bytes in_limit few fits e =
      let c : fix_said f b ≡ fix_said (Ok (size_of (differing msg frame))) (sent_back msg frame).buffers =
      e ∙ certain.sent msg marks overlay limit lent frame short bytes in_limit few fits in
      let o = fix_one f (Ok (size_of (differing msg frame))) b (sent_back msg frame).buffers c in (
        o.0,
        ap (λ (x : Buffers). x.output) o.1,
        ap (λ (x : Buffers). bits x.places) o.1
            ∙ buffer_bits (length msg) (differing msg frame) (xor_are (bits msg) (bits frame) (bits_are msg) (bits_are frame))
            (differing_length (bits msg) (bits frame) (bits_alike msg frame fits.length_is) ∙ bits_length msg),
      )

-- ---- at both lengths, and so for every message: another length is refused before
pub five_marks : Certain 14 5
five_marks = certain 14 5 distance

pub five_replies : (cs : List Call) → RepliesCertain 14 5 cs
five_replies = replies_certain 14 5 five_marks

pub five_lines : (s : List ℕ) → LinesCertain 14 5 s
five_lines = lines_certain 14 5 five_marks

-- with a limit of 5 or less 13 is never given: by a correction, by the reply call after any history, on the line of any record
pub never_13 : (msg marks : List ℕ) (overlay limit : ℕ) (lent : Buffers) → limit ≤ 5 → (correction msg marks overlay limit lent).number ≡ 13 → ⊥
never_13 msg marks overlay limit lent h e =
    five_marks.undoubted msg marks overlay limit lent (in_doubt msg marks overlay limit lent e).short h e

pub reply_never_13 : (cs : List Call) (r : Received) → (setup_seen cs).limit ≤ 5 → (replied (after cs) r).number ≡ 13 → ⊥
reply_never_13 cs r h e = (five_replies cs).undoubted r (in_doubt _ _ _ _ _ (doubt_is (after cs) r e)).short h e

pub line_never_13 : (s : List ℕ) (i : ℕ) {kind : ℕ} {r : Received} → Spells s i kind (reply r) → (known_by (shown_to s i)).setup.limit ≤ 5
    → answer_on (numbers_on (record_lines s i)) ≡ 13 → ⊥
line_never_13 s i {kind} {r} h low e =
    (five_lines s).undoubted i h (in_doubt _ _ _ _ _ (doubt_is (after (calls_of s i)) r (line_is s i h ∙ e))).short low e

-- at five marks a message is believed over 32 overlays: one in 524,288
pub noise : (msg marks : List ℕ) (limit : ℕ) (lent : Buffers) → length msg ≤ 14 → InLimit msg marks limit lent → marked marks ≡ 5
    → (believed_over msg marks limit lent ≡ 32) × (believed_over msg marks limit lent * 524288 ≡ 0x1000000)
noise msg marks limit lent short in_limit five =
    let c = five_marks.chance msg marks limit lent short in_limit (omega arith) in
    (c.0 ∙ ap (λ (m : ℕ). 2 ^ m) five, ap (λ (m : ℕ). believed_over msg marks limit lent * 2 ^ (24 - m)) (sym five) ∙ c.1)
