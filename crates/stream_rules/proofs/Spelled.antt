-- What a whole record does is what the call that it spells does, so that the run's station is that of the calls of its records, for every input.
use Prim.Native.Nat.{ℕ, zero, suc, ◌+◌, ◌-◌, ◌≤◌, ◌<◌, min}
use mathlib.Core.Path.{◌≡◌, refl, ap, sym, ◌∙◌}
use mathlib.Core.Bool.{Bool, true, false}
use mathlib.Core.List.{List, [], ◌++◌}
use lib.Dec.{eqb}
use lib.ListN.{length, get_or, drop, replicate}
use native.Mathlib.Omega.{arith}
use Rattle.lists.specs.Lists.{pick}
use Rattle.lists.proofs.Held.{all_take, all_drop}
use Rattle.parity_rules.specs.Messages.{AreBytes}
use Rattle.reader_rules.specs.declared.reading.Found.{Found}
use Rattle.reader_rules.specs.declared.reading.Found.TheVariants.{End, Unknown, Cut, Whole}
use Rattle.reader_rules.specs.Records.{body_length, message_length, number_at, record_at, next_place}
use Rattle.reader_rules.proofs.Steps.{whole_fits}
use Rattle.station_rules.specs.declared.state.Station.{Station}
use Rattle.station_rules.specs.State.{entries_of}
use Rattle.station_rules.specs.Calls.{reported}
use Rattle.station_rules.specs.Planning.{next_plan}
use Rattle.station_rules.specs.Replies.{received, Replied, replied}
use Rattle.station_rules.specs.History.{Call, answer, after}
use Rattle.stream_rules.specs.declared.run.Run.{Run}
use Rattle.stream_rules.specs.Lines.{answer_line, entry_lines, report_line}
use Rattle.stream_rules.specs.Step.{Obeyed, obeyed, replied_to, reply_to, zeros}
use Rattle.stream_rules.specs.Run.{obeyed_at, goes_on, begun, obeyed_now, stepped, advanced, run_after}
use Rattle.stream_rules.specs.Spelled.{bytes_at, call_of, Prints, plain, of_plan, of_reply, of_report, prints_of, called, place_of, found_after, calls_of}
use Rattle.stream_rules.proofs.Runs.{stays_by}

-- ---- the nine kinds
-- what holds for each of the nine kinds holds for every kind that has a body
by_kind : (P : ℕ → Type 0) → P 1 → P 2 → P 3 → P 4 → P 5 → P 6 → P 7 → P 8 → P 9 → (kind : ℕ) → (body_length kind ≡ 0 → ⊥) → P kind
unfolding body_length
by_kind P a b c d e f g h i zero x = absurd (x refl)
by_kind P a b c d e f g h i (suc zero) x = a
by_kind P a b c d e f g h i (suc (suc zero)) x = b
by_kind P a b c d e f g h i (suc (suc (suc zero))) x = c
by_kind P a b c d e f g h i (suc (suc (suc (suc zero)))) x = d
by_kind P a b c d e f g h i (suc (suc (suc (suc (suc zero))))) x = e
by_kind P a b c d e f g h i (suc (suc (suc (suc (suc (suc zero)))))) x = f
by_kind P a b c d e f g h i (suc (suc (suc (suc (suc (suc (suc zero))))))) x = g
by_kind P a b c d e f g h i (suc (suc (suc (suc (suc (suc (suc (suc zero)))))))) x = h
by_kind P a b c d e f g h i (suc (suc (suc (suc (suc (suc (suc (suc (suc zero))))))))) x = i
by_kind P a b c d e f g h i (suc (suc (suc (suc (suc (suc (suc (suc (suc (suc n)))))))))) x = absurd (x refl)

-- message and marks are the bytes that stand behind entry and tag
abbrev replied_by : Station → List ℕ → ℕ → ℕ → Replied
replied_by st s b m =
    replied st (received (get_or s b 0) (number_at s (b + 1) 4) (bytes_at s (b + 5) m) (bytes_at s (b + 5 + m) m) (replicate m 0) (replicate m 0))

reply_is : (s : List ℕ) (b : ℕ) (st : Station) (kind m : ℕ) → message_length kind ≡ m → b + 5 + m + m ≤ length s
    → reply_to s kind b st (zeros kind) ≡ replied_by st s b m
reply_is s b st kind m k h =
    let p : min (length s) (b + 5) ≡ b + 5 = omega (arith, h) in
    let q : min (length s) (b + (5 + m)) ≡ b + 5 + m = omega (arith, h) in
    let r : min (length s) (b + (5 + m + m)) ≡ b + 5 + m + m = omega (arith, h) in
    let x : b + 5 + m - (b + 5) ≡ m = omega arith in
    let y : b + 5 + m + m - (b + 5 + m) ≡ m = omega arith in
    rw (k, p, q, r, x, y)

-- the lines of a call as record n of a kind
abbrev pub lines_by : {c : Call} → Prints c → ℕ → ℕ → Station → List ℕ
lines_by {c} plain n kind st = answer_line n kind (answer st c).number
lines_by (of_plan tag) n kind st = answer_line n kind 0 ++ entry_lines 0 (entries_of (next_plan st tag).plan)
lines_by (of_reply r) n kind st = (replied_to n kind (replied st r)).lines
lines_by (of_report a) n kind st =
    answer_line n kind (reported st a).number
    ++ pick (eqb (reported st a).number 0) (report_line (reported st a).ac (reported st a).id) []

abbrev pub lines_for : ℕ → ℕ → Station → Call → List ℕ
lines_for n kind st c = lines_by (prints_of c) n kind st

-- and the station after it
abbrev pub done_for : ℕ → ℕ → Station → Call → Obeyed
done_for n kind st c = record { lines = lines_for n kind st c; station = (answer st c).station }

-- a whole record prints and does what its call does
pub obeys_call : (s : List ℕ) (n b : ℕ) (st : Station) (kind : ℕ) → (body_length kind ≡ 0 → ⊥) → b + body_length kind ≤ length s
    → obeyed s n kind b st ≡ done_for n kind st (call_of s kind b)
unfolding obeyed call_of body_length message_length
obeys_call s n b st =
    by_kind (λ kind. b + body_length kind ≤ length s → obeyed s n kind b st ≡ done_for n kind st (call_of s kind b))
    (λ _. refl)
    (λ _. refl)
    (λ _. refl)
    (λ _. refl)
    (λ _. refl)
    (λ h. ap (replied_to n 6) (reply_is s b st 6 7 refl (omega (arith, h))))
    (λ h. ap (replied_to n 7) (reply_is s b st 7 14 refl (omega (arith, h))))
    (λ _. refl)
    (λ _. refl)

-- what stands at a place is whole: it does what its call does
pub whole_done : (s : List ℕ) (at n : ℕ) (st : Station) {kind body next : ℕ} → record_at s at ≡ Whole kind body next
    → obeyed s n kind body st ≡ done_for n kind st (call_of s kind body)
whole_done s at n st {kind} {body} h =
    obeys_call s n body st kind (whole_fits s at h).known (let w = whole_fits s at h in omega (arith, w.next, w.inside))

-- the message of a reply is of bytes where the stream is
abbrev pub BytesBy : {c : Call} → Prints c → Type 0
BytesBy plain = Unit {0}
BytesBy (of_plan tag) = Unit {0}
BytesBy (of_reply r) = AreBytes r.message
BytesBy (of_report a) = Unit {0}

abbrev pub MessageBytes : Call → Type 0
MessageBytes c = BytesBy (prints_of c)

part_bytes : (s : List ℕ) (at m : ℕ) → AreBytes s → AreBytes (bytes_at s at m)
part_bytes s at m h = all_take (λ b. b < 256) m (drop at s) (all_drop (λ b. b < 256) at s h)

pub message_bytes : (s : List ℕ) (at : ℕ) {kind body next : ℕ} → AreBytes s → record_at s at ≡ Whole kind body next → MessageBytes (call_of s kind body)
unfolding call_of
message_bytes s at {kind} {body} bytes h =
    by_kind (λ k. MessageBytes (call_of s k body)) tt tt tt tt tt (part_bytes s (body + 5) 7 bytes) (part_bytes s (body + 5) 14 bytes) tt tt kind
    (whole_fits s at h).known

-- ---- one record more
-- what stands at a place leaves the station as the calls with its own leave it
pub leaves : (s : List ℕ) (at n : ℕ) (cs : List Call) (f : Found) → record_at s at ≡ f → (obeyed_at s n (after cs) f).station ≡ after (called s f cs)
unfolding obeyed_at called after
leaves s at n cs End h = refl
leaves s at n cs (Unknown b) h = refl
leaves s at n cs (Cut kind) h = refl
leaves s at n cs (Whole kind body next) h = ap (λ (o : Obeyed). o.station) (whole_done s at n (after cs) h)

-- where the run does not go on, nothing is called and the place stays
stays_calls : (s : List ℕ) (f : Found) (cs : List Call) → goes_on f ≡ false → called s f cs ≡ cs
unfolding goes_on called
stays_calls s End cs e = refl
stays_calls s (Unknown b) cs e = refl
stays_calls s (Cut kind) cs e = refl
stays_calls s (Whole kind body next) cs e = let z : ◌≡◌ {A = ℕ} 0 1 = cc in absurd (omega arith)

-- ---- the run of every stream
-- a run that stands behind the first k records: it has ended only where no whole record stands
pub record At (s : List ℕ) (k : ℕ) (r : Run) : Type 0 where
  pub place : r.at ≡ place_of s k
  pub station : r.station ≡ after (calls_of s k)
  pub ended : r.more ≡ false → goes_on (found_after s k) ≡ false

at_step : (s : List ℕ) (k : ℕ) (r : Run) → At s k r → At s (suc k) (stepped s r)
unfolding stepped obeyed_now place_of calls_of
at_step s k r h =
    record {
      place = rw h.place;
      station = rw (h.place, h.station) (leaves s (place_of s k) r.n (calls_of s k) (found_after s k) refl);
      ended = λ e. rw (stays_by (found_after s k) (place_of s k) (rw h.place at e)) (rw h.place at e);
    }

at_stays : (s : List ℕ) (k : ℕ) (r : Run) → At s k r → r.more ≡ false → At s (suc k) r
unfolding place_of calls_of
at_stays s k r h m =
    let e = h.ended m in
    let p : next_place (found_after s k) (place_of s k) ≡ place_of s k = stays_by (found_after s k) (place_of s k) e in
    let c : called s (found_after s k) (calls_of s k) ≡ calls_of s k = stays_calls s (found_after s k) (calls_of s k) e in
    record { place = h.place ∙ sym p; station = rw c h.station; ended = λ _. rw p e }

at_next : (s : List ℕ) (k : ℕ) (r : Run) → At s k r → At s (suc k) (advanced s r)
unfolding advanced
at_next s k r h = go r.more refl
  where
    go : (b : Bool) → r.more ≡ b → At s (suc k) (pick b (stepped s r) r)
    go true e = at_step s k r h
    go false e = at_stays s k r h e

runs_on : (s : List ℕ) (j k m : ℕ) (r : Run) → k + j ≡ m → At s k r → At s m (run_after j s r)
unfolding run_after
runs_on s zero k m r e h = let z : k ≡ m = omega (arith, e) in rw z at h
runs_on s (suc j) k m r e h = runs_on s j (suc k) m (advanced s r) (omega (arith, e)) (at_next s k r h)

-- after k steps the run stands behind the first k records, and its station is that of their calls
pub run_at : (s : List ℕ) (k : ℕ) → At s k (run_after k s begun)
unfolding begun place_of calls_of after
run_at s k =
    let first : At s 0 begun = record { place = refl; station = refl; ended = λ e. let w : ◌≡◌ {A = ℕ} 0 1 = cc in absurd (omega arith) } in
    runs_on s k 0 k begun (omega arith) first
