-- A run ends, takes each byte at most once, and writes the transcript.
use Prim.Native.Nat.{ℕ, zero, suc, ◌+◌, ◌-◌, ◌%◌, ◌^◌, ◌≤◌, ◌<◌}
use native.Mathlib.Nat.{mod-eq_of_lt}
use native.Mathlib.Omega.{arith}
use mathlib.Core.Path.{◌≡◌, refl, sym, ap, ◌∙◌}
use mathlib.Core.Bool.{Bool, true, false}
use mathlib.Core.List.{List, [], ◌++◌, append-nil, append_assoc}
use lib.ListN.{length, get_or, take, length-take}
use borrow.Author.Tests.{leb-false}
use Rattle.lists.specs.Lists.{pick}
use Rattle.reader_rules.specs.declared.reading.Found.{Found}
use Rattle.reader_rules.specs.declared.reading.Found.TheVariants.{End, Unknown, Cut, Whole}
use Rattle.reader_rules.specs.Records.{body_length, record_at, next_place}
use Rattle.reader_rules.proofs.Steps.{whole_fits, past_end}
use Rattle.station_rules.specs.declared.state.Station.{Station}
use Rattle.stream_rules.specs.declared.run.Run.{Run}
use Rattle.stream_rules.specs.Run.{obeyed_at, goes_on, text_from, transcript, begun, obeyed_now, lines_now, stepped, advanced, written, run_after, room}
use Rattle.stream_rules.specs.Run.{longest, is_full, written_late}

-- ---- a step takes each byte at most once

-- where the run goes on after a place: past the byte of kind and the body that stand there, and not beyond the end of the stream
pub record Taken (s : List ℕ) (at next : ℕ) : Type 0 where
  pub own : next ≡ at + 1 + body_length (get_or s at 0)
  pub forward : at < next
  pub inside : next ≤ length s

pub taken_by : (s : List ℕ) (at : ℕ) (f : Found) → record_at s at ≡ f → goes_on f ≡ true → Taken s at (next_place f at)
unfolding goes_on next_place
taken_by s at End h e = let z : ◌≡◌ {A = ℕ} 0 1 = cc in absurd (omega arith)
taken_by s at (Unknown b) h e = let z : ◌≡◌ {A = ℕ} 0 1 = cc in absurd (omega arith)
taken_by s at (Cut kind) h e = let z : ◌≡◌ {A = ℕ} 0 1 = cc in absurd (omega arith)
taken_by s at (Whole kind body next) h e =
    let w = whole_fits s at h in
    let b : body_length kind ≡ body_length (get_or s at 0) = ap body_length w.kind in
    record { own = omega (arith, w.body, w.next, b); forward = omega (arith, w.body, w.next); inside = w.inside }

pub stays_by : (f : Found) (at : ℕ) → goes_on f ≡ false → next_place f at ≡ at
unfolding goes_on next_place
stays_by End at e = refl
stays_by (Unknown b) at e = refl
stays_by (Cut kind) at e = refl
stays_by (Whole kind body next) at e = let z : ◌≡◌ {A = ℕ} 0 1 = cc in absurd (omega arith)

-- a step that goes on takes the record's own bytes, which no later step takes again; one that does not go on takes nothing
pub takes_once : (s : List ℕ) (r : Run) → r.more ≡ true → (advanced s r).more ≡ true → Taken s r.at (advanced s r).at
unfolding advanced stepped
takes_once s r m = rw m (λ e. taken_by s r.at (record_at s r.at) refl e)

pub ends_there : (s : List ℕ) (r : Run) → r.more ≡ true → (advanced s r).more ≡ false → (advanced s r).at ≡ r.at
unfolding advanced stepped
ends_there s r m = rw m (λ e. stays_by (record_at s r.at) r.at e)

-- ---- a run that has ended stays ended: a step lays nothing and changes nothing

pub stays_ended : (s : List ℕ) (r : Run) → r.more ≡ false → advanced s r ≡ r
unfolding advanced
stays_ended s r e = rw e

pub lays_nothing : (s : List ℕ) (r : Run) → r.more ≡ false → lines_now s r ≡ []
unfolding lines_now
lays_nothing s r e = rw e

pub all_ended : (k : ℕ) (s : List ℕ) (r : Run) → r.more ≡ false → run_after k s r ≡ r
unfolding run_after
all_ended zero s r e = refl
all_ended (suc k) s r e = rw (stays_ended s r e) (all_ended k s r e)

pub writes_nothing : (k : ℕ) (s : List ℕ) (r : Run) → r.more ≡ false → written k s r ≡ []
unfolding written
writes_nothing zero s r e = refl
writes_nothing (suc k) s r e = rw (lays_nothing s r e, stays_ended s r e) (writes_nothing k s r e)

-- ---- a run ends: the bytes left fall with each step, and the step that finds no whole record is the last

-- the bytes from the run's place on, and one more while it goes on
abbrev pub left : List ℕ → Run → ℕ
left s r = (length s - r.at) + pick r.more 1 0

by_test : (s : List ℕ) (at : ℕ) (f : Found) (b : Bool) → record_at s at ≡ f → goes_on f ≡ b → (length s - next_place f at) + pick b 1 0 < (length s - at) + 1
by_test s at f true h e = let t = taken_by s at f h e in omega (arith, t.forward, t.inside)
by_test s at f false h e = omega (arith, stays_by f at e)

pub falls : (s : List ℕ) (r : Run) → r.more ≡ true → left s (advanced s r) < left s r
unfolding advanced stepped
falls s r m = rw m (by_test s r.at (record_at s r.at) (goes_on (record_at s r.at)) refl refl)

pub steps_end : (k : ℕ) (s : List ℕ) (r : Run) → left s r ≤ k → (run_after k s r).more ≡ false
unfolding run_after
steps_end zero s r h = go r.more refl
  where
    go : (b : Bool) → r.more ≡ b → r.more ≡ false
    go true e = let z : (length s - r.at) + 1 ≤ 0 = rw e at h in absurd (omega arith)
    go false e = e
steps_end (suc k) s r h = go r.more refl (steps_end k s (advanced s r))
  where
    go : (b : Bool) → r.more ≡ b → (left s (advanced s r) ≤ k → (run_after k s (advanced s r)).more ≡ false) → (run_after k s (advanced s r)).more ≡ false
    go true e later = later (omega (arith, falls s r e, h))
    go false e later = rw (stays_ended s r e, all_ended k s r e) e

-- the run ends for every input
pub the_run_ends : (input : List ℕ) → (run_after 65537 (take 65536 input) begun).more ≡ false
unfolding begun
the_run_ends input = steps_end 65537 (take 65536 input) begun (simp length-take (omega arith))

-- ---- more steps than bytes print nothing more

-- the text of what stands at a place and of what follows
abbrev onward : ℕ → List ℕ → ℕ → ℕ → Station → Found → Bool → List ℕ
onward k s at n st f b = (obeyed_at s n st f).lines ++ pick b (text_from k s (next_place f at) (n + 1) (obeyed_at s n st f).station) []

same_onward : (j k : ℕ) (s : List ℕ) (at n : ℕ) (st : Station)
    → ((to m : ℕ) (after : Station) → length s < to + j → length s < to + k → text_from j s to m after ≡ text_from k s to m after)
    → (f : Found) (b : Bool) → record_at s at ≡ f → goes_on f ≡ b → length s < at + suc j → length s < at + suc k → onward j s at n st f b ≡ onward k s at n st
    f b
same_onward j k s at n st later f false h e x y = refl
same_onward j k s at n st later f true h e x y =
    let t = taken_by s at f h e in
    rw (later (next_place f at) (n + 1) (obeyed_at s n st f).station (omega (arith, t.forward)) (omega (arith, t.forward)))

pub enough : (j k : ℕ) (s : List ℕ) (at n : ℕ) (st : Station) → length s < at + j → length s < at + k → text_from j s at n st ≡ text_from k s at n st
unfolding text_from goes_on obeyed_at
enough zero zero s at n st a b = refl
enough zero (suc k) s at n st a b = rw (past_end s at (omega arith))
enough (suc j) zero s at n st a b = rw (past_end s at (omega arith))
enough (suc j) (suc k) s at n st a b = same_onward j k s at n st (enough j k s) (record_at s at) (goes_on (record_at s at)) refl refl a b

-- ---- the steps write the transcript

-- the record's number is at most one more than the run's place, which is within the stream
pub record Sound (s : List ℕ) (r : Run) : Type 0 where
  pub counted : r.n ≤ r.at + 1
  pub inside : r.at ≤ length s

-- what follows a step, by whether the run goes on
follow : (k : ℕ) (s : List ℕ) (r q : Run) (b : Bool) → q ≡ stepped s r → goes_on (record_at s r.at) ≡ b → length s ≤ 65536 → Sound s r
    → ((q : Run) → Sound s q → q.more ≡ true → written k s q ≡ text_from k s q.at q.n q.station)
    → written k s q ≡ pick b (text_from k s (next_place (record_at s r.at) r.at) (r.n + 1) (obeyed_now s r).station) []
unfolding stepped
follow k s r q false d e small ok later = writes_nothing k s q (ap (λ (x : Run). x.more) d ∙ e)
follow k s r q true d e small ok later =
    let plain : (r.n + 1) % 2 ^ 32 ≡ r.n + 1 = mod-eq_of_lt (omega (arith, ok.counted, ok.inside)) in
    let t = taken_by s r.at (record_at s r.at) refl e in
    rw d
    (later (stepped s r) (record { counted = rw plain (omega (arith, t.forward, ok.counted)); inside = t.inside }) e ∙ rw plain)

-- what k steps write of a run that goes on is the text of k records
pub steps_write : (k : ℕ) (s : List ℕ) (r : Run) → length s ≤ 65536 → Sound s r → r.more ≡ true → written k s r ≡ text_from k s r.at r.n r.station
unfolding written text_from lines_now obeyed_now advanced stepped
steps_write zero s r small ok m = refl
steps_write (suc k) s r small ok m =
    rw m
    (ap (λ (t : List ℕ). (obeyed_now s r).lines ++ t)
    (follow k s r (stepped s r) (goes_on (record_at s r.at)) refl refl small ok (λ q y z. steps_write k s q small y z)))

-- the steps, one after the other, write exactly the transcript
pub the_transcript : (input : List ℕ) → written 65537 (take 65536 input) begun ≡ transcript input
unfolding transcript begun
the_transcript input = steps_write 65537 (take 65536 input) begun (simp length-take (omega arith)) (record { counted = omega arith; inside = omega arith }) refl

-- ---- lines held back come out whole and in order

-- where the buffer is not full, the lines of one record more fit behind those held
pub not_full : (held : ℕ) → is_full held ≡ false → held + longest < room
unfolding is_full
not_full held e = let z : held < 988 = leb-false 988 held e in omega arith

pub late_same : (k : ℕ) (s : List ℕ) (r : Run) (held : List ℕ) → written_late k s r held ≡ held ++ written k s r
unfolding written_late written
late_same zero s r held = sym (append-nil held)
late_same (suc k) s r held = go (is_full (length held)) (late_same k s (advanced s r))
  where
    go : (b : Bool) → ((h : List ℕ) → written_late k s (advanced s r) h ≡ h ++ written k s (advanced s r))
        → pick b (held ++ written_late k s (advanced s r) (lines_now s r))
        (written_late k s (advanced s r) (held ++ lines_now s r)) ≡ held ++ (lines_now s r ++ written k s (advanced s r))
    go true later = ap (λ (t : List ℕ). held ++ t) (later (lines_now s r))
    go false later = later (held ++ lines_now s r) ∙ append_assoc held (lines_now s r) (written k s (advanced s r))

-- so a program that holds them back writes the transcript too
pub the_transcript_late : (input : List ℕ) → written_late 65537 (take 65536 input) begun [] ≡ transcript input
the_transcript_late input = late_same 65537 (take 65536 input) begun [] ∙ the_transcript input
