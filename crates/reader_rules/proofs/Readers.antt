-- A reader made at a place finds what stands there; a whole record moves it to the place after that record, and anything else leaves it where it is.
use Prim.Native.Nat.{ℕ, zero, suc, ◌+◌, ◌≤◌}
use native.Mathlib.Omega.{arith}
use mathlib.Core.Path.{◌≡◌, refl, ap}
use mathlib.Core.List.{List}
use lib.ListN.{length}
use denote.Ref.{Bor}
use Rattle.reader_rules.specs.declared.reader.Reader.{Reader}
use Rattle.reader_rules.specs.declared.reading.Found.{Found}
use Rattle.reader_rules.specs.declared.reading.Found.TheVariants.{End, Unknown, Cut, Whole}
use Rattle.reader_rules.specs.Records.{body_length, record_at, next_place}
use Rattle.reader_rules.specs.Readers.{reader_at, found_by, said_by, moved_on, moved_by}
use Rattle.reader_rules.specs.Answers.{found_said, said_at}
use Rattle.reader_rules.proofs.Steps.{whole_fits}

pub found_there : (s : Bor (List ℕ)) (at : ℕ) → found_by (reader_at s at) ≡ record_at s.now at
found_there s at = refl

-- and that is what it answers
pub said_by_found : (r : Reader) → said_by r ≡ found_said (found_by r)
unfolding said_at
said_by_found r = refl

-- ---- the reader goes on, in the same stream
pub stream_kept : (k : ℕ) (r : Reader) → (moved_by k r).stream ≡ r.stream
stream_kept zero r = refl
stream_kept (suc k) r = stream_kept k (moved_on r)

by_found : (r : Reader) (f : Found) → found_by r ≡ f → moved_on r ≡ reader_at r.stream (next_place f r.place)
by_found r f e = ap (λ (x : Found). reader_at r.stream (next_place x r.place)) e

-- past the byte of kind and the body of a whole record, and never beyond the end
pub record Past (r : Reader) (kind next : ℕ) : Type 0 where
  pub there : (moved_on r).place ≡ next
  pub own : (moved_on r).place ≡ r.place + 1 + body_length kind
  pub inside : (moved_on r).place ≤ length r.stream.now

pub whole_moves : (r : Reader) {kind body next : ℕ} → found_by r ≡ Whole kind body next → Past r kind next
unfolding next_place
whole_moves r {kind} {body} {next} e =
    let f = whole_fits r.stream.now r.place e in
    let p : (moved_on r).place ≡ next = ap (λ (x : Reader). x.place) (by_found r (Whole kind body next) e) in
    record { there = p; own = omega (arith, p, f.body, f.next); inside = omega (arith, p, f.inside) }

-- where there is no whole record it stays
pub end_stays : (r : Reader) → found_by r ≡ End → moved_on r ≡ r
unfolding next_place
end_stays r e = by_found r End e

pub unknown_stays : (r : Reader) {b : ℕ} → found_by r ≡ Unknown b → moved_on r ≡ r
unfolding next_place
unknown_stays r {b} e = by_found r (Unknown b) e

pub cut_stays : (r : Reader) {kind : ℕ} → found_by r ≡ Cut kind → moved_on r ≡ r
unfolding next_place
cut_stays r {kind} e = by_found r (Cut kind) e
