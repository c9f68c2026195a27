-- What is certain of the station's replies, in every history.
use mathlib.Core.Path.{◌≡◌, refl, ap, subst}
use mathlib.Core.List.{List, map}
use Prim.Native.Nat.{ℕ}
use native.Mathlib.Omega.{arith}
use Rattle.lists.specs.Lists.{Among}
use Rattle.lists.specs.Checks.{Check}
use Rattle.planner_rules.specs.declared.setup.Setup.{Setup}
use Rattle.station_rules.specs.declared.state.Station.{Station}
use Rattle.station_rules.specs.Replies.{Received, request_for, open_checks, entry_checks, replied}
use Rattle.station_rules.specs.History.{Call, after}
use Rattle.station_rules.specs.Seen.{setup_seen}
use Rattle.station_rules.proofs.Setups.{setup_seen_is}
use Rattle.station_rules.proofs.Keeping.{always_kept}
use Rattle.station_rules.proofs.Numbers.{limit_in}
use Rattle.station_rules.proofs.Replies.{doubt_is, entered_by, reply_sized, taken_with}
use Rattle.certain.specs.Certain.{Certain, InLimit, sent_back}
use Rattle.certain.specs.Replies.{before_correction, RepliesCertain}

-- the checks before the correction are those of these numbers
before_are : (s : Station) (r : Received) → map (λ (c : Check). c.number) (entry_checks s r) ≡ before_correction
unfolding entry_checks open_checks
before_are s r = refl

pub replies_certain : (n k : ℕ) → Certain n k → (cs : List Call) → RepliesCertain n k cs
replies_certain n k certain cs =
    let s = after cs in
    let limit_is : s.setup.limit ≡ (setup_seen cs).limit = ap (λ (h : Setup). h.limit) (setup_seen_is cs) in
    record {
      undoubted = λ r l h e.
          certain.undoubted r.message r.marks (request_for s r).address _ r.buffers l (omega (arith, limit_is)) (doubt_is s r e);
      sent = λ r frame l bytes few low fits format other.
          let z = entered_by s r (λ a. other (subst (Among (replied s r).number) (before_are s r) a)) in
          let in_limit : InLimit r.message r.marks s.setup.limit r.buffers =
          record { lengths = reply_sized s r z; most = limit_in s.setup (always_kept cs).shares; few = omega (arith, limit_is) } in
          taken_with s r z (sent_back r.message frame)
          (certain.sent r.message r.marks (request_for s r).address s.setup.limit r.buffers frame l bytes in_limit (omega arith) fits)
          refl format;
    }
