-- The demands, over every history of calls.
use borrow.Author.Tests.{ltb-true, eqb-true, not-false}
use Prim.Native.Nat.{ℕ}
use mathlib.Core.Path.{◌≡◌, refl, ap, ap₂, ◌∙◌}
use mathlib.Core.List.{List, [], ◌∷◌, map}
use lib.ListN.{length}
use Rattle.lists.specs.Lists.{All}
use Rattle.lists.proofs.Each.{all_at, all_image}
use Rattle.parity_rules.specs.Messages.{AreBytes}
use Rattle.frames_rules.specs.Formats.{length_of}
use Rattle.planner_rules.specs.declared.request.Request.{Request}
use Rattle.planner_rules.specs.declared.request.Ask.{Ask}
use Rattle.planner_rules.proofs.Demand3.{demand3, left_each}
use Rattle.station_rules.specs.declared.state.Station.{Station}
use Rattle.station_rules.specs.declared.state.Targets.{Targets}
use Rattle.station_rules.specs.State.{requests_of, entries_of, no_entry}
use Rattle.station_rules.specs.Planning.{ask_for, request_of, asked, board_for, next_plan}
use Rattle.station_rules.specs.Replies.{expected, Received, entry_for, request_for, start_for, open_checks, entry_checks, replied}
use Rattle.station_rules.specs.History.{Call, after}
use Rattle.station_rules.specs.Kept.{Entered, Kept}
use Rattle.station_rules.specs.Demands.{Demand1, Ages, Believed, InTime, Plans}
use Rattle.station_rules.proofs.Came.{refusal_changes_nothing, refused_reply_writes_nothing, taken}
use Rattle.station_rules.proofs.Keeping.{proper, plan_shows, plan_leaves, always_kept}
use Rattle.station_rules.proofs.Numbers.{numbers}
use Rattle.station_rules.proofs.Ages.{report_is}
use Rattle.station_rules.proofs.Replies.{believed}
use Rattle.station_rules.proofs.Windows.{in_time}

-- demand 1
pub demand1 : (cs : List Call) → Demand1 cs
demand1 cs =
    record {
      numbers = numbers cs;
      unchanged = refusal_changes_nothing (after cs);
      unwritten = refused_reply_writes_nothing (after cs);
    }

-- demand 2, ages
pub ages : (cs : List Call) → Ages cs
ages cs = record { told = report_is cs }

-- demand 2, replies
pub replies : (cs : List Call) (r : Received) → AreBytes r.message → (replied (after cs) r).number ≡ 0 → Believed (after cs) r (replied (after cs) r)
replies cs r bytes e = believed (after cs) r bytes e

-- in every history a reply that is taken begins and ends in the listening window of its entry, and the delay told is its own
pub taken_in_time : (cs : List Call) (r : Received) → (replied (after cs) r).number ≡ 0
    → InTime (entry_for (after cs) r) (start_for (after cs) r) r.message (replied (after cs) r).delay
unfolding entry_checks open_checks
taken_in_time cs r e =
    let t = taken (after cs) r e in
    let p = t.passed in
    let l = ltb-true r.entry (length (entries_of (after cs).plan)) (not-false _ (p.off 7)) in
    let entered = all_at (Entered (after cs).targets) (entries_of (after cs).plan) no_entry r.entry (always_kept cs).entries l in
    rw t.is
    (in_time (entry_for (after cs) r) (start_for (after cs) r) r.message entered.0
    (eqb-true (length r.message) (length_of (expected (request_for (after cs) r))) (not-false _ (p.off 9))) (not-false _ (p.off 10)))

-- ---- demand 3
-- what is left waits with near and far of its target, as it was asked
abbrev Same : Targets → Ask → Type 0
Same t a = ask_for t a.request ≡ a

same_back : (t : Targets) (v : List Ask) → All (Same t) v → map (ask_for t) (map request_of v) ≡ v
unfolding All
same_back t [] h = refl
same_back t (a ∷ v) h = ap₂ (λ (x : Ask) (l : List Ask). x ∷ l) h.0 (same_back t v h.1)

pub left_back : (s : Station) → Kept s → (tag : ℕ) → map (ask_for s.targets) (requests_of (next_plan s tag).waiting) ≡ (board_for s).waiting
unfolding board_for asked All
left_back s h tag =
    ap (map (ask_for s.targets)) (plan_leaves s tag)
    ∙ same_back s.targets (board_for s).waiting
    (left_each s.setup h.shares (asked s) (Same s.targets)
    (all_image (ask_for s.targets) (λ (q : Request). Same s.targets (ask_for s.targets q)) (Same s.targets) (λ q k. k)
    (requests_of s.waiting) (each (requests_of s.waiting))))
  where
    each : (v : List Request) → All (λ (q : Request). Same s.targets (ask_for s.targets q)) v
    each [] = tt
    each (q ∷ v) = (refl, each v)

pub plans : (cs : List Call) → Plans cs
unfolding board_for
plans cs =
    record {
      demand =
          λ tag. rw (plan_shows (after cs) tag, left_back (after cs) (always_kept cs) tag)
          (demand3 (after cs).setup (always_kept cs).shares (asked (after cs)) (proper (after cs) (always_kept cs)));
    }
