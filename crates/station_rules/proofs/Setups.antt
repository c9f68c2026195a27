-- The setup in force is that of the newest setup that was answered 0: no other call changes it.
use mathlib.Core.Path.{◌≡◌, refl, ap, ◌∙◌}
use mathlib.Core.List.{List, [], ◌∷◌}
use lib.Dec.{eqb}
use borrow.Author.Tests.{ne_eqb}
use Rattle.lists.specs.Lists.{pick}
use Rattle.lists.proofs.Checks.{CameTo, was_refused, was_done}
use Rattle.planner_rules.specs.declared.setup.Setup.{Setup}
use Rattle.station_rules.specs.declared.state.Station.{Station}
use Rattle.station_rules.specs.Answers.{Outcome}
use Rattle.station_rules.specs.State.{emptied}
use Rattle.station_rules.specs.Calls.{leaves, refused, without}
use Rattle.station_rules.specs.Planning.{next_plan}
use Rattle.station_rules.specs.Replies.{after_reply}
use Rattle.station_rules.specs.History.{Call, setup, new, remove, move, request, plan, reply, report, answer, after, checks_of, next}
use Rattle.station_rules.specs.Seen.{setup_by, setup_seen}
use Rattle.station_rules.proofs.Came.{came}

setup_next : (s : Station) (c : Call) → (next s c).setup ≡ setup_by s.setup c
unfolding emptied without next_plan after_reply
setup_next s (setup h) = refl
setup_next s (new a near far) = refl
setup_next s (remove a) = refl
setup_next s (move a near far) = refl
setup_next s (request q) = refl
setup_next s (plan tag) = refl
setup_next s (reply r) = refl
setup_next s (report a) = refl

setup_after : (s : Station) (c : Call) → (answer s c).station.setup ≡ pick (eqb (answer s c).number 0) (setup_by s.setup c) s.setup
setup_after s c = go (answer s c) (came s c)
  where
    go : (r : Outcome) → CameTo (checks_of s c) (refused s) (leaves (next s c)) r
        → r.station.setup ≡ pick (eqb r.number 0) (setup_by s.setup c) s.setup
    go r (was_refused x m k g q) = rw (q, ne_eqb x.number 0 m)
    go r (was_done k g q) = rw q (setup_next s c)

pub setup_seen_is : (cs : List Call) → (after cs).setup ≡ setup_seen cs
unfolding after setup_seen
setup_seen_is [] = refl
setup_seen_is (c ∷ cs) =
    setup_after (after cs) c ∙ ap (λ (h : Setup). pick (eqb (answer (after cs) c).number 0) (setup_by h c) h) (setup_seen_is cs)
