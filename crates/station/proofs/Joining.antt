-- How the planner's answer becomes the station's parts.
use Rattle.std.proofs.Common.{◌≡◌, ℕ, List, map, length, take, ap, ◌∙◌}
use Rattle.lists.specs.Lists.{over}
use Rattle.lists.proofs.Over.{take_over}
use Rattle.planner_rules.specs.declared.request.Ask.{Ask}
use Rattle.planner_rules.specs.declared.request.Asks.{Asks}
use Rattle.planner_rules.specs.declared.plan.Planned.{Planned}
use Rattle.planner_rules.specs.Plan.{plan, in_slots, asks_of}
use Rattle.station_rules.specs.declared.state.Targets.{Targets}
use Rattle.station_rules.specs.declared.state.Waiting.{Waiting}
use Rattle.station_rules.specs.declared.state.Station.{Station}
use Rattle.station_rules.specs.State.{requests_of, waiting_as, targets_older}
use Rattle.station_rules.specs.Planning.{ask_for, request_of, asked, asks_as, board_for, next_plan}

asks_are : (s : Station) (w : Asks) → w ≡ asks_as (map (ask_for s.targets) (requests_of s.waiting)) → asks_of w ≡ asked s
unfolding asked
asks_are s w e = ap (λ (v : Asks). asks_of v) e ∙ take_over (map (ask_for s.targets) (requests_of s.waiting)) _

module _ (s : Station) (tag : ℕ) (w : Asks) (b : Planned) (still : Waiting) (aged : Targets)
    (ew : w ≡ asks_as (map (ask_for s.targets) (requests_of s.waiting)))
    (eb : b ≡ in_slots (plan s.setup (asks_of w)) s.plan.list w.list)
    (es : still ≡ waiting_as (map request_of (take b.waiting b.asks)) s.waiting) (ea : aged ≡ targets_older s.targets) where
  pub plan_is : ◌≡◌ {A = Station}
      (record { targets = aged; waiting = still; plan = record { list = b.entries; n = b.placed; tag = tag }; setup = s.setup }) (next_plan s tag)
  unfolding next_plan board_for
  plan_is =
      let q : b ≡ in_slots (board_for s) s.plan.list w.list = eb ∙ ap (λ (v : List Ask). in_slots (plan s.setup v) s.plan.list w.list)
      (asks_are s w ew) in
      let t : take b.waiting b.asks ≡ (board_for s).waiting = ap (λ (x : Planned). take x.waiting x.asks) q ∙ take_over (board_for s).waiting
      w.list in
      let e1 : b.entries ≡ over (board_for s).placed s.plan.list = ap (λ (x : Planned). x.entries) q in
      let e2 : b.placed ≡ length (board_for s).placed = ap (λ (x : Planned). x.placed) q in
      let e3 : still ≡ waiting_as (map request_of (board_for s).waiting) s.waiting = es ∙ ap (λ (v : List Ask). waiting_as (map request_of v) s.waiting) t in
      rw (ea, e3, e1, e2)
