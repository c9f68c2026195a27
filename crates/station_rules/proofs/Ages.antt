-- Demand 2, ages: the value in a report, and its age, are what the history says: the last one said since the target came, and the plans since.
use borrow.Author.Tests.{eqb-true, eqb-false, eq-eqb, ne_eqb, ltb-true, ltb-false, not-false}
use Prim.Native.Nat.{ℕ, suc, ◌+◌, min}
use native.Mathlib.Omega.{arith}
use mathlib.Core.Path.{◌≡◌, refl, sym, ap, subst, ◌∙◌}
use mathlib.Core.List.{List, [], ◌∷◌, ◌++◌, map}
use mathlib.Core.Bool.{Bool, true, false, not, ◌&&◌, true≢false, false≢true}
use lib.ListN.{get_or, set}
use lib.Dec.{eqb, ltb}
use Rattle.std.specs.Prelude.{Option, Some, None}
use Rattle.lists.specs.Lists.{pick, filter}
use Rattle.lists.proofs.Checks.{Passed, CameTo, was_refused, was_done, came_to}
use Rattle.lists.proofs.Each.{image_set, image_at, image_through}
use Rattle.planner_rules.specs.declared.request.Ask.{Ask}
use Rattle.planner_rules.specs.declared.entry.Status.TheVariants.{Answered}
use Rattle.planner_rules.specs.declared.setup.Setup.{Setup}
use Rattle.planner_rules.specs.Demand3.{ask_of}
use Rattle.station_rules.specs.declared.state.Heard.{Heard}
use Rattle.station_rules.specs.declared.state.Target.{Target}
use Rattle.station_rules.specs.declared.state.Targets.{Targets}
use Rattle.station_rules.specs.declared.state.Station.{Station}
use Rattle.station_rules.specs.Answers.{Outcome, Report}
use Rattle.station_rules.specs.State.{targets_of, targets_as, is_at, place_in, in_list, fresh, with_edges, with_ac, with_id, target_at, age_after, value_after}
use Rattle.station_rules.specs.State.{older, heard}
use Rattle.station_rules.specs.State.{entries_of, withdrawn, with_status, no_ask, no_entry, emptied, before_setup}
use Rattle.station_rules.specs.Calls.{refused, leaves, new_target_checks, with_new, held_checks, without, move_checks, with_moved, not_reported, report_held}
use Rattle.station_rules.specs.Calls.{reported}
use Rattle.station_rules.specs.Planning.{next_plan}
use Rattle.station_rules.specs.Replies.{holds_id, expected, said_in, targets_heard, entry_numbered, request_numbered, value_in, after_reply, Replied, corrected}
use Rattle.station_rules.specs.History.{Call, setup, new, remove, move, request, plan, reply, report, answer, after, checks_of, next}
use Rattle.station_rules.specs.Seen.{Effect, spoke, none, effect, seen_as, events, asks_after, in_force, Kind, AC, ID, Said, never, said, one_plan_more}
use Rattle.station_rules.specs.Seen.{draws, is_from}
use Rattle.station_rules.specs.Seen.{said_after, last_said, shown, report_of}
use Rattle.station_rules.proofs.Lookup.{has, look, Tells, tells_none, tells_new, tells_removed, tells_put, tells_changed}
use Rattle.station_rules.proofs.Came.{came, passed_is}
use Rattle.station_rules.proofs.Keeping.{targets_are, entries_are, address_of_is, said_address, heard_list}

-- ---- a history, call by call: a refused call does nothing
-- what a call does is seen where it is done, and nothing is seen where it is refused
pub effect_seen : (s : Station) (c : Call) (Q : Station → Effect → Type 0) → Q s none → (Passed (checks_of s c) → Q (next s c) (effect s c))
    → Q (answer s c).station (seen_as (answer s c).number (effect s c))
effect_seen s c Q q d = go (answer s c) (came s c)
  where
    go : (r : Outcome) → CameTo (checks_of s c) (refused s) (leaves (next s c)) r → Q r.station (seen_as r.number (effect s c))
    go r (was_refused x z e g w) = subst (λ (a : Outcome). Q a.station (seen_as a.number (effect s c))) (sym w) (rw (ne_eqb x.number 0 z) q)
    go r (was_done p z w) = subst (λ (a : Outcome). Q a.station (seen_as a.number (effect s c))) (sym w) (d p)

-- ---- the plan in force, by the station and by what was seen
abbrev pub Force : Station → List Ask → Type 0
Force s f = map ask_of (entries_of s.plan) ≡ f

nothing_asked : (h : Setup) (s : Station) → Force (emptied h s) []
unfolding emptied
nothing_asked h s = refl

module _ (s : Station) (f : List Ask) (h : Force s f) where
  without_force : (a : ℕ) → Force (without a s) f
  unfolding without
  without_force a =
      ap (map ask_of) (entries_are (map (withdrawn a) (entries_of s.plan)) s.plan)
      ∙ image_through ask_of (withdrawn a) (λ e. refl) (entries_of s.plan)
      ∙ h

  heard_force : (k : ℕ) (m : List ℕ) → Force (after_reply k m s) f
  unfolding after_reply
  heard_force k m =
      ap (map ask_of) (entries_are (set (entries_of s.plan) k (with_status Answered (get_or (entries_of s.plan) k no_entry))) s.plan)
      ∙ image_set ask_of (entries_of s.plan) k no_entry (with_status Answered (get_or (entries_of s.plan) k no_entry)) refl
      ∙ h

  force_done : (c : Call) → Force (next s c) (asks_after (effect s c) f)
  force_done (setup x) = nothing_asked x s
  force_done (new a near far) = h
  force_done (remove a) = without_force a
  force_done (move a near far) = h
  force_done (request q) = h
  force_done (plan tag) = refl
  force_done (reply r) = heard_force r.entry (corrected s r).buffers.output
  force_done (report a) = h

pub in_force_is : (cs : List Call) → Force (after cs) (in_force (events cs))
unfolding after events in_force emptied before_setup
in_force_is [] = nothing_asked before_setup.setup before_setup
in_force_is (c ∷ cs) =
    let f = in_force (events cs) in
    effect_seen (after cs) c (λ s e. Force s (asks_after e f)) (in_force_is cs) (λ p. force_done (after cs) f (in_force_is cs) c)

-- ---- values and ages
abbrev pub value_of : Kind → Target → Option Heard
value_of AC t = t.ac
value_of ID t = t.id

-- one plan more
aged : (n : ℕ) → age_after (min n 65535) ≡ min (suc n) 65535
aged n = go (ltb (min n 65535) 65535) refl
  where
    go : (b : Bool) → ltb (min n 65535) 65535 ≡ b → pick b (min n 65535 + 1) (min n 65535) ≡ min (suc n) 65535
    go true e = omega (arith, ltb-true (min n 65535) 65535 e)
    go false e = omega (arith, ltb-false (min n 65535) 65535 e)

older_value : (i : Kind) (t : Target) → value_of i (older t) ≡ value_after (value_of i t)
older_value AC t = refl
older_value ID t = refl

older_shown : (x : Said) → value_after (shown x) ≡ shown (one_plan_more x)
older_shown never = refl
older_shown (said v n) = ap (heard v) (aged n)

-- what a reply says of the kind that it carries, and of the other
said_value : (i : Kind) (f v : ℕ) (t : Target) → draws i (holds_id f) ≡ true → value_of i (said_in f v t) ≡ shown (said v 0)
said_value i f v t e = go i (holds_id f) e
  where
    go : (i : Kind) (b : Bool) → draws i b ≡ true → value_of i (pick b (with_id (heard v 0) t) (with_ac (heard v 0) t)) ≡ shown (said v 0)
    go ID true e = refl
    go ID false e = absurd (false≢true e)
    go AC true e = absurd (false≢true e)
    go AC false e = refl

said_other : (i : Kind) (f v : ℕ) (t : Target) → draws i (holds_id f) ≡ false → value_of i (said_in f v t) ≡ value_of i t
said_other i f v t e = go i (holds_id f) e
  where
    go : (i : Kind) (b : Bool) → draws i b ≡ false → value_of i (pick b (with_id (heard v 0) t) (with_ac (heard v 0) t)) ≡ value_of i t
    go ID true e = absurd (true≢false e)
    go ID false e = refl
    go AC true e = refl
    go AC false e = absurd (true≢false e)

edges_value : (i : Kind) (near far : ℕ) (t : Target) → value_of i (with_edges near far t) ≡ value_of i t
edges_value AC near far t = refl
edges_value ID near far t = refl

fresh_value : (i : Kind) (a near far : ℕ) → value_of i (fresh a near far) ≡ shown never
fresh_value AC a near far = refl
fresh_value ID a near far = refl

-- ---- the station agrees with what was said, for each target that it holds
abbrev pub Agree : Kind → ℕ → List Target → Said → Type 0
Agree i a ts x = Tells (value_of i) a ts (shown x)

-- what was said is gone with its address, and stays with another
gone : (a b : ℕ) (x : Said) → b ≡ a → shown (pick (eqb b a) never x) ≡ shown never
gone a b x e = rw (eq-eqb b a e)

kept : (a b : ℕ) (x : Said) → (b ≡ a → ⊥) → shown x ≡ shown (pick (eqb b a) never x)
kept a b x n = rw (ne_eqb b a n)

module _ (i : Kind) (a : ℕ) where
  agree_new : (ts : List Target) (x : Said) (b near far : ℕ) → has b ts ≡ false → Agree i a ts x
      → Agree i a (ts ++ (fresh b near far ∷ [])) (pick (eqb b a) never x)
  agree_new ts x b near far n h =
      tells_new (value_of i) a ts (shown x) (shown (pick (eqb b a) never x)) (fresh b near far) n
      (λ e. fresh_value i b near far ∙ sym (gone a b x e)) (kept a b x) h

  agree_remove : (ts : List Target) (x : Said) (b : ℕ) → Agree i a ts x → Agree i a (filter (λ (t : Target). not (is_at b t)) ts) (pick (eqb b a) never x)
  agree_remove ts x b h = tells_removed (value_of i) a ts (shown x) (shown (pick (eqb b a) never x)) b (kept a b x) h

  -- the target of b is replaced
  agree_put : (ts : List Target) (x x' : Said) (b : ℕ) (y : Target) → y.address ≡ b → has b ts ≡ true → (b ≡ a → value_of i y ≡ shown x')
      → ((b ≡ a → ⊥) → x' ≡ x) → Agree i a ts x → Agree i a (set ts (place_in ts b) y) x'
  agree_put ts x x' b y same m at off h = tells_put (value_of i) a ts (shown x) (shown x') b y same m at (λ n. ap shown (sym (off n))) h

  agree_plan : (ts : List Target) (x : Said) → Agree i a ts x → Agree i a (map older ts) (one_plan_more x)
  agree_plan ts x h =
      tells_changed (value_of i) a older (λ t. refl) ts (shown x) (shown (one_plan_more x))
      (λ t e. older_value i t ∙ ap value_after e ∙ older_shown x) h

  -- a reply that is taken
  module _ (t : Targets) (x : Said) (q : Ask) (v : ℕ) (h : Agree i a (targets_of t) x) where
    new_said : (d e : Bool) → eqb q.request.address a ≡ d → draws i (holds_id (expected q.request)) ≡ e
        → has q.request.address (targets_of t) ≡ true → q.request.address ≡ a
        → value_of i (said_in (expected q.request) v (target_at q.request.address t)) ≡ shown (pick (d && e) (said v 0) x)
    new_said true true p r m w = said_value i (expected q.request) v (target_at q.request.address t) r
    new_said true false p r m w =
        said_other i (expected q.request) v (target_at q.request.address t) r
        ∙ ap (λ (n : ℕ). value_of i (look n (targets_of t))) w
        ∙ h (ap (λ (n : ℕ). has n (targets_of t)) (sym w) ∙ m)
    new_said false e p r m w = absurd (eqb-false q.request.address a p w)

    off_said : (d : Bool) → eqb q.request.address a ≡ d → (q.request.address ≡ a → ⊥)
        → pick (d && draws i (holds_id (expected q.request))) (said v 0) x ≡ x
    off_said true p n = absurd (n (eqb-true q.request.address a p))
    off_said false p n = refl

    none_held : (d e : Bool) → eqb q.request.address a ≡ d → has q.request.address (targets_of t) ≡ false → has a (targets_of t) ≡ true
        → pick (d && e) (said v 0) x ≡ x
    none_held true e p m k = absurd (true≢false (sym k ∙ ap (λ (n : ℕ). has n (targets_of t)) (sym (eqb-true q.request.address a p)) ∙ m))
    none_held false e p m k = refl

    agree_heard : Agree i a (targets_of (targets_heard q.request v t)) (pick (is_from i a q) (said v 0) x)
    unfolding targets_heard
    agree_heard = go (in_list q.request.address t) refl
      where
        go : (d : Bool) → in_list q.request.address t ≡ d
            → Agree i a (targets_of (pick d (targets_as (heard_list q.request v t) t) t)) (pick (is_from i a q) (said v 0) x)
        go true m =
            subst (λ (l : List Target). Agree i a l (pick (is_from i a q) (said v 0) x)) (sym (targets_are (heard_list q.request v t) t))
            (agree_put (targets_of t) x (pick (is_from i a q) (said v 0) x) q.request.address
            (said_in (expected q.request) v (target_at q.request.address t))
            (said_address (expected q.request) v (target_at q.request.address t) ∙ address_of_is q.request.address (targets_of t) m) m
            (new_said (eqb q.request.address a) (draws i (holds_id (expected q.request))) refl refl m)
            (off_said (eqb q.request.address a) refl)
            h)
        go false m = λ k. h k ∙ ap shown (sym (none_held (eqb q.request.address a) (draws i (holds_id (expected q.request))) refl m k))

  nothing : (h : Setup) (s : Station) → Agree i a (targets_of (emptied h s).targets) never
  unfolding emptied
  nothing h s = tells_none (value_of i) a (shown never)

  -- ---- call by call
  module _ (s : Station) (f : List Ask) (x : Said) (hf : Force s f) (h : Agree i a (targets_of s.targets) x) where
    next_new : (b near far : ℕ) → in_list b s.targets ≡ false → Agree i a (targets_of (with_new b near far s).targets) (pick (eqb b a) never x)
    next_new b near far n =
        subst (λ (l : List Target). Agree i a l (pick (eqb b a) never x)) (sym (targets_are (targets_of s.targets ++ (fresh b near far ∷ [])) s.targets))
        (agree_new (targets_of s.targets) x b near far n h)

    next_without : (b : ℕ) → Agree i a (targets_of (without b s).targets) (pick (eqb b a) never x)
    unfolding without
    next_without b =
        subst (λ (l : List Target). Agree i a l (pick (eqb b a) never x))
        (sym (targets_are (filter (λ (t : Target). not (is_at b t)) (targets_of s.targets)) s.targets))
        (agree_remove (targets_of s.targets) x b h)

    next_moved : (b near far : ℕ) → in_list b s.targets ≡ true → Agree i a (targets_of (with_moved b near far s).targets) x
    next_moved b near far n =
        let t = target_at b s.targets in
        let y = with_edges near far t in
        subst (λ (l : List Target). Agree i a l x) (sym (targets_are (set (targets_of s.targets) (place_in (targets_of s.targets) b) y) s.targets))
        (agree_put (targets_of s.targets) x x b y (address_of_is b (targets_of s.targets) n) n
        (λ w.
        edges_value i near far t
        ∙ ap (λ (m : ℕ). value_of i (look m (targets_of s.targets))) w
        ∙ h (ap (λ (m : ℕ). has m (targets_of s.targets)) (sym w) ∙ n))
        (λ _. refl) h)

    next_plan_is : (tag : ℕ) → Agree i a (targets_of (next_plan s tag).targets) (one_plan_more x)
    unfolding next_plan
    next_plan_is tag =
        subst (λ (l : List Target). Agree i a l (one_plan_more x)) (sym (targets_are (map older (targets_of s.targets)) s.targets))
        (agree_plan (targets_of s.targets) x h)

    next_heard : (k : ℕ) (m : List ℕ) → Agree i a (targets_of (after_reply k m s).targets) (pick (is_from i a (get_or f k no_ask)) (said (value_in m) 0) x)
    unfolding after_reply
    next_heard k m =
        subst
        (λ (q : Ask).
        Agree i a (targets_of (targets_heard (request_numbered k s) (value_in m) s.targets)) (pick (is_from i a q) (said (value_in m) 0) x))
        (sym (image_at ask_of (entries_of s.plan) k no_entry) ∙ ap (λ (l : List Ask). get_or l k no_ask) hf)
        (agree_heard s.targets x (entry_numbered k s).ask (value_in m) h)

    agree_done : (c : Call) → Passed (checks_of s c) → Agree i a (targets_of (next s c).targets) (said_after i a f (effect s c) x)
    unfolding new_target_checks move_checks
    agree_done (setup g) p = nothing g s
    agree_done (new b near far) p = next_new b near far (p.off 5)
    agree_done (remove b) p = next_without b
    agree_done (move b near far) p = next_moved b near far (not-false _ (p.off 4))
    agree_done (request q) p = h
    agree_done (plan tag) p = next_plan_is tag
    agree_done (reply r) p =
        subst (λ (m : List ℕ). Agree i a (targets_of (next s (reply r)).targets) (said_after i a f (spoke r.entry m) x))
        (sym (ap (λ (y : Replied). y.buffers.output) (passed_is s r p))) (next_heard r.entry (corrected s r).buffers.output)
    agree_done (report b) p = h

  pub agree : (cs : List Call) → Agree i a (targets_of (after cs).targets) (last_said i a (events cs))
  unfolding after events last_said emptied before_setup
  agree [] = nothing before_setup.setup before_setup
  agree (c ∷ cs) =
      let f = in_force (events cs) in
      let x = last_said i a (events cs) in
      effect_seen (after cs) c (λ s e. Agree i a (targets_of s.targets) (said_after i a f e x)) (agree cs)
      (agree_done (after cs) f x (in_force_is cs) (agree cs) c)

-- ---- a report that is given tells just what the history says
both_kinds : (s : Station) (a : ℕ) (i : Kind) → report_of i (report_held s a) ≡ value_of i (target_at a s.targets)
both_kinds s a AC = refl
both_kinds s a ID = refl

pub report_is : (cs : List Call) (i : Kind) (a : ℕ) → (reported (after cs) a).number ≡ 0
    → report_of i (reported (after cs) a) ≡ shown (last_said i a (events cs))
unfolding reported
report_is cs i a e = go (reported (after cs) a) e (came_to not_reported (report_held (after cs) a) (held_checks (after cs) a) refl)
  where
    go : (r : Report) → r.number ≡ 0 → CameTo (held_checks (after cs) a) not_reported (report_held (after cs) a) r
        → report_of i r ≡ shown (last_said i a (events cs))
    go r z (was_refused x m k g w) = absurd (m (sym (ap (λ (y : Report). y.number) w) ∙ z))
    go r z (was_done p g w) = ap (report_of i) w ∙ both_kinds (after cs) a i ∙ agree i a cs (not-false _ (p.off 4))

abbrev was_heard : Option Heard → Bool
was_heard None = false
was_heard (Some h) = true

-- never heard exactly if nothing was said since the target came
pub never_heard : (cs : List Call) (i : Kind) (a : ℕ) → (reported (after cs) a).number ≡ 0 → report_of i (reported (after cs) a) ≡ None
    → last_said i a (events cs) ≡ never
never_heard cs i a e n = go (last_said i a (events cs)) (sym (report_is cs i a e) ∙ n)
  where
    go : (x : Said) → shown x ≡ None → x ≡ never
    go never p = refl
    go (said v k) p = absurd (true≢false (ap was_heard p))

pub never_said : (cs : List Call) (i : Kind) (a : ℕ) → (reported (after cs) a).number ≡ 0 → last_said i a (events cs) ≡ never
    → report_of i (reported (after cs) a) ≡ None
never_said cs i a e n = report_is cs i a e ∙ ap shown n
