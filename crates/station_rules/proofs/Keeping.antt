-- What every history of calls keeps true of the station.
use borrow.Author.Tests.{leb-true, leb-false, lt-leb, eqb-true, eqb-false, not-true, not-false}
use Prim.Native.Nat.{ℕ, zero, suc, ◌+◌, ◌≤◌, ◌<◌}
use native.Mathlib.Omega.{arith}
use mathlib.Core.Path.{◌≡◌, refl, sym, ap, subst, ◌∙◌}
use mathlib.Core.List.{List, [], ◌∷◌, ◌++◌, map}
use mathlib.Core.Bool.{Bool, true, false, not, ◌&&◌, ◌||◌, false≢true}
use lib.ListN.{length, get_or, set}
use lib.Dec.{eqb, leb}
use Rattle.lists.specs.Lists.{pick, count_of, every, total, filter, All}
use Rattle.lists.specs.Checks.{checked, given}
use Rattle.lists.proofs.Checks.{Passed, CameTo, was_refused, was_done}
use Rattle.lists.proofs.Tests.{and_true, and_left, and_right, and_yes}
use Rattle.lists.proofs.Over.{take_over}
use Rattle.lists.proofs.Count.{count_nil, count_snoc}
use Rattle.lists.proofs.Held.{all_snoc, all_map}
use Rattle.lists.proofs.Each.{all_set, all_kept, count_kept, none_fail, all_pass, all_image, count_image}
use Rattle.lists.proofs.Keys.{fewer}
use Rattle.frames_rules.specs.Building.{is_address, selective_ranged}
use Rattle.frames_rules.proofs.Ranges.{InSelective, selective_in}
use Rattle.planner_rules.specs.declared.request.Request.{Request}
use Rattle.planner_rules.specs.declared.request.Ask.{Ask}
use Rattle.planner_rules.specs.declared.entry.Entry.{Entry}
use Rattle.planner_rules.specs.declared.entry.Status.{Status}
use Rattle.planner_rules.specs.declared.entry.Status.TheVariants.{Open, Answered, Withdrawn}
use Rattle.planner_rules.specs.declared.setup.Setup.{Setup}
use Rattle.planner_rules.specs.Demand3.{Proper}
use Rattle.planner_rules.specs.Shares.{setup_number, shares_fit}
use Rattle.planner_rules.proofs.Demand3.{demand3, left_each}
use Rattle.station_rules.specs.declared.state.Target.{Target}
use Rattle.station_rules.specs.declared.state.Targets.{Targets}
use Rattle.station_rules.specs.declared.state.Waiting.{Waiting}
use Rattle.station_rules.specs.declared.state.Plan.{Plan}
use Rattle.station_rules.specs.declared.state.Station.{Station}
use Rattle.station_rules.specs.Answers.{Outcome}
use Rattle.station_rules.specs.State.{targets_of, targets_as, targets_with, targets_put, is_at, place_in}
use Rattle.station_rules.specs.State.{in_list, fresh, with_edges, with_ac, with_id, target_at}
use Rattle.station_rules.specs.State.{older, heard}
use Rattle.station_rules.specs.State.{targets_older, requests_of, waiting_as, waiting_with, is_of}
use Rattle.station_rules.specs.State.{entries_of, plan_as, status_withdrawn, withdrawn, with_status}
use Rattle.station_rules.specs.State.{no_entry, with_targets, emptied, before_setup}
use Rattle.station_rules.specs.Calls.{refused, leaves, target_ranged, request_ranged, unit_full, new_target_checks, with_new, held_checks, without}
use Rattle.station_rules.specs.Calls.{move_checks, with_moved, request_checks, with_request}
use Rattle.station_rules.specs.Planning.{ask_for, request_of, asked, board_for, next_plan}
use Rattle.station_rules.specs.Replies.{is_open, said_in, holds_id, expected, targets_heard, entry_numbered, value_in, plan_answered, after_reply, corrected}
use Rattle.station_rules.specs.History.{Call, setup, new, remove, move, request, plan, reply, report, answer, after, checks_of, next}
use Rattle.station_rules.specs.Kept.{InReach, Waits, Entered, Kept}
use Rattle.station_rules.proofs.Lookup.{has, look, has_nil, has_cons, look_cons, has_snoc, has_map, has_other, has_put}
use Rattle.station_rules.proofs.Came.{came}

-- ---- the list laid over the slots of a part is the one that the part holds
pub targets_are : (v : List Target) (t : Targets) → targets_of (targets_as v t) ≡ v
targets_are v t = take_over v t.list

pub requests_are : (v : List Request) (w : Waiting) → requests_of (waiting_as v w) ≡ v
requests_are v w = take_over v w.list

pub entries_are : (v : List Entry) (p : Plan) → entries_of (plan_as v p) ≡ v
entries_are v p = take_over v p.list

-- ---- what the ranges say
reach_of : (a near far R : ℕ) → target_ranged a near far R ≡ true → (near ≤ far) × (far ≤ R)
unfolding target_ranged
reach_of a near far R g = (
  leb-true near far (and_right (is_address a) (leb near far) (and_left (is_address a && leb near far) (leb far R) g)),
  leb-true far R (and_right (is_address a && leb near far) (leb far R) g),
)

-- a request that is let in: its unit, and the numbers of its interrogation
pub request_in : (q : Request) → request_ranged q ≡ true → (q.unit < 8) × InSelective q.uf q.pc q.rr q.di q.sd q.ma q.address
unfolding request_ranged
request_in q e =
    let t = and_true (leb q.unit 7) (selective_ranged q.uf q.pc q.rr q.di q.sd q.ma q.address) e in
    let u = leb-true q.unit 7 t.0 in
    (omega arith, selective_in q.uf q.pc q.rr q.di q.sd q.ma q.address t.1)

-- ---- the target of an address
pub address_of_is : (a : ℕ) (ts : List Target) → has a ts ≡ true → (look a ts).address ≡ a
address_of_is a [] e = absurd (false≢true (sym (has_nil a) ∙ e))
address_of_is a (x ∷ ts) e = ap (λ (t : Target). t.address) (look_cons a x ts) ∙ go (is_at a x) refl (sym (has_cons a x ts) ∙ e) (λ q. address_of_is a ts q)
  where
    go : (b : Bool) → is_at a x ≡ b → pick b true (has a ts) ≡ true → (has a ts ≡ true → (look a ts).address ≡ a) → (pick b x (look a ts)).address ≡ a
    go true e q ih = eqb-true x.address a e
    go false e q ih = ih q

all_look : (P : Target → Type 0) (a : ℕ) (ts : List Target) → All P ts → has a ts ≡ true → P (look a ts)
unfolding All
all_look P a [] h e = absurd (false≢true (sym (has_nil a) ∙ e))
all_look P a (x ∷ ts) h e = subst P (sym (look_cons a x ts)) (go (is_at a x) (sym (has_cons a x ts) ∙ e) (λ q. all_look P a ts h.1 q))
  where
    go : (b : Bool) → pick b true (has a ts) ≡ true → (has a ts ≡ true → P (look a ts)) → P (pick b x (look a ts))
    go true q ih = h.0
    go false q ih = ih q

-- ---- the parts under each change
abbrev Reaching : ℕ → Targets → Type 0
Reaching R t = All (InReach R) (targets_of t)

abbrev Waiting-for : Targets → Waiting → Type 0
Waiting-for t w = All (Waits t) (requests_of w)

abbrev Sixteen : Waiting → Type 0
Sixteen w = (u : ℕ) → count_of (is_of u) (requests_of w) ≤ 16

abbrev Entries : Targets → Plan → Type 0
Entries t p = All (Entered t) (entries_of p)

-- every address that was in the list still is
abbrev Stays : Targets → Targets → Type 0
Stays t u = (a : ℕ) → in_list a t ≡ true → in_list a u ≡ true

waits_on : (t u : Targets) (w : Waiting) → Stays t u → Waiting-for t w → Waiting-for u w
waits_on t u w f h = all_map (Waits t) (Waits u) (λ q k. (k.0, f q.address k.1)) (requests_of w) h

entries_on_is : (t u : Targets) (p : Plan) → Stays t u → Entries t p → Entries u p
entries_on_is t u p f h = all_map (Entered t) (Entered u) (λ e k. (k.0, λ o. f e.ask.request.address (k.1 o))) (entries_of p) h

none : (h : Setup) (s : Station) → setup_number h ≡ 0 → Kept (emptied h s)
unfolding emptied All
none h s a = record { shares = a; reach = tt; waiting = tt; sixteen = λ u. omega (arith, count_nil (is_of u)); entries = tt }

-- another target in the place of one of the same address
put_stays : (t u : Targets) (b : ℕ) (y : Target) → y.address ≡ b → targets_of u ≡ set (targets_of t) (place_in (targets_of t) b) y → Stays t u
put_stays t u b y same e a k = ap (has a) e ∙ has_put a b y same (targets_of t) ∙ k

put_reaches : (R : ℕ) (t u : Targets) (b : ℕ) (y : Target) → InReach R y → targets_of u ≡ set (targets_of t) (place_in (targets_of t) b) y → Reaching R t
    → Reaching R u
put_reaches R t u b y p e h = subst (λ (v : List Target). All (InReach R) v) (sym e) (all_set (InReach R) (targets_of t) (place_in (targets_of t) b) y p h)

pub said_address : (f v : ℕ) (t : Target) → (said_in f v t).address ≡ t.address
said_address f v t = go (holds_id f)
  where
    go : (b : Bool) → (pick b (with_id (heard v 0) t) (with_ac (heard v 0) t)).address ≡ t.address
    go true = refl
    go false = refl

said_reach : (R f v : ℕ) (t : Target) → InReach R t → InReach R (said_in f v t)
said_reach R f v t h = go (holds_id f)
  where
    go : (b : Bool) → InReach R (pick b (with_id (heard v 0) t) (with_ac (heard v 0) t))
    go true = h
    go false = h

abbrev pub heard_list : Request → ℕ → Targets → List Target
heard_list q v t = set (targets_of t) (place_in (targets_of t) q.address) (said_in (expected q) v (target_at q.address t))

heard_keeps : (R : ℕ) (q : Request) (v : ℕ) (t : Targets) → Reaching R t → Reaching R (targets_heard q v t) × Stays t (targets_heard q v t)
unfolding targets_heard
heard_keeps R q v t h = go (in_list q.address t) refl
  where
    go : (b : Bool) → in_list q.address t ≡ b → Reaching R (pick b (targets_as (heard_list q v t) t) t) × Stays t (pick b (targets_as (heard_list q v t) t) t)
    go true e =
        let y = said_in (expected q) v (target_at q.address t) in
        let l = targets_are (heard_list q v t) t in (
          put_reaches R t (targets_as (heard_list q v t) t) q.address y
              (said_reach R (expected q) v (target_at q.address t) (all_look (InReach R) q.address (targets_of t) h e)) l h,
          put_stays t (targets_as (heard_list q v t) t) q.address y
              (said_address (expected q) v (target_at q.address t) ∙ address_of_is q.address (targets_of t) e) l,
        )
    go false e = (h, λ a k. k)

-- ---- planning
-- every waiting request, with near and far of its target, is what the planner wants
pub proper : (s : Station) → Kept s → All (Proper s.setup) (asked s)
unfolding asked
proper s h =
    all_image (ask_for s.targets) (Waits s.targets) (Proper s.setup)
    (λ q k. let r = all_look (InReach s.setup.reach) q.address (targets_of s.targets) h.reach
    k.1 in record { unit_in = (request_in q k.0).0; near_in = r.0; far_in = r.1 })
    (requests_of s.waiting) h.waiting

-- what is left waits as before, and each entry is of a request that waited
abbrev Was : Station → Ask → Type 0
Was s a = Waits s.targets a.request

were : (s : Station) → Kept s → All (Was s) (asked s)
unfolding asked
were s h = all_image (ask_for s.targets) (Waits s.targets) (Was s) (λ q k. k) (requests_of s.waiting) h.waiting

pub plan_shows : (s : Station) (tag : ℕ) → entries_of (next_plan s tag).plan ≡ (board_for s).placed
unfolding next_plan
plan_shows s tag = take_over (board_for s).placed s.plan.list

pub plan_leaves : (s : Station) (tag : ℕ) → requests_of (next_plan s tag).waiting ≡ map request_of (board_for s).waiting
unfolding next_plan
plan_leaves s tag = take_over (map request_of (board_for s).waiting) s.waiting.list

older_stays : (t : Targets) → Stays t (targets_older t)
older_stays t a k = ap (has a) (targets_are (map older (targets_of t)) t) ∙ has_map a older (λ x. refl) (targets_of t) ∙ k

left_waits : (s : Station) (tag : ℕ) → Kept s → Waiting-for s.targets (next_plan s tag).waiting
unfolding board_for
left_waits s tag h =
    subst (All (Waits s.targets)) (sym (plan_leaves s tag))
    (all_image request_of (Was s) (Waits s.targets) (λ a k. k) (board_for s).waiting (left_each s.setup h.shares (asked s) (Was s) (were s h)))

-- a plan leaves no unit with more than it had waiting
left_fewer : (s : Station) (tag : ℕ) → Kept s → (u : ℕ)
    → count_of (is_of u) (requests_of (next_plan s tag).waiting) ≤ count_of (is_of u) (requests_of s.waiting)
unfolding board_for asked
left_fewer s tag h u =
    let n = (demand3 s.setup h.shares (asked s) (proper s h)).none_lost (λ (a : Ask). is_of u a.request) in
    let l = ap (count_of (is_of u)) (plan_leaves s tag) ∙ count_image request_of (is_of u) (board_for s).waiting in
    let r = count_image (ask_for s.targets) (λ (a : Ask). is_of u a.request) (requests_of s.waiting) in
    omega (arith, n, l, r)

-- each entry of a plan is of a request that waited: the planner makes up none
abbrev waited : Station → Ask → Bool
waited s a = request_ranged a.request && in_list a.request.address s.targets

placed_entered : (s : Station) (tag : ℕ) → Kept s → Entries s.targets (next_plan s tag).plan
unfolding board_for
placed_entered s tag h =
    let n = (demand3 s.setup h.shares (asked s) (proper s h)).none_lost (λ (a : Ask). not (waited s a)) in
    let w =
    none_fail (waited s) (asked s)
    (all_map (Was s) (λ (a : Ask). waited s a ≡ true)
    (λ a k. and_yes (request_ranged a.request) (in_list a.request.address s.targets) k.0 k.1) (asked s) (were s h)) in
    subst (All (Entered s.targets)) (sym (plan_shows s tag))
    (all_map (λ (e : Entry). waited s e.ask ≡ true) (Entered s.targets)
    (λ e k. (
      and_left (request_ranged e.ask.request) (in_list e.ask.request.address s.targets) k,
      λ _. and_right (request_ranged e.ask.request) (in_list e.ask.request.address s.targets) k,
    ))
    (board_for s).placed
    (all_pass (λ (e : Entry). waited s e.ask) (board_for s).placed (omega (arith, n, w))))

planned_keeps : (s : Station) (tag : ℕ) → Kept s → Kept (next_plan s tag)
unfolding next_plan
planned_keeps s tag h =
    record {
      shares = h.shares;
      reach =
          rw (targets_are (map older (targets_of s.targets)) s.targets)
          (all_image older (InReach s.setup.reach) (InReach s.setup.reach) (λ t k. k) (targets_of s.targets) h.reach);
      waiting = waits_on s.targets (targets_older s.targets) (next_plan s tag).waiting (older_stays s.targets) (left_waits s tag h);
      sixteen = λ u. omega (arith, left_fewer s tag h u, h.sixteen u);
      entries = entries_on_is s.targets (targets_older s.targets) (next_plan s tag).plan (older_stays s.targets) (placed_entered s tag h);
    }

-- ---- a request taken
some_room : (u : ℕ) (w : Waiting) → unit_full u w ≡ false → count_of (is_of u) (requests_of w) < 16
unfolding unit_full
some_room u w e = leb-false 16 _ (first (leb 16 (count_of (is_of u) (requests_of w))) (leb 128 (length (requests_of w))) e)
  where
    first : (a b : Bool) → a || b ≡ false → a ≡ false
    first true b h = h
    first false b h = refl

few : (b : Bool) (n u v : ℕ) → b ≡ eqb v u → n ≤ 16 → (v ≡ u → n < 16) → n + pick b 1 0 ≤ 16
few true n u v e h k = let l = k (eqb-true v u (sym e)) in omega arith
few false n u v e h k = omega arith

asked_keeps : (s : Station) (q : Request) → Kept s → request_ranged q ≡ true → in_list q.address s.targets ≡ true
    → unit_full q.unit s.waiting ≡ false → (w : Waiting) → requests_of w ≡ requests_of s.waiting ++ (q ∷ []) → Waiting-for s.targets w × Sixteen w
asked_keeps s q h g f n w e = (
  subst (All (Waits s.targets)) (sym e) (all_snoc (Waits s.targets) (requests_of s.waiting) q h.waiting (g, f)),
  λ u. subst (λ (v : List Request). count_of (is_of u) v ≤ 16) (sym e)
      (rw (count_snoc (is_of u) (requests_of s.waiting) q)
      (few (is_of u q) _ u q.unit refl (h.sixteen u)
      (λ (d : q.unit ≡ u). subst (λ (k : ℕ). count_of (is_of k) (requests_of s.waiting) < 16) d (some_room q.unit s.waiting n)))),
)

-- ---- a target removed
-- an entry that is open afterwards is for another address, and was open before
no_open : (m : Status) → is_open (status_withdrawn m) ≡ true → ⊥
no_open Open e = false≢true e
no_open Answered e = false≢true e
no_open Withdrawn e = false≢true e

still_held : (t : Targets) (a : ℕ) (e : Entry) → (is_open e.status ≡ true → in_list e.ask.request.address t ≡ true)
    → is_open (withdrawn a e).status ≡ true → has e.ask.request.address (filter (λ (x : Target). not (is_at a x)) (targets_of t)) ≡ true
still_held t a e k = go (eqb e.ask.request.address a) refl
  where
    go : (b : Bool) → eqb e.ask.request.address a ≡ b → is_open (pick b (status_withdrawn e.status) e.status) ≡ true
        → has e.ask.request.address (filter (λ (x : Target). not (is_at a x)) (targets_of t)) ≡ true
    go true q o = absurd (no_open e.status o)
    go false q o = has_other e.ask.request.address a (targets_of t) (eqb-false e.ask.request.address a q) ∙ k o

without_keeps : (s : Station) (a : ℕ) → Kept s → Kept (without a s)
unfolding without
without_keeps s a h =
    let t = targets_are (filter (λ (x : Target). not (is_at a x)) (targets_of s.targets)) s.targets in
    let w = requests_are (filter (λ (q : Request). not (eqb q.address a)) (requests_of s.waiting)) s.waiting in
    record {
      shares = h.shares;
      reach =
          rw t
          (all_kept (InReach s.setup.reach) (InReach s.setup.reach) (λ (x : Target). not (is_at a x)) (λ x p k. k) (targets_of s.targets)
          h.reach);
      waiting =
          rw w
          (all_kept (Waits s.targets) _ (λ (q : Request). not (eqb q.address a))
          (λ q p j. (
            j.0,
            ap (has q.address) t
                ∙ has_other q.address a (targets_of s.targets) (eqb-false q.address a (not-true (eqb q.address a) p))
                ∙ j.1,
          ))
          (requests_of s.waiting) h.waiting);
      sixteen = λ u. rw w (omega (arith, h.sixteen u, count_kept (is_of u) (λ (q : Request). not (eqb q.address a)) (requests_of s.waiting)));
      entries =
          rw (entries_are (map (withdrawn a) (entries_of s.plan)) s.plan)
          (all_image (withdrawn a) (Entered s.targets) _
          (λ e k. (k.0, λ o. ap (has e.ask.request.address) t ∙ still_held s.targets a e k.1 o))
          (entries_of s.plan) h.entries);
    }

-- ---- a reply taken
set_entered : (t : Targets) (es : List Entry) (k : ℕ) (d : Entry) → All (Entered t) es → All (Entered t) (set es k (with_status Answered (get_or es k d)))
unfolding All
set_entered t [] k d h = tt
set_entered t (x ∷ es) zero d h = ((h.0.0, λ o. absurd (false≢true o)), h.1)
set_entered t (x ∷ es) (suc k) d h = (h.0, set_entered t es k d h.1)

reply_keeps : (s : Station) (k : ℕ) (m : List ℕ) → Kept s → Kept (after_reply k m s)
unfolding after_reply
reply_keeps s k m h =
    let q = (entry_numbered k s).ask.request in
    let j = heard_keeps s.setup.reach q (value_in m) s.targets h.reach in
    let t = targets_heard q (value_in m) s.targets in
    record {
      shares = h.shares;
      reach = j.0;
      waiting = waits_on s.targets t s.waiting j.1 h.waiting;
      sixteen = h.sixteen;
      entries =
          entries_on_is s.targets t (plan_answered k s.plan) j.1
          (rw (entries_are (set (entries_of s.plan) k (with_status Answered (get_or (entries_of s.plan) k no_entry))) s.plan)
          (set_entered s.targets (entries_of s.plan) k no_entry h.entries));
    }

blank_accepted : setup_number before_setup.setup ≡ 0
unfolding checked setup_number shares_fit before_setup every total
blank_accepted = refl

-- a target put in, or in the place of another: what waits and what is planned stands as it did
targets_keep : (s : Station) (u : Targets) → Kept s → Reaching s.setup.reach u → Stays s.targets u → Kept (with_targets u s)
targets_keep s u h r j =
    record {
      shares = h.shares;
      reach = r;
      waiting = waits_on s.targets u s.waiting j h.waiting;
      sixteen = h.sixteen;
      entries = entries_on_is s.targets u s.plan j h.entries;
    }

new_keeps : (s : Station) (a near far : ℕ) → Kept s → target_ranged a near far s.setup.reach ≡ true → Kept (with_new a near far s)
new_keeps s a near far h g =
    let k = targets_are (targets_of s.targets ++ (fresh a near far ∷ [])) s.targets in
    targets_keep s (targets_with (fresh a near far) s.targets) h
    (rw k (all_snoc (InReach s.setup.reach) (targets_of s.targets) (fresh a near far) h.reach (reach_of a near far s.setup.reach g)))
    (λ b i. ap (has b) k ∙ has_snoc b (targets_of s.targets) (fresh a near far) ∙ (rw i))

move_keeps : (s : Station) (a near far : ℕ) → Kept s → target_ranged a near far s.setup.reach ≡ true → in_list a s.targets ≡ true
    → Kept (with_moved a near far s)
move_keeps s a near far h g f =
    let y = with_edges near far (target_at a s.targets) in
    let u = targets_put a y s.targets in
    let l = targets_are (set (targets_of s.targets) (place_in (targets_of s.targets) a) y) s.targets in
    targets_keep s u h
    (put_reaches s.setup.reach s.targets u a y (reach_of a near far s.setup.reach g) l h.reach)
    (put_stays s.targets u a y (address_of_is a (targets_of s.targets) f) l)

request_keeps : (s : Station) (q : Request) → Kept s → request_ranged q ≡ true → in_list q.address s.targets ≡ true
    → unit_full q.unit s.waiting ≡ false → Kept (with_request q s)
request_keeps s q h g f n =
    let k = asked_keeps s q h g f n (waiting_with q s.waiting) (requests_are (requests_of s.waiting ++ (q ∷ [])) s.waiting) in
    record { shares = h.shares; reach = h.reach; waiting = k.0; sixteen = k.1; entries = h.entries }

-- ---- every call that is done
pub kept_done : (s : Station) → Kept s → (c : Call) → Passed (checks_of s c) → given (checks_of s c) ≡ 0 → Kept (next s c)
unfolding setup_number new_target_checks held_checks move_checks request_checks
kept_done s h (setup x) p z = none x s z
kept_done s h (new a near far) p z = new_keeps s a near far h (not-false _ (p.off 2))
kept_done s h (remove a) p z = without_keeps s a h
kept_done s h (move a near far) p z = move_keeps s a near far h (not-false _ (p.off 2)) (not-false _ (p.off 4))
kept_done s h (request q) p z = request_keeps s q h (not-false _ (p.off 2)) (not-false _ (p.off 4)) (p.off 6)
kept_done s h (plan tag) p z = planned_keeps s tag h
kept_done s h (reply r) p z = reply_keeps s r.entry (corrected s r).buffers.output h
kept_done s h (report a) p z = h

pub kept_next : (s : Station) → Kept s → (c : Call) → Kept (answer s c).station
kept_next s h c = go (answer s c) (came s c)
  where
    go : (r : Outcome) → CameTo (checks_of s c) (refused s) (leaves (next s c)) r → Kept r.station
    go r (was_refused x z e g q) = subst (λ (a : Outcome). Kept a.station) (sym q) h
    go r (was_done p z q) = subst (λ (a : Outcome). Kept a.station) (sym q) (kept_done s h c p z)

-- every history keeps it
pub always_kept : (cs : List Call) → Kept (after cs)
unfolding after emptied before_setup
always_kept [] = none before_setup.setup before_setup blank_accepted
always_kept (c ∷ cs) = kept_next (after cs) (always_kept cs) c

-- ---- refusal 6 to a request, as the paper has it: the slots never run out before
pub six : (cs : List Call) (u : ℕ) → u < 8 → unit_full u (after cs).waiting ≡ leb 16 (count_of (is_of u) (requests_of (after cs).waiting))
unfolding unit_full
six cs u l =
    let h = always_kept cs in
    either _ _
    (λ e. lt-leb _ _
    (fewer (λ (q : Request). q.unit) (requests_of (after cs).waiting) u
    (all_map (Waits (after cs).targets) (λ (q : Request). q.unit < 8) (λ q k. (request_in q k.0).0) (requests_of (after cs).waiting)
    h.waiting)
    (λ v _. h.sixteen v) l (leb-false 16 _ e)))
  where
    either : (a b : Bool) → (a ≡ false → b ≡ false) → a || b ≡ a
    either true b h = refl
    either false b h = h refl
