-- What a reader knows from the calls and the numbers printed is what the station holds, and what a caller of the station would have seen.
use Prim.Native.Nat.{ℕ}
use mathlib.Core.Path.{◌≡◌, refl, ap, ap₂, subst, sym, ◌∙◌}
use mathlib.Core.Bool.{Bool, true, false, not}
use mathlib.Core.List.{List, [], ◌∷◌, ◌++◌, map}
use lib.Dec.{eqb}
use lib.ListN.{get_or, set}
use borrow.Author.Tests.{eqb-true, eq-eqb, ne_eqb, not-false}
use Rattle.lists.specs.Lists.{pick, filter}
use Rattle.lists.proofs.Checks.{Passed, CameTo, was_refused, was_done}
use Rattle.lists.proofs.Held.{all_map}
use Rattle.lists.proofs.Each.{image_set, image_at, image_same, image_through}
use Rattle.parity_rules.specs.Correction.{flipped_by}
use Rattle.planner_rules.specs.declared.request.Request.{Request}
use Rattle.planner_rules.specs.declared.request.Ask.{Ask}
use Rattle.planner_rules.specs.declared.entry.Entry.{Entry}
use Rattle.planner_rules.specs.declared.entry.Status.TheVariants.{Answered}
use Rattle.planner_rules.specs.declared.setup.Setup.{Setup}
use Rattle.planner_rules.specs.Plan.{Board, plan}
use Rattle.planner_rules.specs.Demand3.{ask_of}
use Rattle.planner_rules.specs.Told.{EntryShown, entry_shown, told_by}
use Rattle.planner_rules.proofs.Told.{plan_told}
use Rattle.station_rules.specs.declared.state.Target.{Target}
use Rattle.station_rules.specs.declared.state.Targets.{Targets}
use Rattle.station_rules.specs.declared.state.Station.{Station}
use Rattle.station_rules.specs.Answers.{Outcome}
use Rattle.station_rules.specs.State.{targets_of, targets_as, is_at, place_in, in_list, target_at, fresh, with_edges, with_ac, with_id, older, heard}
use Rattle.station_rules.specs.State.{requests_of, entries_of, withdrawn, with_status, no_ask, no_entry, emptied, before_setup}
use Rattle.station_rules.specs.Calls.{refused, leaves, new_target_checks, without, move_checks, with_moved}
use Rattle.station_rules.specs.Planning.{ask_for, request_of, asked, board_for, next_plan}
use Rattle.station_rules.specs.Replies.{expected, value_in, said_in, holds_id, targets_heard, entry_numbered, after_reply}
use Rattle.station_rules.specs.Replies.{Received, matches_for, corrected, Replied, replied}
use Rattle.station_rules.specs.History as calls
use Rattle.station_rules.specs.History.{Call, answer, after, checks_of, next}
use Rattle.station_rules.specs.Kept.{Waits, Kept}
use Rattle.station_rules.specs.Seen.{Effect, spoke, planned, none, effect_by, effect, seen_as, events, in_force}
use Rattle.station_rules.proofs.Lookup.{has, look, Tells, tells_none, tells_new, tells_removed, tells_put, tells_changed}
use Rattle.station_rules.proofs.Came.{came, taken}
use Rattle.station_rules.proofs.Keeping.{targets_are, requests_are, entries_are, address_of_is, said_address, heard_list, plan_shows, plan_leaves, always_kept}
use Rattle.station_rules.proofs.Ages.{in_force_is}
use Rattle.station_rules.proofs.Demands.{demand1}
use Rattle.stream_rules.specs.Spelled.{number_given, Prints, plain, of_plan, of_reply, of_report, prints_of}
use Rattle.stream_rules.specs.Reader.{Shown, Known, nothing_but, knowing_edges, ask_known, asked_known}
use Rattle.stream_rules.specs.Reader.{board_by, known_after, known_by, line_of, corrected_in, event_for, events_by}

-- ---- what the calls show, as the station has it
abbrev pub made_by : {c : Call} → Prints c → Station → List Entry
made_by plain s = []
made_by (of_plan tag) s = entries_of (next_plan s tag).plan
made_by (of_reply r) s = []
made_by (of_report a) s = []

abbrev pub entries_made : Station → Call → List Entry
entries_made s c = made_by (prints_of c) s

abbrev pub shown_for : List Call → Call → Shown
shown_for cs c = record { call = c; number = number_given cs c; entries = map entry_shown (entries_made (after cs) c) }

unfoldable pub shown_of : List Call → List Shown
shown_of [] = []
shown_of (c ∷ cs) = shown_for cs c ∷ shown_of cs

-- ---- what a reader knows is what the station holds
-- a request with near and far of a target
abbrev ask_in : Request → Target → Ask
ask_in q t = record { request = q; near = t.near; far = t.far }

abbrev EdgesAre : List Target → Known → Type 0
EdgesAre ts k = (q : Request) → Tells (ask_in q) q.address ts (ask_known k q)

pub record Knows (s : Station) (k : Known) : Type 0 where
  pub setup_is : s.setup ≡ k.setup
  pub edges_are : EdgesAre (targets_of s.targets) k
  pub waiting_is : requests_of s.waiting ≡ k.waiting
  pub tag_is : s.plan.tag ≡ k.tag
  pub lines_are : map entry_shown (entries_of s.plan) ≡ k.lines

knows_nothing : (h : Setup) (s : Station) → Knows (emptied h s) (nothing_but h)
unfolding emptied
knows_nothing h s =
    record { setup_is = refl; edges_are = λ q. tells_none (ask_in q) q.address _; waiting_is = refl; tag_is = refl; lines_are = refl }

-- near and far of an address, and of another
told_edges : (b near far : ℕ) (k : Known) (q : Request) → b ≡ q.address
    → record { request = q; near = near; far = far } ≡ ask_known (knowing_edges b near far k) q
told_edges b near far k q e = rw (eq-eqb b q.address e)

other_edges : (b near far : ℕ) (k : Known) (q : Request) → (b ≡ q.address → ⊥) → ask_known k q ≡ ask_known (knowing_edges b near far k) q
other_edges b near far k q n = rw (ne_eqb b q.address n)

-- the parts hold the list that was laid over them
over_targets : (v : List Target) (t : Targets) (k : Known) → EdgesAre v k → EdgesAre (targets_of (targets_as v t)) k
over_targets v t k h q = rw (targets_are v t) (h q)

-- a reply changes neither near nor far
said_edges : (q : Request) (f v : ℕ) (t : Target) → ask_in q (said_in f v t) ≡ ask_in q t
said_edges q f v t = go (holds_id f)
  where
    go : (b : Bool) → ask_in q (pick b (with_id (heard v 0) t) (with_ac (heard v 0) t)) ≡ ask_in q t
    go true = refl
    go false = refl

module _ (s : Station) (k : Known) (h : Knows s k) where
  put_edges : (b : ℕ) (t : Target) (j : Known) → t.address ≡ b → has b (targets_of s.targets) ≡ true
      → ((q : Request) → b ≡ q.address → ask_in q t ≡ ask_known j q) → ((q : Request) → (b ≡ q.address → ⊥) → ask_known k q ≡ ask_known j q)
      → EdgesAre (set (targets_of s.targets) (place_in (targets_of s.targets) b) t) j
  put_edges b t j same m at off q =
      tells_put (ask_in q) q.address (targets_of s.targets) (ask_known k q) (ask_known j q) b t same m (at q) (off q) (h.edges_are q)

  heard_edges : (q : Request) (v : ℕ) → EdgesAre (targets_of (targets_heard q v s.targets)) k
  unfolding targets_heard
  heard_edges q v = go (in_list q.address s.targets) refl
    where
      go : (b : Bool) → in_list q.address s.targets ≡ b
          → EdgesAre (targets_of (pick b (targets_as (heard_list q v s.targets) s.targets) s.targets)) k
      go true m =
          let t = target_at q.address s.targets in
          over_targets (heard_list q v s.targets) s.targets k
          (put_edges q.address (said_in (expected q) v t) k
          (said_address (expected q) v t ∙ address_of_is q.address (targets_of s.targets) m) m
          (λ p e. said_edges p (expected q) v t ∙ ap (λ (a : ℕ). ask_in p (look a (targets_of s.targets))) e
          ∙ h.edges_are p (ap (λ (a : ℕ). has a (targets_of s.targets)) (sym e) ∙ m))
          (λ p n. refl))
      go false m = h.edges_are

  -- what waits is asked as the station asks it, and a plan's lines tell the plan
  asked_known_is : Kept s → asked s ≡ asked_known k
  unfolding asked
  asked_known_is ok =
      image_same (ask_for s.targets) (ask_known k) (requests_of s.waiting)
      (all_map (Waits s.targets) (λ (q : Request). ask_for s.targets q ≡ ask_known k q) (λ q w. h.edges_are q w.1)
      (requests_of s.waiting) ok.waiting)
      ∙ ap (map (ask_known k)) h.waiting_is

  board_known : Kept s → board_by k (map entry_shown (board_for s).placed) ≡ board_for s
  unfolding board_for
  board_known ok =
      ap₂ (λ (g : Setup) (w : List Ask). told_by g.period [] (map entry_shown (plan s.setup (asked s)).placed) w)
      (sym h.setup_is) (sym (asked_known_is ok))
      ∙ plan_told s.setup ok.shares (asked s)

  board_made : Kept s → (tag : ℕ) → board_by k (map entry_shown (entries_of (next_plan s tag).plan)) ≡ board_for s
  board_made ok tag = ap (λ (es : List Entry). board_by k (map entry_shown es)) (plan_shows s tag) ∙ board_known ok

  -- ---- call by call
  next_new : (b near far : ℕ) → in_list b s.targets ≡ false → EdgesAre (targets_of s.targets ++ (fresh b near far ∷ [])) (knowing_edges b near far k)
  next_new b near far n q =
      tells_new (ask_in q) q.address (targets_of s.targets) (ask_known k q) (ask_known (knowing_edges b near far k) q) (fresh b near far) n
      (told_edges b near far k q) (other_edges b near far k q) (h.edges_are q)

  next_without : (a : ℕ) → Knows (without a s) (known_after (calls.remove a) [] k)
  unfolding without
  next_without a =
      record {
        setup_is = h.setup_is;
        edges_are =
            over_targets (filter (λ (t : Target). not (is_at a t)) (targets_of s.targets)) s.targets k
            (λ q. tells_removed (ask_in q) q.address (targets_of s.targets) (ask_known k q) (ask_known k q) a (λ _. refl) (h.edges_are q));
        waiting_is = requests_are _ s.waiting ∙ ap (filter (λ (q : Request). not (eqb q.address a))) h.waiting_is;
        tag_is = h.tag_is;
        lines_are =
            ap (map entry_shown) (entries_are (map (withdrawn a) (entries_of s.plan)) s.plan)
            ∙ image_through entry_shown (withdrawn a) (λ e. refl) (entries_of s.plan)
            ∙ h.lines_are;
      }

  next_plan_is : Kept s → (tag : ℕ) → Knows (next_plan s tag) (known_after (calls.plan tag) (map entry_shown (entries_of (next_plan s tag).plan)) k)
  unfolding next_plan
  next_plan_is ok tag =
      record {
        setup_is = h.setup_is;
        edges_are =
            over_targets (map older (targets_of s.targets)) s.targets k
            (λ q. tells_changed (ask_in q) q.address older (λ t. refl) (targets_of s.targets) (ask_known k q) (ask_known k q) (λ t e. e) (h.edges_are q));
        waiting_is = plan_leaves s tag ∙ ap (λ (b : Board). map request_of b.waiting) (sym (board_made ok tag));
        tag_is = refl;
        lines_are = refl;
      }

  next_heard : (e : ℕ) (m : List ℕ) → Knows (after_reply e m s) k
  unfolding after_reply
  next_heard e m =
      let es = entries_of s.plan in
      record {
        setup_is = h.setup_is;
        edges_are = heard_edges (entry_numbered e s).ask.request (value_in m);
        waiting_is = h.waiting_is;
        tag_is = h.tag_is;
        lines_are =
            ap (map entry_shown) (entries_are (set es e (with_status Answered (get_or es e no_entry))) s.plan)
            ∙ image_set entry_shown es e no_entry (with_status Answered (get_or es e no_entry)) refl
            ∙ h.lines_are;
      }

  next_moved : (b near far : ℕ) → in_list b s.targets ≡ true → Knows (with_moved b near far s) (knowing_edges b near far k)
  next_moved b near far n =
      let ts = targets_of s.targets in
      let t = with_edges near far (target_at b s.targets) in
      record {
        setup_is = h.setup_is;
        edges_are =
            over_targets (set ts (place_in ts b) t) s.targets (knowing_edges b near far k)
            (put_edges b t (knowing_edges b near far k) (address_of_is b ts n) n (told_edges b near far k) (other_edges b near far k));
        waiting_is = h.waiting_is;
        tag_is = h.tag_is;
        lines_are = h.lines_are;
      }

  next_known : Kept s → (c : Call) → Passed (checks_of s c) → Knows (next s c) (known_after c (map entry_shown (entries_made s c)) k)
  unfolding new_target_checks move_checks
  next_known ok (calls.setup g) p = knows_nothing g s
  next_known ok (calls.new b near far) p =
      record {
        setup_is = h.setup_is;
        edges_are = over_targets (targets_of s.targets ++ (fresh b near far ∷ [])) s.targets (knowing_edges b near far k) (next_new b near far (p.off 5));
        waiting_is = h.waiting_is;
        tag_is = h.tag_is;
        lines_are = h.lines_are;
      }
  next_known ok (calls.remove a) p = next_without a
  next_known ok (calls.move b near far) p = next_moved b near far (not-false _ (p.off 4))
  next_known ok (calls.request q) p =
      record {
        setup_is = h.setup_is;
        edges_are = h.edges_are;
        waiting_is = requests_are (requests_of s.waiting ++ (q ∷ [])) s.waiting ∙ ap (λ (v : List Request). v ++ (q ∷ [])) h.waiting_is;
        tag_is = h.tag_is;
        lines_are = h.lines_are;
      }
  next_known ok (calls.plan tag) p = next_plan_is ok tag
  next_known ok (calls.reply r) p = next_heard r.entry (corrected s r).buffers.output
  next_known ok (calls.report a) p = h

  -- a refused call changes nothing
  abbrev known : Call → ℕ → Known
  known c n = pick (eqb n 0) (known_after c (map entry_shown (entries_made s c)) k) k

  knows_next : Kept s → (c : Call) → Knows (answer s c).station (known c (answer s c).number)
  knows_next ok c = go (answer s c) (came s c)
    where
      go : (r : Outcome) → CameTo (checks_of s c) (refused s) (leaves (next s c)) r → Knows r.station (known c r.number)
      go r (was_refused x z e g w) = subst (λ (a : Outcome). Knows a.station (known c a.number)) (sym w) (rw (ne_eqb x.number 0 z) h)
      go r (was_done p z w) = subst (λ (a : Outcome). Knows a.station (known c a.number)) (sym w) (next_known ok c p)

-- after every history: setup, near and far, waiting list, tag and lines
pub known_is : (cs : List Call) → Knows (after cs) (known_by (shown_of cs))
unfolding after known_by shown_of emptied before_setup
known_is [] = knows_nothing before_setup.setup before_setup
known_is (c ∷ cs) =
    let k = known_by (shown_of cs) in
    let same : (answer (after cs) c).number ≡ number_given cs c = (demand1 cs).numbers c in
    subst (λ (n : ℕ). Knows (answer (after cs) c).station (pick (eqb n 0) (known_after c (map entry_shown (entries_made (after cs) c)) k) k)) same
    (knows_next (after cs) k (known_is cs) (always_kept cs) c)

-- the waiting list, told from requests, plans, removals and setups alone
pub waiting_read : (cs : List Call) → (known_by (shown_of cs)).waiting ≡ requests_of (after cs).waiting
waiting_read cs = sym (known_is cs).waiting_is

pub asked_read : (cs : List Call) → asked_known (known_by (shown_of cs)) ≡ asked (after cs)
asked_read cs = sym (asked_known_is (after cs) (known_by (shown_of cs)) (known_is cs) (always_kept cs))

-- a plan's lines tell its entries and what it leaves
pub board_read : (cs : List Call) (tag : ℕ)
    → board_by (known_by (shown_of cs)) (map entry_shown (entries_of (next_plan (after cs) tag).plan)) ≡ board_for (after cs)
board_read cs tag = board_made (after cs) (known_by (shown_of cs)) (known_is cs) (always_kept cs) tag

-- the line of an entry
pub line_of_entry : (cs : List Call) (e : ℕ) → line_of e (shown_of cs) ≡ entry_shown (entry_numbered e (after cs))
line_of_entry cs e =
    ap (λ (l : List EntryShown). get_or l e (entry_shown no_entry)) (sym (known_is cs).lines_are) ∙ image_at entry_shown (entries_of (after cs).plan) e no_entry

-- ---- what a caller would have seen
pub entry_asks : (cs : List Call) (e : ℕ) → get_or (in_force (events cs)) e no_ask ≡ (entry_numbered e (after cs)).ask
entry_asks cs e = ap (λ (l : List Ask). get_or l e no_ask) (sym (in_force_is cs)) ∙ image_at ask_of (entries_of (after cs).plan) e no_entry

-- what a call does, by two tellers that agree on the plan that it makes and on the message that it corrects
same_effect : (m n : ℕ → List Ask) (f g : Received → List ℕ) (c : Call) → ((tag : ℕ) → c ≡ calls.plan tag → m tag ≡ n tag)
    → ((r : Received) → c ≡ calls.reply r → f r ≡ g r) → effect_by m f c ≡ effect_by n g c
same_effect m n f g (calls.setup h) p q = refl
same_effect m n f g (calls.new a near far) p q = refl
same_effect m n f g (calls.remove a) p q = refl
same_effect m n f g (calls.move a near far) p q = refl
same_effect m n f g (calls.request r) p q = refl
same_effect m n f g (calls.plan tag) p q = ap planned (p tag refl)
same_effect m n f g (calls.reply r) p q = ap (spoke r.entry) (q r refl)
same_effect m n f g (calls.report a) p q = refl

module _ (cs : List Call) where
  -- the corrected message of a taken reply
  output_read : (r : Received) → (replied (after cs) r).number ≡ 0 → corrected_in (events cs) r ≡ (replied (after cs) r).buffers.output
  output_read r z =
      ap (λ (x : Ask). (flipped_by r.message (matches_for x.request r)).buffers.output) (entry_asks cs r.entry)
      ∙ sym (ap (λ (x : Replied). x.buffers.output) (taken (after cs) r z).is)

  made_read : (c : Call) (tag : ℕ) → c ≡ calls.plan tag
      → map ask_of (board_by (known_by (shown_of cs)) (map entry_shown (entries_made (after cs) c))).placed
      ≡ map ask_of (entries_of (next_plan (after cs) tag).plan)
  made_read c tag e =
      ap (λ (x : Call). map ask_of (board_by (known_by (shown_of cs)) (map entry_shown (entries_made (after cs) x))).placed) e
      ∙ ap (λ (b : Board). map ask_of b.placed) (board_read cs tag)
      ∙ ap (map ask_of) (sym (plan_shows (after cs) tag))

  done_read : (c : Call) → (answer (after cs) c).number ≡ 0
      → effect_by (λ tag. map ask_of (board_by (known_by (shown_of cs)) (map entry_shown (entries_made (after cs) c))).placed)
      (corrected_in (events cs)) c ≡ effect
      (after cs) c
  done_read c z =
      same_effect _ (λ tag. map ask_of (entries_of (next_plan (after cs) tag).plan)) (corrected_in (events cs))
      (λ r. (replied (after cs) r).buffers.output) c (made_read c)
      (λ r e. output_read r (ap (λ (x : Call). (answer (after cs) x).number) (sym e) ∙ z))

  seen_by : (x y : Effect) (n : ℕ) (b : Bool) → eqb n 0 ≡ b → (n ≡ 0 → x ≡ y) → pick b x none ≡ pick b y none
  seen_by x y n true e h = h (eqb-true n 0 e)
  seen_by x y n false e h = refl

  event_read : (c : Call)
      → event_for (events cs) (known_by (shown_of cs)) c (number_given cs c) (map entry_shown (entries_made (after cs) c))
      ≡ seen_as (answer (after cs) c).number (effect (after cs) c)
  event_read c =
      rw (← (demand1 cs).numbers c)
      (seen_by _ (effect (after cs) c) (answer (after cs) c).number (eqb (answer (after cs) c).number 0) refl (done_read c))

-- a reader finds what the caller would have seen
pub events_read : (cs : List Call) → events_by (shown_of cs) ≡ events cs
unfolding events_by shown_of events
events_read [] = refl
events_read (c ∷ cs) =
    ap₂ (λ (x : Effect) (l : List Effect). x ∷ l)
    (ap (λ (l : List Effect). event_for l (known_by (shown_of cs)) c (number_given cs c) (map entry_shown (entries_made (after cs) c))) (events_read cs)
    ∙ event_read cs c)
    (events_read cs)
