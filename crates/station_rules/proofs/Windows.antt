-- Receiver tags and windows: the counter's wrap takes nothing from a reply's start, a taken reply lies whole in the listening window of its entry, and
-- the ticks that a plan gives a request are those of its frames.
use borrow.Author.Tests.{leb-true, le-leb, lt-leb}
use Prim.Native.Nat.{ℕ, ◌+◌, ◌-◌, ◌%◌, ◌^◌, ◌≤◌, ◌<◌}
use native.Mathlib.Nat.{zero-add}
use native.Mathlib.Omega.{arith}
use mathlib.Core.Path.{◌≡◌, refl, sym, ap, ◌∙◌}
use mathlib.Core.List.{List}
use lib.ListN.{length}
use lib.IntN.{ℤ, pos, neg_ℤ, sub_ℕ, ◌+ℤ◌, ◌-ℤ◌, +ℤ_assoc, neg_ℤ-+ℤ}
use mathlib.Core.Bool.{Bool, true, false}
use mathlib.Core.Logic.{◌⊎◌, inl, inr}
use lib.Dec.{leb, ltb, eqb}
use borrow.Author.Tests.{ltb-true, ltb-false}
use Rattle.std.specs.Prelude.{Some}
use Rattle.lists.specs.Lists.{pick}
use Rattle.lists.proofs.Tests.{and_left, and_right}
use Rattle.lists.proofs.Signed.{minus, sub_nothing, same_difference, difference_same, difference_le}
use Rattle.frames_rules.specs.Formats.{surveillance, length_of}
use Rattle.frames_rules.specs.Shared.{short_reply, drawn}
use Rattle.frames_rules.proofs.Ranges.{surveillance_is}
use Rattle.planner_rules.specs.declared.entry.Entry.{Entry}
use Rattle.planner_rules.specs.declared.request.Request.{Request}
use Rattle.planner_rules.specs.Exchange.{sent_short, sent_long, reply_short, reply_long, earliest, latest, sent_for, reply_for, listens}
use Rattle.station_rules.specs.Calls.{request_ranged}
use Rattle.station_rules.specs.Replies.{format_in, expected, start_of, in_window, delay_of}
use Rattle.station_rules.specs.Demands.{lasts, InTime}
use Rattle.station_rules.proofs.Keeping.{request_in}

-- a reply that starts s ticks after the plan's tag has that start, wherever the counter wraps
pub start_is : (plan_tag s : ℕ) → plan_tag < 2 ^ 32 → s < 2 ^ 32 → start_of ((plan_tag + s) % 2 ^ 32) plan_tag ≡ s
unfolding start_of
start_is p s hp hs = go (ltb (p + s) (2 ^ 32)) refl
  where
    go : (b : Bool) → ltb (p + s) (2 ^ 32) ≡ b → pick (leb p ((p + s) % 2 ^ 32)) ((p + s) % 2 ^ 32 - p) ((p + s) % 2 ^ 32 + 2 ^ 32 - p) ≡ s
    go true e =
        let l = ltb-true (p + s) (2 ^ 32) e in
        let m : (p + s) % 2 ^ 32 ≡ p + s = omega (arith, l) in
        rw (m, le-leb p (p + s) (omega arith)) (omega arith)
    go false e =
        let l = ltb-false (p + s) (2 ^ 32) e in
        let m : (p + s) % 2 ^ 32 ≡ p + s - 2 ^ 32 = omega (arith, l, hp, hs) in
        rw (m, lt-leb p (p + s - 2 ^ 32) (omega (arith, l, hp, hs))) (omega (arith, l, hp, hs))

-- a reply that may be taken begins and ends in the entry's listening window, which overlaps no other of the plan
pub in_listening : (e : Entry) (s : ℕ) → in_window e s ≡ true → ((listens e).lo ≤ s) × (s + reply_for e.ask.request.rr ≤ (listens e).hi)
unfolding in_window
in_listening e s h =
    let a = leb-true (e.start + earliest + e.ask.near) s
    (and_left (leb (e.start + earliest + e.ask.near) s) (leb s (e.start + latest + e.ask.far)) h) in
    let b = leb-true s (e.start + latest + e.ask.far) (and_right (leb (e.start + earliest + e.ask.near) s) (leb s (e.start + latest + e.ask.far)) h) in
    (omega (arith, a), omega (arith, b))

-- ---- the measured delay
-- s − t − 531, as the document writes it, is what is told
delay_is : (e : Entry) (s : ℕ) → delay_of e s ≡ pos s -ℤ pos e.start -ℤ pos 531
delay_is e s =
    sym (minus s (e.start + 531))
    ∙ ap (λ (z : ℤ). pos s +ℤ z) (neg_ℤ-+ℤ (pos e.start) (pos 531))
    ∙ sym (+ℤ_assoc (pos s) (neg_ℤ (pos e.start)) (neg_ℤ (pos 531)))

-- ---- ticks and bytes
-- of each format that a request can have: its interrogation takes 135 ticks exactly if it has 14 bytes, and its reply, long or short, 480 exactly so
record Matches (uf : ℕ) : Type 0 where
  sent : pick (leb 20 uf) sent_long sent_short ≡ pick (eqb (length_of uf) 14) sent_long sent_short
  long : eqb (length_of (short_reply uf + 16)) 14 ≡ true
  short : eqb (length_of (short_reply uf)) 14 ≡ false

each_format : (uf : ℕ) → surveillance uf ≡ true → Matches uf
each_format uf h = go (surveillance_is uf h)
  where
    go : ((uf ≡ 4) ⊎ (uf ≡ 5)) ⊎ ((uf ≡ 20) ⊎ (uf ≡ 21)) → Matches uf
    go (inl (inl e)) = rw e (record { sent = refl; long = refl; short = refl })
    go (inl (inr e)) = rw e (record { sent = refl; long = refl; short = refl })
    go (inr (inl e)) = rw e (record { sent = refl; long = refl; short = refl })
    go (inr (inr e)) = rw e (record { sent = refl; long = refl; short = refl })

-- a plan gives a request's interrogation 135 ticks exactly if its frame has 14 bytes
pub as_long_as_sent : (uf : ℕ) → surveillance uf ≡ true → sent_for uf ≡ pick (eqb (length_of uf) 14) sent_long sent_short
unfolding sent_for
as_long_as_sent uf h = (each_format uf h).sent

-- and its reply 480 exactly if the format that it draws has 14 bytes
pub as_long_as_drawn : (q : Request) → surveillance q.uf ≡ true → q.rr ≤ 31 → reply_for q.rr ≡ pick (eqb (length_of (expected q)) 14) reply_long reply_short
unfolding reply_for expected drawn
as_long_as_drawn q h r = rw (h, le-leb q.rr 31 r) (go (leb 16 q.rr))
  where
    go : (b : Bool)
        → pick b reply_long reply_short ≡ pick (eqb (length_of (format_in (pick b (Some (short_reply q.uf + 16)) (Some (short_reply q.uf))))) 14)
        reply_long reply_short
    go true = rw (each_format q.uf h).long
    go false = rw (each_format q.uf h).short

-- ---- a reply that is taken
-- a message of the length that its request expects lasts as long as the plan has it
lasts_as_drawn : (q : Request) (msg : List ℕ) → request_ranged q ≡ true → length msg ≡ length_of (expected q) → lasts msg ≡ reply_for q.rr
lasts_as_drawn q msg h e = let g = (request_in q h).1 in rw e (sym (as_long_as_drawn q g.format g.rr_le))

-- a start within the entry's limits, of a message as long as the entry's reply
pub in_time : (e : Entry) (s : ℕ) (msg : List ℕ) → request_ranged e.ask.request ≡ true → length msg ≡ length_of (expected e.ask.request)
    → in_window e s ≡ true → InTime e s msg (delay_of e s)
in_time e s msg h l w =
    let in-it = in_listening e s w in
    let at = e.start + 531 in
    let top : sub_ℕ (e.ask.far + 1) 0 ≡ pos (e.ask.far + 1) = sub_nothing (e.ask.far + 1) in
    record {
      begins = in-it.0;
      ends = rw (lasts_as_drawn e.ask.request msg h l) in-it.1;
      measured = delay_is e s;
      minus_one = (λ d. difference_same s 0 at 1 d ∙ zero-add at, λ d. same_difference s 0 at 1 (d ∙ sym (zero-add at)));
      least = difference_le e.ask.near s 1 (e.start + 531) (omega (arith, in-it.0));
      most = rw top at (difference_le s (e.ask.far + 1) (e.start + 531) 0 (omega (arith, in-it.1)));
    }
