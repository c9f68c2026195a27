-- Theorems of replies to selective interrogations: one always draws a format, no field of the reply is out of its range, and the reply is the story's.
use Prim.Native.Nat.{ℕ, ◌+◌, ◌*◌, ◌≤◌}
use native.Mathlib.Omega.{arith}
use mathlib.Core.Path.{◌≡◌, refl, sym, ap, ◌∙◌, subst}
use mathlib.Core.Bool.{Bool, true, false, ◌&&◌, ◌||◌, not, false≢true}
use mathlib.Core.List.{List, [], ◌∷◌}
use lib.Dec.{eqb, leb}
use lib.ListN.{length, get_or, length-replicate}
use borrow.Author.Tests.{eqb-true, eq-eqb, le-leb}
use Rattle.std.specs.Prelude.{Some, Ok, Option, None}
use Rattle.lists.specs.Lists.{pick, All}
use Rattle.lists.specs.Checks.{checked}
use Rattle.lists.proofs.Tests.{and_true, and_yes}
use Rattle.frames_rules.specs.Building.{is_address, a_reply, reply_ranged, replying}
use Rattle.frames_rules.specs.Formats.{long_format, surveillance, length_of}
use Rattle.frames_rules.specs.Interrogations.{up_of}
use Rattle.frames_rules.specs.Shared.{short_reply, drawn}
use Rattle.frames_rules.specs.declared.answers.Up.TheVariants as up
use Rattle.frames_rules.proofs.Interrogations.{InFields, in_fields}
use Rattle.model_rules.specs.declared.state.Holder.{Holder}
use Rattle.model_rules.specs.declared.state.Messages.{Messages}
use Rattle.model_rules.specs.Answers.{Sent}
use Rattle.model_rules.specs.declared.state.Transponder.{Transponder}
use Rattle.model_rules.specs.State.{waiting, waits}
use Rattle.model_rules.specs.Replies.{sent_bytes, sending, dr_of, hides_um, um_of, bds2, mb_of, respond}
use Rattle.model_rules.specs.Calls.{make_ranged}
use Rattle.model_rules.specs.History.{Aircraft}
use Rattle.model_rules.specs.Kept.{HolderIn, Of56Bits, Kept}
use Rattle.model_rules.specs.Story.{Told, held_by, shows_dr, shows_um, shows_mb}
use Rattle.model_rules.specs.Replied.{format_drawn, value_for, reply_on}
use Rattle.model_rules.proofs.Came.{of_pick}
use Rattle.model_rules.proofs.Telling.{some_wait, Agree}

-- ---- the format that is drawn: it is listed, and long for RR 16; "UF 4/20 draw AC, UF 5/21 draw ID; RR 16 and above draws the long form"
pub record Drawn (rr df : ℕ) : Type 0 where
  pub listed : surveillance df ≡ true
  pub long : rr ≡ 16 → long_format df ≡ true

drawn_is : (uf rr : ℕ) → Drawn rr (format_drawn uf rr)
drawn_is uf rr = go (leb 16 rr) refl (eqb uf 4 || eqb uf 20)
  where
    go : (l : Bool) → leb 16 rr ≡ l → (ac : Bool) → Drawn rr (pick l (pick ac 4 5 + 16) (pick ac 4 5))
    go true h true = record { listed = refl; long = λ _. refl }
    go true h false = record { listed = refl; long = λ _. refl }
    go false h true = record { listed = refl; long = λ q. absurd (false≢true (sym h ∙ ap (leb 16) q)) }
    go false h false = record { listed = refl; long = λ q. absurd (false≢true (sym h ∙ ap (leb 16) q)) }

drawn_format : (uf rr : ℕ) → surveillance uf ≡ true → rr ≤ 31 → drawn uf rr ≡ Some (format_drawn uf rr)
unfolding drawn
drawn_format uf rr p q = rw (p, le-leb rr 31 q) (go (leb 16 rr))
  where
    go : (b : Bool) → pick b (Some (short_reply uf + 16)) (Some (short_reply uf)) ≡ Some (pick b (short_reply uf + 16) (short_reply uf))
    go true = refl
    go false = refl

-- a selective interrogation always draws a format
pub always_drawn : (f : List ℕ) (uf pc rr di sd ma r : ℕ) → up_of f ≡ Ok (up.Selective uf pc rr di sd ma r) → drawn uf rr ≡ Some (format_drawn uf rr)
always_drawn f uf pc rr di sd ma r e = let i = subst InFields e (in_fields f) in drawn_format uf rr i.0 i.1

-- ---- every field of a reply is in its range
first_in : (v : List ℕ) → All Of56Bits v → get_or v 0 0 ≤ 0xFFFFFFFFFFFFFF
unfolding All
first_in [] h = omega arith
first_in (x ∷ v) h = let k = h.0 in omega (arith, k)

or_last : (x y : Bool) → y ≡ true → x || y ≡ true
or_last true y e = refl
or_last false y e = e

mb_in : (df rr di sd : ℕ) (m : Messages) → Drawn rr df → All Of56Bits (waiting m)
    → eqb (mb_of rr di sd m) 0 || leb (mb_of rr di sd m) 0xFFFFFFFFFFFFFF && long_format df ≡ true
mb_in df rr di sd m d h = go (eqb rr 16) refl (eqb (bds2 di sd) 0)
  where
    go : (x : Bool) → eqb rr 16 ≡ x → (y : Bool)
        → let mb = pick (x && y) (get_or (waiting m) 0 0) 0 in eqb mb 0 || leb mb 0xFFFFFFFFFFFFFF && long_format df ≡ true
    go true e true =
        or_last (eqb (get_or (waiting m) 0 0) 0) (leb (get_or (waiting m) 0 0) 0xFFFFFFFFFFFFFF && long_format df)
        (and_yes (leb (get_or (waiting m) 0 0) 0xFFFFFFFFFFFFFF) (long_format df) (le-leb (get_or (waiting m) 0 0) 0xFFFFFFFFFFFFFF (first_in (waiting m) h))
        (d.long (eqb-true rr 16 e)))
    go true e false = refl
    go false e y = refl

um_in : (di sd : ℕ) (h : Option Holder) → HolderIn h → um_of di sd h ≤ 63
um_in di sd None k = omega arith
um_in di sd (Some h) k = go (hides_um di sd)
  where
    go : (b : Bool) → pick b 0 (4 * h.ii + 1) ≤ 63
    go true = omega arith
    go false = let j = k.1 in omega (arith, j)

dr_in : (m : Messages) → dr_of m ≤ 31
dr_in m = go (waits m)
  where
    go : (b : Bool) → pick b 1 0 ≤ 31
    go true = omega arith
    go false = omega arith

-- what a making's ranges say
pub record In (a : Aircraft) : Type 0 where
  pub address_in : is_address a.address ≡ true
  pub ac_in : leb a.ac 8191 ≡ true
  pub id_in : leb a.id 8191 ≡ true
  pub fs_in : leb a.fs 7 ≡ true
  pub ca_in : leb a.ca 7 ≡ true

pub ranges : (a : Aircraft) → make_ranged a.address a.ac a.id a.fs a.ca ≡ true → In a
unfolding make_ranged
ranges a h =
    let t = and_true (is_address a.address && leb a.ac 8191 && leb a.id 8191 && leb a.fs 7) (leb a.ca 7) h in
    let u = and_true (is_address a.address && leb a.ac 8191 && leb a.id 8191) (leb a.fs 7) t.0 in
    let v = and_true (is_address a.address && leb a.ac 8191) (leb a.id 8191) u.0 in
    let w = and_true (is_address a.address) (leb a.ac 8191) v.0 in
    record { address_in = w.0; ac_in = w.1; id_in = v.1; fs_in = u.1; ca_in = t.1 }

value_in : (a : Aircraft) (uf : ℕ) → In a → leb (value_for uf a) 8191 ≡ true
value_in a uf r = go (eqb uf 4 || eqb uf 20)
  where
    go : (b : Bool) → leb (pick b a.ac a.id) 8191 ≡ true
    go true = r.ac_in
    go false = r.id_in

-- ---- what a reply shows, by the transponder and by the story
dr_is : (w : List ℕ) → pick (not (eqb (length w) 0)) 1 0 ≡ shows_dr w
dr_is [] = refl
dr_is (m ∷ ms) = rw (some_wait m ms)

um_is : (di sd : ℕ) (h : Option Holder) → um_of di sd h ≡ shows_um di sd h
um_is di sd None = refl
um_is di sd (Some h) = refl

mb_is : (rr di sd : ℕ) (w : List ℕ) → pick (eqb rr 16 && eqb (bds2 di sd) 0) (get_or w 0 0) 0 ≡ shows_mb rr di sd w
mb_is rr di sd [] = of_pick (λ (n : ℕ). n ≡ 0) (eqb rr 16 && eqb (bds2 di sd) 0) 0 0 refl refl
mb_is rr di sd (m ∷ ms) = refl

-- ---- a selective interrogation
module _ (a : Aircraft) (u : Transponder) (k : Kept a u) (s : Told) (g : Agree u s) (uf rr di sd : ℕ) where
  abbrev df : ℕ
  df = format_drawn uf rr

  reply_ranged_is : reply_ranged df a.fs (dr_of u.messages) (um_of di sd u.holder) (value_for uf a) (mb_of rr di sd u.messages) a.address ≡ true
  unfolding reply_ranged
  reply_ranged_is =
      let r = ranges a k.ranged in
      and_yes _ _
      (and_yes _ _
      (and_yes _ _
      (and_yes _ _
      (and_yes _ _ r.fs_in (le-leb (dr_of u.messages) 31 (dr_in u.messages)))
      (le-leb (um_of di sd u.holder) 63 (um_in di sd u.holder k.holder)))
      (value_in a uf r))
      r.address_in)
      (mb_in df rr di sd u.messages (drawn_is uf rr) k.messages)

  -- the reply with DR, UM and MB
  abbrev replying_with : ℕ → ℕ → ℕ → Sent
  replying_with dr um mb = sent_bytes (a_reply df a.fs dr um (value_for uf a) mb a.address)

  responds : drawn uf rr ≡ Some df → respond uf rr di sd u ≡ replying_with (dr_of u.messages) (um_of di sd u.holder) (mb_of rr di sd u.messages)
  unfolding checked respond replying sending
  responds e =
      let long = eq-eqb (length_of df) (length_of df) refl in
      rw (e, k.same.fs, k.same.ac, k.same.id, k.same.address, (drawn_is uf rr).listed, length-replicate {A = ℕ} (length_of df) 0, long, reply_ranged_is)

  pub told_response : drawn uf rr ≡ Some df → respond uf rr di sd u ≡ sent_bytes (reply_on a s uf rr di sd)
  told_response e =
      let dr : dr_of u.messages ≡ shows_dr s.messages = dr_is (waiting u.messages) ∙ ap shows_dr g.messages in
      let um : um_of di sd u.holder ≡ shows_um di sd (held_by s) = um_is di sd u.holder ∙ ap (shows_um di sd) g.holder in
      let mb : mb_of rr di sd u.messages ≡ shows_mb rr di sd s.messages = mb_is rr di sd (waiting u.messages) ∙ ap (shows_mb rr di sd) g.messages in
      responds e
      ∙ ap (λ (x : ℕ). replying_with x (um_of di sd u.holder) (mb_of rr di sd u.messages)) dr
      ∙ ap (λ (x : ℕ). replying_with (shows_dr s.messages) x (mb_of rr di sd u.messages)) um
      ∙ ap (λ (x : ℕ). replying_with (shows_dr s.messages) (shows_um di sd (held_by s)) x) mb
