-- What the tests of formats and ranges say when they are passed, and the frame that a builder then writes.
use mathlib.Core.Path.{◌≡◌, refl}
use mathlib.Core.Bool.{Bool, true, false, ◌&&◌, ◌||◌}
use mathlib.Core.List.{List}
use mathlib.Core.Logic.{◌⊎◌, inl, inr}
use Prim.Native.Nat.{ℕ, ◌<◌, ◌≤◌}
use native.Mathlib.Omega.{arith}
use lib.Dec.{eqb, leb}
use borrow.Author.Tests.{eqb-true, leb-true}
use Rattle.lists.specs.Lists.{pick}
use Rattle.lists.proofs.Tests.{and_true, or_true}
use Rattle.parity_rules.specs.Messages.{seven_or_fourteen}
use Rattle.parity_rules.specs.Overlays.{overlay_of}
use Rattle.frames_rules.specs.Codes.{station_ranged}
use Rattle.frames_rules.specs.Shared.{code_number}
use Rattle.frames_rules.specs.Fields.{selective_head, all_call_head, reply_head, all_call_reply_head}
use Rattle.frames_rules.specs.Formats.{long_format, surveillance, length_of}
use Rattle.frames_rules.specs.Frames.{framed}
use Rattle.frames_rules.specs.Building.{is_address, selective_ranged, all_call_ranged, reply_ranged, all_call_reply_ranged, selective, all_call, a_reply}
use Rattle.frames_rules.specs.Building.{an_all_call_reply}

-- ---- formats
one_of : (f a b : ℕ) → eqb f a || eqb f b ≡ true → (f ≡ a) ⊎ (f ≡ b)
one_of f a b h = go (or_true (eqb f a) (eqb f b) h)
  where
    go : (eqb f a ≡ true) ⊎ (eqb f b ≡ true) → (f ≡ a) ⊎ (f ≡ b)
    go (inl e) = inl (eqb-true f a e)
    go (inr e) = inr (eqb-true f b e)

pub long_is : (f : ℕ) → long_format f ≡ true → (f ≡ 20) ⊎ (f ≡ 21)
long_is f h = one_of f 20 21 h

pub surveillance_is : (f : ℕ) → surveillance f ≡ true → ((f ≡ 4) ⊎ (f ≡ 5)) ⊎ ((f ≡ 20) ⊎ (f ≡ 21))
surveillance_is f h = go (or_true (eqb f 4 || eqb f 5) (long_format f) h)
  where
    go : (eqb f 4 || eqb f 5 ≡ true) ⊎ (long_format f ≡ true) → ((f ≡ 4) ⊎ (f ≡ 5)) ⊎ ((f ≡ 20) ⊎ (f ≡ 21))
    go (inl e) = inl (one_of f 4 5 e)
    go (inr e) = inr (long_is f e)

pub surveillance_lt : (f : ℕ) → surveillance f ≡ true → f < 32
surveillance_lt f h = go (surveillance_is f h)
  where
    go : ((f ≡ 4) ⊎ (f ≡ 5)) ⊎ ((f ≡ 20) ⊎ (f ≡ 21)) → f < 32
    go (inl (inl e)) = omega arith
    go (inl (inr e)) = omega arith
    go (inr (inl e)) = omega arith
    go (inr (inr e)) = omega arith

pub format_length : (f : ℕ) → seven_or_fourteen (length_of f) ≡ true
format_length f = go (long_format f)
  where
    go : (b : Bool) → seven_or_fourteen (pick b 14 7) ≡ true
    go true = refl
    go false = refl

-- ---- ranges
pub address_in : (a : ℕ) → is_address a ≡ true → (1 ≤ a) × (a ≤ 16777214)
address_in a h = let t = and_true (leb 1 a) (leb a 16777214) h in (leb-true 1 a t.0, leb-true a 16777214 t.1)

-- MA or MB: zero, or of 56 bits in a long format
number_in : (f n : ℕ) → eqb n 0 || leb n 0xFFFFFFFFFFFFFF && long_format f ≡ true → (n ≤ 0xFFFFFFFFFFFFFF) × ((n ≡ 0) ⊎ (long_format f ≡ true))
number_in f n h = go (or_true (eqb n 0) (leb n 0xFFFFFFFFFFFFFF && long_format f) h)
  where
    go : (eqb n 0 ≡ true) ⊎ (leb n 0xFFFFFFFFFFFFFF && long_format f ≡ true) → (n ≤ 0xFFFFFFFFFFFFFF) × ((n ≡ 0) ⊎ (long_format f ≡ true))
    go (inl e) = let z = eqb-true n 0 e in (omega arith, inl z)
    go (inr e) = let t = and_true (leb n 0xFFFFFFFFFFFFFF) (long_format f) e in (leb-true n 0xFFFFFFFFFFFFFF t.0, inr t.1)

pub record InSelective (uf pc rr di sd ma address : ℕ) : Type 0 where
  pub format : surveillance uf ≡ true
  pub pc_le : pc ≤ 7
  pub rr_le : rr ≤ 31
  pub di_le : di ≤ 7
  pub sd_le : sd ≤ 65535
  pub address_is : (1 ≤ address) × (address ≤ 16777214)
  pub ma_le : ma ≤ 0xFFFFFFFFFFFFFF
  pub ma_is : (ma ≡ 0) ⊎ (long_format uf ≡ true)

pub selective_in : (uf pc rr di sd ma a : ℕ) → selective_ranged uf pc rr di sd ma a ≡ true → InSelective uf pc rr di sd ma a
unfolding selective_ranged
selective_in uf pc rr di sd ma a h =
    let t =
    and_true (surveillance uf && leb pc 7 && leb rr 31 && leb di 7 && leb sd 65535 && is_address a) (eqb ma 0 || leb ma 0xFFFFFFFFFFFFFF && long_format uf) h in
    let u = and_true (surveillance uf && leb pc 7 && leb rr 31 && leb di 7 && leb sd 65535) (is_address a) t.0 in
    let v = and_true (surveillance uf && leb pc 7 && leb rr 31 && leb di 7) (leb sd 65535) u.0 in
    let w = and_true (surveillance uf && leb pc 7 && leb rr 31) (leb di 7) v.0 in
    let x = and_true (surveillance uf && leb pc 7) (leb rr 31) w.0 in
    let y = and_true (surveillance uf) (leb pc 7) x.0 in
    let m = number_in uf ma t.1 in
    record {
      format = y.0;
      pc_le = leb-true pc 7 y.1;
      rr_le = leb-true rr 31 x.1;
      di_le = leb-true di 7 w.1;
      sd_le = leb-true sd 65535 v.1;
      address_is = address_in a u.1;
      ma_le = m.0;
      ma_is = m.1;
    }

pub all_call_in : (pr ic cl : ℕ) → all_call_ranged pr ic cl ≡ true → (pr ≤ 15) × (ic ≤ 15) × (cl ≤ 7)
unfolding all_call_ranged
all_call_in pr ic cl h =
    let t = and_true (leb pr 15 && leb ic 15) (leb cl 7) h in
    let u = and_true (leb pr 15) (leb ic 15) t.0 in
    (leb-true pr 15 u.0, leb-true ic 15 u.1, leb-true cl 7 t.1)

pub record InReply (df fs dr um value mb address : ℕ) : Type 0 where
  pub fs_le : fs ≤ 7
  pub dr_le : dr ≤ 31
  pub um_le : um ≤ 63
  pub value_le : value ≤ 8191
  pub address_is : (1 ≤ address) × (address ≤ 16777214)
  pub mb_le : mb ≤ 0xFFFFFFFFFFFFFF
  pub mb_is : (mb ≡ 0) ⊎ (long_format df ≡ true)

pub reply_in : (df fs dr um value mb a : ℕ) → reply_ranged df fs dr um value mb a ≡ true → InReply df fs dr um value mb a
unfolding reply_ranged
reply_in df fs dr um value mb a h =
    let t = and_true (leb fs 7 && leb dr 31 && leb um 63 && leb value 8191 && is_address a) (eqb mb 0 || leb mb 0xFFFFFFFFFFFFFF && long_format df) h in
    let u = and_true (leb fs 7 && leb dr 31 && leb um 63 && leb value 8191) (is_address a) t.0 in
    let v = and_true (leb fs 7 && leb dr 31 && leb um 63) (leb value 8191) u.0 in
    let w = and_true (leb fs 7 && leb dr 31) (leb um 63) v.0 in
    let x = and_true (leb fs 7) (leb dr 31) w.0 in
    let m = number_in df mb t.1 in
    record {
      fs_le = leb-true fs 7 x.0;
      dr_le = leb-true dr 31 x.1;
      um_le = leb-true um 63 w.1;
      value_le = leb-true value 8191 v.1;
      address_is = address_in a u.1;
      mb_le = m.0;
      mb_is = m.1;
    }

pub all_call_reply_in : (ca a cl ic : ℕ) → all_call_reply_ranged ca a cl ic ≡ true → (ca ≤ 7) × ((1 ≤ a) × (a ≤ 16777214)) × (cl ≤ 7) × (ic ≤ 15)
unfolding all_call_reply_ranged
all_call_reply_in ca a cl ic h =
    let t = and_true (leb ca 7 && is_address a && leb cl 7) (leb ic 15) h in
    let u = and_true (leb ca 7 && is_address a) (leb cl 7) t.0 in
    let v = and_true (leb ca 7) (is_address a) u.0 in
    (leb-true ca 7 v.0, address_in a v.1, leb-true cl 7 u.1, leb-true ic 15 t.1)

pub station_in : (cl ic permit : ℕ) → station_ranged cl ic permit ≡ true → (cl ≤ 7) × (ic ≤ 15) × (permit ≤ 1)
station_in cl ic permit h =
    let t = and_true (leb cl 7 && leb ic 15) (leb permit 1) h in
    let u = and_true (leb cl 7) (leb ic 15) t.0 in
    (leb-true cl 7 u.0, leb-true ic 15 u.1, leb-true permit 1 t.1)

-- ---- the frame that is written, from what the private functions gave
pub selective_is : (x : List ℕ) (uf pc rr di sd ma address n head mid overlay : ℕ)
    → x ≡ framed n head mid overlay → n ≡ length_of uf → head ≡ selective_head uf pc rr di sd → mid ≡ ma → overlay ≡ overlay_of address
    → x ≡ selective uf pc rr di sd ma address
unfolding selective
selective_is x uf pc rr di sd ma address n head mid overlay e a b c d = cc

pub all_call_is : (x : List ℕ) (pr ic cl n head overlay : ℕ)
    → x ≡ framed n head 0 overlay → n ≡ 7 → head ≡ all_call_head pr ic cl → overlay ≡ overlay_of 0xFFFFFF → x ≡ all_call pr ic cl
unfolding all_call
all_call_is x pr ic cl n head overlay e a b c = cc

pub reply_is : (x : List ℕ) (df fs dr um value mb address n head : ℕ)
    → x ≡ framed n head mb address → n ≡ length_of df → head ≡ reply_head df fs dr um value → x ≡ a_reply df fs dr um value mb address
unfolding a_reply
reply_is x df fs dr um value mb address n head e a b = cc

pub all_call_reply_is : (x : List ℕ) (ca address cl ic n head overlay : ℕ)
    → x ≡ framed n head 0 overlay → n ≡ 7 → head ≡ all_call_reply_head ca address → overlay ≡ code_number cl ic → x ≡ an_all_call_reply ca address cl ic
unfolding an_all_call_reply
all_call_reply_is x ca address cl ic n head overlay e a b c = cc
