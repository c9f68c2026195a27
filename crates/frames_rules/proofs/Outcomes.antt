-- Reading what a builder wrote gives back every field, and its remainder is the overlay.
use mathlib.Core.Path.{◌≡◌, refl, sym, ap, ◌∙◌}
use mathlib.Core.Bool.{Bool, true, false, ◌||◌}
use mathlib.Core.List.{List, [], ◌∷◌}
use mathlib.Core.Logic.{◌⊎◌, inl, inr}
use Prim.Native.Nat.{ℕ}
use native.Mathlib.Omega.{arith}
use lib.Dec.{eqb}
use lib.ListN.{length}
use borrow.Author.Tests.{eq-eqb, ne_eqb, not-false}
use Rattle.std.specs.Prelude.{Some, Result, Ok}
use Rattle.lists.specs.Lists.{pick}
use Rattle.lists.specs.Checks.{Check, checked, None, numbered}
use Rattle.lists.specs.Answers.{Answer, done, refused_by}
use Rattle.lists.proofs.Tests.{and_yes}
use Rattle.lists.proofs.Checks.{CameTo, was_refused, was_done, came_to, all, end, not_off}
use Rattle.parity_rules.specs.Messages.{bits, seven_or_fourteen}
use Rattle.parity_rules.specs.Division.{remainder_of}
use Rattle.parity_rules.specs.Overlays.{overlay_of}
use Rattle.parity_rules.proofs.Laws.{overlay_lt}
use Rattle.refusals.specs.declared.refusal.Refusal.{Refusal}
use Rattle.refusals.specs.Refusals.{number_given}
use Rattle.frames_rules.specs.Answers.{Building, built_said, holding, not_built, own}
use Rattle.frames_rules.specs.Addresses.{address_of}
use Rattle.frames_rules.specs.Bytes.{number_of_bytes}
use Rattle.frames_rules.specs.Fields.{head_of, mid_of, value_at, at_uf, selective_head, all_call_head, reply_head, all_call_reply_head}
use Rattle.frames_rules.specs.Formats.{long_format, surveillance, length_of, listed}
use Rattle.frames_rules.specs.Building.{selective_ranged, all_call_ranged, reply_ranged, all_call_reply_ranged, selective, all_call, a_reply, an_all_call_reply}
use Rattle.frames_rules.specs.Building.{building_checks, building, all_calling_checks, all_calling, replying_checks, replying, all_call_replying_checks}
use Rattle.frames_rules.specs.Building.{all_call_replying}
use Rattle.frames_rules.specs.Reading.{format_of, read_as, read_up, read_down, selective_read, all_call_read, surveillance_read, all_call_reply_read}
use Rattle.frames_rules.specs.Codes.{station_ranged, whose, code_of}
use Rattle.frames_rules.specs.Shared.{code_number}
use Rattle.frames_rules.proofs.Heads.{selective_lt, selective_format, selective_fields, all_call_lt, all_call_format, all_call_fields, reply_lt}
use Rattle.frames_rules.proofs.Heads.{reply_format, reply_fields, all_call_reply_lt, all_call_reply_format, all_call_reply_fields}
use Rattle.frames_rules.proofs.Invert.{address_back}
use Rattle.frames_rules.proofs.Ranges.{surveillance_is, surveillance_lt, format_length, selective_in, all_call_in, reply_in, all_call_reply_in}
use Rattle.frames_rules.proofs.Sealing.{Parts, frame_parts}

-- ---- formats
or_last : (a b : Bool) → b ≡ true → a || b ≡ true
or_last true b h = refl
or_last false b h = h

pub listed_surveillance : (f : ℕ) → surveillance f ≡ true → listed f (length_of f) ≡ true
listed_surveillance f h = rw (eq-eqb (length_of f) (length_of f) refl) (or_last (eqb f 11) (surveillance f) h)

pub not_eleven : (f : ℕ) → surveillance f ≡ true → f ≡ 11 → ⊥
not_eleven f h e = go (surveillance_is f h)
  where
    go : ((f ≡ 4) ⊎ (f ≡ 5)) ⊎ ((f ≡ 20) ⊎ (f ≡ 21)) → ⊥
    go (inl (inl q)) = omega arith
    go (inl (inr q)) = omega arith
    go (inr (inl q)) = omega arith
    go (inr (inr q)) = omega arith

long_or_zero : (f mid : ℕ) → (mid ≡ 0) ⊎ (long_format f ≡ true) → (length_of f ≡ 14) ⊎ (mid ≡ 0)
long_or_zero f mid (inl e) = inr e
long_or_zero f mid (inr e) = inl (rw e)

-- ---- a frame of given parts, read
module _ (eleven : ℕ → ℕ → Answer) (others : ℕ → ℕ → ℕ → Answer) (m : List ℕ) where
  -- no line is the case
  passed_reads : seven_or_fourteen (length m) ≡ true → listed (format_of m) (length m) ≡ true
      → read_as eleven others m
      ≡ pick (eqb (format_of m) 11) (eleven (head_of m) (remainder_of (bits m))) (others (head_of m) (mid_of m) (remainder_of (bits m)))
  unfolding read_as
  passed_reads h l = sym (end refused_by _ all (not_off _ h, (not_off _ l, tt)))

  module _ (head mid overlay : ℕ) where
    surveillance_reads : (f : ℕ) → surveillance f ≡ true → value_at at_uf head ≡ f → Parts (length_of f) head mid overlay m
        → read_as eleven others m ≡ others head mid overlay
    surveillance_reads f h e p =
        let q : format_of m ≡ f = ap (value_at at_uf) p.head_is ∙ e in
        let l : listed (format_of m) (length m) ≡ true = rw (q, p.length_is) (listed_surveillance f h) in
        passed_reads (ap seven_or_fourteen p.length_is ∙ format_length f) l
        ∙ rw (ne_eqb (format_of m) 11 (λ z. not_eleven f h (sym q ∙ z)), p.head_is, p.mid_is, p.remainder_is)

    all_call_reads : value_at at_uf head ≡ 11 → Parts 7 head mid overlay m → read_as eleven others m ≡ eleven head overlay
    all_call_reads e p =
        let q : format_of m ≡ 11 = ap (value_at at_uf) p.head_is ∙ e in
        let l : listed (format_of m) (length m) ≡ true = rw (q, p.length_is) in
        passed_reads (ap seven_or_fourteen p.length_is) l ∙ rw (eq-eqb (format_of m) 11 q, p.head_is, p.remainder_is)

-- ---- interrogations
module _ (uf pc rr di sd ma address : ℕ) (hr : selective_ranged uf pc rr di sd ma address ≡ true) where
  pub selective_parts : Parts (length_of uf) (selective_head uf pc rr di sd) ma (overlay_of address) (selective uf pc rr di sd ma address)
  unfolding selective
  selective_parts =
      let r = selective_in uf pc rr di sd ma address hr in
      frame_parts (selective_head uf pc rr di sd) ma (overlay_of address)
      (selective_lt uf pc rr di sd (surveillance_lt uf r.format) (omega arith) (omega arith) (omega arith) (omega arith)) (omega arith) (overlay_lt address)
      (length_of uf) (format_length uf) (long_or_zero uf ma r.ma_is)

  pub read_selective : read_up (selective uf pc rr di sd ma address) ≡ done (uf ∷ pc ∷ rr ∷ di ∷ sd ∷ ma ∷ overlay_of address ∷ [])
  read_selective =
      let r = selective_in uf pc rr di sd ma address hr in
      surveillance_reads all_call_read selective_read (selective uf pc rr di sd ma address) (selective_head uf pc rr di sd) ma (overlay_of address) uf r.format
      (selective_format uf pc rr di sd (surveillance_lt uf r.format) (omega arith) (omega arith) (omega arith) (omega arith)) selective_parts
      ∙ selective_fields uf pc rr di sd (surveillance_lt uf r.format) (omega arith) (omega arith) (omega arith) (omega arith) ma (overlay_of address)

  -- the address is found again in the frame
  pub selective_address : address_of (remainder_of (bits (selective uf pc rr di sd ma address))) ≡ Some address
  selective_address =
      let r = selective_in uf pc rr di sd ma address hr in
      ap address_of selective_parts.remainder_is ∙ address_back address (omega arith)

module _ (pr ic cl : ℕ) (hr : all_call_ranged pr ic cl ≡ true) where
  pub all_call_parts : Parts 7 (all_call_head pr ic cl) 0 (overlay_of 0xFFFFFF) (all_call pr ic cl)
  unfolding all_call
  all_call_parts =
      let r = all_call_in pr ic cl hr in
      frame_parts (all_call_head pr ic cl) 0 (overlay_of 0xFFFFFF) (all_call_lt pr ic cl (omega arith) (omega arith) (omega arith)) (omega arith)
      (overlay_lt 0xFFFFFF) 7 refl (inr refl)

  pub read_all_call : read_up (all_call pr ic cl) ≡ done (11 ∷ pr ∷ ic ∷ cl ∷ overlay_of 0xFFFFFF ∷ [])
  read_all_call =
      let r = all_call_in pr ic cl hr in
      all_call_reads all_call_read selective_read (all_call pr ic cl) (all_call_head pr ic cl) 0 (overlay_of 0xFFFFFF)
      (all_call_format pr ic cl (omega arith) (omega arith) (omega arith)) all_call_parts
      ∙ all_call_fields pr ic cl (omega arith) (omega arith) (omega arith) (overlay_of 0xFFFFFF)

-- ---- replies
module _ (df fs dr um value mb address : ℕ) (hf : surveillance df ≡ true) (hr : reply_ranged df fs dr um value mb address ≡ true) where
  pub reply_parts : Parts (length_of df) (reply_head df fs dr um value) mb address (a_reply df fs dr um value mb address)
  unfolding a_reply
  reply_parts =
      let r = reply_in df fs dr um value mb address hr in
      frame_parts (reply_head df fs dr um value) mb address
      (reply_lt df fs dr um value (surveillance_lt df hf) (omega arith) (omega arith) (omega arith) (omega arith)) (omega arith) (omega arith)
      (length_of df) (format_length df) (long_or_zero df mb r.mb_is)

  pub read_reply : read_down (a_reply df fs dr um value mb address) ≡ done (df ∷ fs ∷ dr ∷ um ∷ value ∷ mb ∷ address ∷ [])
  read_reply =
      let r = reply_in df fs dr um value mb address hr in
      surveillance_reads all_call_reply_read surveillance_read (a_reply df fs dr um value mb address) (reply_head df fs dr um value) mb address df hf
      (reply_format df fs dr um value (surveillance_lt df hf) (omega arith) (omega arith) (omega arith) (omega arith)) reply_parts
      ∙ reply_fields df fs dr um value (surveillance_lt df hf) (omega arith) (omega arith) (omega arith) (omega arith) mb address

module _ (ca address cl ic : ℕ) (hr : all_call_reply_ranged ca address cl ic ≡ true) where
  pub all_call_reply_parts : Parts 7 (all_call_reply_head ca address) 0 (code_number cl ic) (an_all_call_reply ca address cl ic)
  unfolding an_all_call_reply
  all_call_reply_parts =
      let r = all_call_reply_in ca address cl ic hr in
      frame_parts (all_call_reply_head ca address) 0 (code_number cl ic) (all_call_reply_lt ca address (omega arith) (omega arith)) (omega arith)
      (omega arith) 7
      refl (inr refl)

  pub read_all_call_reply : read_down (an_all_call_reply ca address cl ic) ≡ done (11 ∷ ca ∷ address ∷ code_number cl ic ∷ [])
  read_all_call_reply =
      let r = all_call_reply_in ca address cl ic hr in
      all_call_reads all_call_reply_read surveillance_read (an_all_call_reply ca address cl ic) (all_call_reply_head ca address) 0 (code_number cl ic)
      (all_call_reply_format ca address (omega arith) (omega arith)) all_call_reply_parts
      ∙ all_call_reply_fields ca address (omega arith) (omega arith) (code_number cl ic)

  -- the station whose code it carries reads its own
  pub own_code : (permit : ℕ) → station_ranged cl ic permit ≡ true → code_of (an_all_call_reply ca address cl ic) cl ic permit ≡ done own
  unfolding code_of whose
  own_code permit hs =
      let r = all_call_reply_in ca address cl ic hr in
      let p = all_call_reply_parts in
      let f = ap (value_at at_uf) p.head_is ∙ all_call_reply_format ca address (omega arith) (omega arith) in
      sym
      (end refused_by _ all
      (not_off _ (ap seven_or_fourteen p.length_is), (not_off _ hs, (not_off _ (and_yes _ _ (eq-eqb _ 7 p.length_is) (eq-eqb _ 11 f)), tt))))
      ∙ rw (p.remainder_is, eq-eqb (code_number cl ic) (code_number cl ic) refl)

-- ---- the same of what the calls answer
built_passed : (cs : List Check) (out x out' : List ℕ) (b : Result (Unit {0}) Refusal) → numbered cs ≡ true
    → built_said b out' ≡ checked cs (not_built out) (holding x) → b ≡ Ok tt
    → None cs × (out' ≡ x)
built_passed cs out x out' b z e d = go (checked cs (not_built out) (holding x)) e (came_to (not_built out) (holding x) cs z)
  where
    go : (o : Building) → built_said b out' ≡ o → CameTo cs (not_built out) (holding x) o → None cs × (out' ≡ x)
    go o e (was_refused c m k g q) = absurd (m (sym (ap (λ (y : Building). y.number) (e ∙ q)) ∙ ap number_given d))
    go o e (was_done p g q) = (p.none, ap (λ (y : Building). y.output) (e ∙ q))

pub build_reads : (uf pc rr di sd : ℕ) (ma : List ℕ) (address : ℕ) (out out' : List ℕ) (b : Result (Unit {0}) Refusal)
    → built_said b out' ≡ building uf pc rr di sd ma address out → b ≡ Ok tt
    → read_up out' ≡ done (uf ∷ pc ∷ rr ∷ di ∷ sd ∷ number_of_bytes ma ∷ overlay_of address ∷ [])
unfolding building
build_reads uf pc rr di sd ma address out out' b e d =
    let p = built_passed (building_checks uf pc rr di sd ma address out) out (selective uf pc rr di sd (number_of_bytes ma) address) out' b refl e d in
    ap read_up p.1 ∙ read_selective uf pc rr di sd (number_of_bytes ma) address (not-false _ p.0.1.1.0)

pub all_call_built_reads : (pr ic cl : ℕ) (out out' : List ℕ) (b : Result (Unit {0}) Refusal) → built_said b out' ≡ all_calling pr ic cl out → b ≡ Ok tt
    → read_up out' ≡ done (11 ∷ pr ∷ ic ∷ cl ∷ overlay_of 0xFFFFFF ∷ [])
unfolding all_calling
all_call_built_reads pr ic cl out out' b e d =
    let p = built_passed (all_calling_checks pr ic cl out) out (all_call pr ic cl) out' b refl e d in
    ap read_up p.1 ∙ read_all_call pr ic cl (not-false _ p.0.1.0)

pub reply_reads : (df fs dr um value mb address : ℕ) (out out' : List ℕ) (b : Result (Unit {0}) Refusal)
    → built_said b out' ≡ replying df fs dr um value mb address out → b ≡ Ok tt
    → read_down out' ≡ done (df ∷ fs ∷ dr ∷ um ∷ value ∷ mb ∷ address ∷ [])
unfolding replying
reply_reads df fs dr um value mb address out out' b e d =
    let p = built_passed (replying_checks df fs dr um value mb address out) out (a_reply df fs dr um value mb address) out' b refl e d in
    ap read_down p.1 ∙ read_reply df fs dr um value mb address (not-false _ p.0.0) (not-false _ p.0.1.1.0)

pub all_call_reply_reads : (ca address cl ic : ℕ) (out out' : List ℕ) (b : Result (Unit {0}) Refusal)
    → built_said b out' ≡ all_call_replying ca address cl ic out → b ≡ Ok tt
    → read_down out' ≡ done (11 ∷ ca ∷ address ∷ code_number cl ic ∷ [])
unfolding all_call_replying
all_call_reply_reads ca address cl ic out out' b e d =
    let p = built_passed (all_call_replying_checks ca address cl ic out) out (an_all_call_reply ca address cl ic) out' b refl e d in
    ap read_down p.1 ∙ read_all_call_reply ca address cl ic (not-false _ p.0.1.0)
