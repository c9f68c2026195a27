-- What a call that is not refused says: for the crates above, which know that their numbers are in range.
use mathlib.Core.Path.{◌≡◌, sym, ◌∙◌}
use mathlib.Core.Bool.{true}
use mathlib.Core.List.{List, [], ◌∷◌}
use Prim.Native.Nat.{ℕ}
use lib.ListN.{length}
use borrow.Author.Tests.{eq-eqb}
use Rattle.std.specs.Prelude.{Result, Ok}
use Rattle.lists.specs.Checks.{Check, checked, None}
use Rattle.lists.specs.Answers.{done}
use Rattle.lists.proofs.Tests.{and_yes}
use Rattle.lists.proofs.Checks.{all, end, not_off}
use Rattle.refusals.specs.declared.refusal.Refusal.{Refusal}
use Rattle.frames_rules.specs.declared.answers.Up.{Up}
use Rattle.frames_rules.specs.declared.answers.Up.TheVariants as up
use Rattle.frames_rules.specs.declared.answers.Down.{Down}
use Rattle.frames_rules.specs.declared.answers.Down.TheVariants as down
use Rattle.frames_rules.specs.Answers.{built_said, not_built, up_said, down_said, holding}
use Rattle.frames_rules.specs.Bytes.{number_of_bytes}
use Rattle.frames_rules.specs.Formats.{surveillance, length_of}
use Rattle.frames_rules.specs.Building.{selective_ranged, all_call_ranged, reply_ranged, all_call_reply_ranged, selective, all_call, a_reply, an_all_call_reply}
use Rattle.frames_rules.specs.Building.{building_checks, building, all_calling_checks, all_calling, replying_checks, replying, all_call_replying_checks}
use Rattle.frames_rules.specs.Building.{all_call_replying}
use Rattle.frames_rules.specs.Reading.{read_up, read_down}
use Rattle.frames_rules.proofs.Unique.{built_one, up_one, down_one}

-- ---- builders
module _ (out out' : List ℕ) (b : Result (Unit {0}) Refusal) where
  is_done : (cs : List Check) (x : List ℕ) → None cs → built_said b out' ≡ checked cs (not_built out) (holding x) → (b ≡ Ok tt) × (out' ≡ x)
  is_done cs x h e = built_one b (Ok tt) out' x (e ∙ sym (end (not_built out) (holding x) all h))

pub build_done : (uf pc rr di sd : ℕ) (ma : List ℕ) (address : ℕ) (out out' : List ℕ) (b : Result (Unit {0}) Refusal)
    → surveillance uf ≡ true → length out ≡ length_of uf → length ma ≡ 7 → selective_ranged uf pc rr di sd (number_of_bytes ma) address ≡ true
    → built_said b out' ≡ building uf pc rr di sd ma address out → (b ≡ Ok tt) × (out' ≡ selective uf pc rr di sd (number_of_bytes ma) address)
unfolding building
build_done uf pc rr di sd ma address out out' b f l n r e =
    is_done out out' b (building_checks uf pc rr di sd ma address out) _
    (not_off _ f, (not_off _ (and_yes _ _ (eq-eqb (length out) (length_of uf) l) (eq-eqb (length ma) 7 n)), (not_off _ r, tt))) e

pub all_call_done : (pr ic cl : ℕ) (out out' : List ℕ) (b : Result (Unit {0}) Refusal) → length out ≡ 7 → all_call_ranged pr ic cl ≡ true
    → built_said b out' ≡ all_calling pr ic cl out → (b ≡ Ok tt) × (out' ≡ all_call pr ic cl)
unfolding all_calling
all_call_done pr ic cl out out' b l r e =
    is_done out out' b (all_calling_checks pr ic cl out) _ (not_off _ (eq-eqb (length out) 7 l), (not_off _ r, tt)) e

pub reply_done : (df fs dr um value mb address : ℕ) (out out' : List ℕ) (b : Result (Unit {0}) Refusal)
    → surveillance df ≡ true → length out ≡ length_of df → reply_ranged df fs dr um value mb address ≡ true
    → built_said b out' ≡ replying df fs dr um value mb address out → (b ≡ Ok tt) × (out' ≡ a_reply df fs dr um value mb address)
unfolding replying
reply_done df fs dr um value mb address out out' b f l r e =
    is_done out out' b (replying_checks df fs dr um value mb address out) _
    (not_off _ f, (not_off _ (eq-eqb (length out) (length_of df) l), (not_off _ r, tt))) e

pub all_call_reply_done : (ca address cl ic : ℕ) (out out' : List ℕ) (b : Result (Unit {0}) Refusal) → length out ≡ 7
    → all_call_reply_ranged ca address cl ic ≡ true
    → built_said b out' ≡ all_call_replying ca address cl ic out → (b ≡ Ok tt) × (out' ≡ an_all_call_reply ca address cl ic)
unfolding all_call_replying
all_call_reply_done ca address cl ic out out' b l r e =
    is_done out out' b (all_call_replying_checks ca address cl ic out) _ (not_off _ (eq-eqb (length out) 7 l), (not_off _ r, tt)) e

-- ---- readers: the answer is the case that its values tell
pub selective_read_is : (u : Result Up Refusal) (m : List ℕ) (uf pc rr di sd ma r : ℕ) → up_said u ≡ read_up m
    → read_up m ≡ done (uf ∷ pc ∷ rr ∷ di ∷ sd ∷ ma ∷ r ∷ [])
    → u ≡ Ok (up.Selective uf pc rr di sd ma r)
selective_read_is u m uf pc rr di sd ma r e f = up_one u (Ok (up.Selective uf pc rr di sd ma r)) (e ∙ f)

pub all_call_read_is : (u : Result Up Refusal) (m : List ℕ) (pr ic cl r : ℕ) → up_said u ≡ read_up m → read_up m ≡ done (11 ∷ pr ∷ ic ∷ cl ∷ r ∷ [])
    → u ≡ Ok (up.AllCall pr ic cl r)
all_call_read_is u m pr ic cl r e f = up_one u (Ok (up.AllCall pr ic cl r)) (e ∙ f)

pub surveillance_read_is : (d : Result Down Refusal) (m : List ℕ) (df fs dr um value mb r : ℕ) → down_said d ≡ read_down m
    → read_down m ≡ done (df ∷ fs ∷ dr ∷ um ∷ value ∷ mb ∷ r ∷ [])
    → d ≡ Ok (down.Surveillance df fs dr um value mb r)
surveillance_read_is d m df fs dr um value mb r e f = down_one d (Ok (down.Surveillance df fs dr um value mb r)) (e ∙ f)

pub all_call_reply_read_is : (d : Result Down Refusal) (m : List ℕ) (ca address r : ℕ) → down_said d ≡ read_down m
    → read_down m ≡ done (11 ∷ ca ∷ address ∷ r ∷ [])
    → d ≡ Ok (down.AllCall ca address r)
all_call_reply_read_is d m ca address r e f = down_one d (Ok (down.AllCall ca address r)) (e ∙ f)
