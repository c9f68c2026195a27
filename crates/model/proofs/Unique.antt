-- An outcome is unique: two answers of a call, with the transponders that they leave, that say the same are the same.
use native.Mathlib.Omega.{arith}
use borrow.Author.Tests.{eqb-false}
use mathlib.Core.Path.{◌≡◌, refl, sym, ap, ◌∙◌}
use Rattle.std.specs.Prelude.{ℕ, List, Option, Some, None, Result, Ok, Err, length, take, replicate}
use Rattle.lists.proofs.Over.{take_over}
use Rattle.refusals.specs.declared.refusal.Refusal.{Refusal}
use Rattle.refusals.specs.Refusals.{number_of}
use Rattle.refusals.proofs.Numbers.{not_done, same_number}
use Rattle.model_rules.specs.declared.state.Transponder.{Transponder}
use Rattle.model_rules.specs.declared.state.Sent as reply
use Rattle.model_rules.specs.declared.state.Sent.TheVariants.{Short, Long}
use Rattle.model_rules.specs.Answers.{Made, Took, Sent}
use Rattle.model_rules.specs.Replies.{sent_bytes}
use Rattle.model_rules.specs.Said.{made_as, sent_as, took_as}

not_zero : (w : Refusal) → number_of w ≡ 0 → ⊥
not_zero w = eqb-false (number_of w) 0 (not_done w)

-- of a making, the transponder
pub made_one : (r q : Result Transponder Refusal) → made_as r ≡ made_as q → r ≡ q
made_one (Ok t) (Ok u) e = ap (λ (x : Made). Ok x.transponder) e
made_one (Ok t) (Err w) e = absurd (not_zero w (sym (ap (λ (x : Made). x.number) e)))
made_one (Err w) (Ok t) e = absurd (not_zero w (ap (λ (x : Made). x.number) e))
made_one (Err w) (Err v) e = ap Err (same_number w v (ap (λ (x : Made). x.number) e))

-- a reply has 7 or 14 bytes, as its type says
abbrev pub Sized : Option reply.Sent → Type 0
Sized None = Unit {0}
Sized (Some (Short b)) = length b ≡ 7
Sized (Some (Long b)) = length b ≡ 14

same_bytes : (b c : List ℕ) → sent_bytes b ≡ sent_bytes c → b ≡ c
same_bytes b c e =
    let n : length b ≡ length c = ap (λ (s : Sent). s.length) e in
    let z : List ℕ = replicate 14 0 in
    sym (take_over b z) ∙ ap (λ (s : Sent). take s.length s.bytes) e ∙ take_over c z

-- of what is sent, its very bytes
pub sent_one : (s q : Option reply.Sent) → Sized s → Sized q → sent_as s ≡ sent_as q → s ≡ q
sent_one None None h k e = refl
sent_one None (Some (Short c)) h k e = absurd (let n = ap (λ (s : Sent). s.length) e in omega (arith, k, n))
sent_one None (Some (Long c)) h k e = absurd (let n = ap (λ (s : Sent). s.length) e in omega (arith, k, n))
sent_one (Some (Short b)) None h k e = absurd (let n = ap (λ (s : Sent). s.length) e in omega (arith, h, n))
sent_one (Some (Long b)) None h k e = absurd (let n = ap (λ (s : Sent). s.length) e in omega (arith, h, n))
sent_one (Some (Short b)) (Some (Short c)) h k e = ap (λ (x : List ℕ). Some (Short x)) (same_bytes b c e)
sent_one (Some (Long b)) (Some (Long c)) h k e = ap (λ (x : List ℕ). Some (Long x)) (same_bytes b c e)
sent_one (Some (Short b)) (Some (Long c)) h k e = absurd (let n = ap (λ (s : Sent). s.length) e in omega (arith, h, k, n))
sent_one (Some (Long b)) (Some (Short c)) h k e = absurd (let n = ap (λ (s : Sent). s.length) e in omega (arith, h, k, n))

-- what a frame is answered, as its type says
abbrev pub SizedIn : Result (Option reply.Sent) Refusal → Type 0
SizedIn (Ok s) = Sized s
SizedIn (Err w) = Unit {0}

abbrev sent_in : Took → Sent
sent_in x = record { length = x.length; bytes = x.reply }

took_told : (r q : Result (Option reply.Sent) Refusal) (t u : Transponder) → SizedIn r → SizedIn q → took_as r t ≡ took_as q u → r ≡ q
took_told (Ok s) (Ok v) t u h k e =
    ap Ok (sent_one s v h k (ap sent_in e))
took_told (Ok s) (Err w) t u h k e = absurd (not_zero w (sym (ap (λ (x : Took). x.number) e)))
took_told (Err w) (Ok s) t u h k e = absurd (not_zero w (ap (λ (x : Took). x.number) e))
took_told (Err w) (Err v) t u h k e = ap Err (same_number w v (ap (λ (x : Took). x.number) e))

took_left : (r q : Result (Option reply.Sent) Refusal) (t u : Transponder) → took_as r t ≡ took_as q u → t ≡ u
took_left (Ok s) (Ok v) t u e = ap (λ (x : Took). x.transponder) e
took_left (Ok s) (Err w) t u e = ap (λ (x : Took). x.transponder) e
took_left (Err w) (Ok s) t u e = ap (λ (x : Took). x.transponder) e
took_left (Err w) (Err v) t u e = ap (λ (x : Took). x.transponder) e

-- of a frame, the answer and the transponder
pub took_one : (r q : Result (Option reply.Sent) Refusal) (t u : Transponder) → SizedIn r → SizedIn q → took_as r t ≡ took_as q u
    → (r ≡ q) × (t ≡ u)
took_one r q t u h k e = (took_told r q t u h k e, took_left r q t u e)
