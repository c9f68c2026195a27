-- `frames::formats::drawn` meets its contract: UF and RR judged, then the long form by RR.
use mathlib.Core.Path.{◌≡◌, sym, ap, ◌∙◌}
use Prim.Native.Nat.{ℕ, ◌+◌, ◌<◌}
use native.Mathlib.Omega.{arith}
use lib.Dec.{leb}
use borrow.Author.Tests.{le-leb, lt-leb}
use mathlib.Core.Bool.{false}
use mathlib.Core.Logic.{◌⊎◌, inl, inr, ⊎_elim}
use Rattle.std.specs.Prelude.{Some, None}
use Rattle.lists.proofs.Tests.{and_no_right}
use Rattle.frames_rules.specs.Formats.{surveillance}
use Rattle.frames_rules.specs.Answers.{draws_said}
use Rattle.frames_rules.specs.Shared.{drawn, drawn_told}
use Rattle.frames.proofs.formats.drawn.Goals as goal

-- a UF that is no request's or an RR above 31 draws nothing
nothing_drawn : (uf rr : ℕ) → (surveillance uf ≡ false) ⊎ (31 < rr) → drawn uf rr ≡ None
unfolding drawn
nothing_drawn uf rr (inl e) = rw e
nothing_drawn uf rr (inr l) = rw (and_no_right (surveillance uf) (leb rr 31) (lt-leb rr 31 l))

pub returns-then-not-surveillance : goal.returns-then-not-surveillance
unfolding drawn_told
returns-then-not-surveillance c =
    rw (nothing_drawn c.args.uf c.args.rr (⊎_elim (λ h. inl (sym c.surveillance.ensures ∙ h)) (λ h. inr h.1) c.then-not-surveillance.either))

pub overflow_add-result : goal.overflow_add-result
overflow_add-result c = omega (arith, c.short_reply.ensures.1)

pub returns-then-rr-ge16 : goal.returns-then-rr-ge16
unfolding drawn drawn_told
returns-then-rr-ge16 c =
    simp (sym c.surveillance.ensures ∙ c.if-not-surveillance.false, le-leb _ _ c.if-rr-gt31.false, le-leb _ _ c.if-rr-ge16.true)
    (ap (λ (n : ℕ). draws_said (Some (n + 16))) c.short_reply.ensures.0)

pub returns : goal.returns
unfolding drawn drawn_told
returns c =
    simp (sym c.surveillance.ensures ∙ c.if-not-surveillance.false, le-leb _ _ c.if-rr-gt31.false, lt-leb _ _ c.if-rr-ge16.false)
    (ap (λ (n : ℕ). draws_said (Some n)) c.short_reply-2.ensures.0)
