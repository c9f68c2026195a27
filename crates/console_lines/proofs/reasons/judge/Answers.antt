-- `judge` finds the first reason, or the call.
use mathlib.Core.Path.{ap, ◌∙◌}
use mathlib.Core.Logic.{inl, inr}
use Rattle.std.specs.Prelude.{Err}
use Rattle.console_rules.specs.declared.names.Sort.{Sort}
use Rattle.console_rules.specs.Reasons.{unfit, by_word}
use Rattle.console_lines.proofs.Judging.{miscounted, grounded, by_fault}
use Rattle.console_lines.proofs.reasons.judge.Goals as goal

pub returns-then-word_count-r : goal.returns-then-word_count-r
returns-then-word_count-r c = miscounted _ _ _ c.word_count.ensures c.if-word_count-r.true

pub returns-then-not-made : goal.returns-then-not-made
returns-then-not-made c = grounded _ _ _ c.word_count.ensures c.if-word_count-r.false c.if-r.true c.if-not-made.true

pub returns-in-None : goal.returns-in-None
unfolding by_word
returns-in-None c =
    by_fault _ _ _ c.word_count.ensures c.if-word_count-r.false (elim c.else-r.either [ inl p ↦ inr p.1 | inr n ↦ inl n ]) c.find_fault.ensures c.in-None.is

pub returns-in-Some : goal.returns-in-Some
unfolding by_word
returns-in-Some c =
    ap Err (c.unfit.ensures ∙ ap (λ (s : Sort). unfit s c.in-Some.k) c.sort_at.ensures)
    ∙ by_fault _ _ _ c.word_count.ensures c.if-word_count-r.false (elim c.else-r.either [ inl p ↦ inr p.1 | inr n ↦ inl n ]) c.find_fault.ensures c.in-Some.is
