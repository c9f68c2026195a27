-- `next_place` answers the place after a whole record, and else the place itself.
use Prim.Native.Nat.{ℕ}
use mathlib.Core.Path.{◌≡◌, refl, ap, ◌∙◌}
use Rattle.reader_rules.specs.declared.reading.Found.{Found}
use Rattle.reader_rules.specs.declared.reading.Found.TheVariants.{End, Unknown, Cut, Whole}
use Rattle.reader_rules.specs.Records.{next_place}
use Rattle.reader_rules.proofs.Answers.{found_is}
use Rattle.reader.proofs.reading.next_place.Goals as goal

-- at what is no whole record it stays
stays : (f : Found) (at : ℕ) → ((kind body next : ℕ) → f ≡ Whole kind body next → ⊥) → at ≡ next_place f at
unfolding next_place
stays End at h = refl
stays (Unknown b) at h = refl
stays (Cut kind) at h = refl
stays (Whole kind body next) at h = absurd (h kind body next refl)

pub returns-in-Whole : goal.returns-in-Whole
unfolding next_place
returns-in-Whole c = ap (λ (f : Found). next_place f c.args.at) (found_is _ _ (Whole _ _ _) c.in-Whole.ensures)

pub returns-in_default : goal.returns-in_default
returns-in_default c =
    stays _ c.args.at c.in_default.not-Whole
    ∙ ap (λ (f : Found). next_place f c.args.at) (found_is _ _ _ c.record_at.ensures)
