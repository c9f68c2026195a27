-- `parity::overlay::uplink_overlay` meets its contract: the range, then the product's upper half.
use mathlib.Core.Path.{ap, ◌∙◌}
use mathlib.Core.List.{[], ◌∷◌}
use Prim.Native.Nat.{ℕ}
use Rattle.lists.specs.Answers.{done, refused_by}
use Rattle.lists.proofs.Checks.{all, stop, end, tests}
use Rattle.parity_rules.specs.Overlays.{uplink_overlay}
use Rattle.parity.proofs.overlay.uplink_overlay.Goals as goal

pub returns-then-address-ge16777216 : goal.returns-then-address-ge16777216
unfolding uplink_overlay
returns-then-address-ge16777216 c = stop refused_by _ 2 all (search tests depth 12) (search tests)

pub returns : goal.returns
unfolding uplink_overlay
returns c = ap (λ (v : ℕ). done (v ∷ [])) c.overlay_of.ensures ∙ end refused_by _ all (search tests depth 12)
