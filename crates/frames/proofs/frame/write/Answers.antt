-- `frames::frame::write` meets its contract: the fields, then the parity.
use mathlib.Core.Path.{ap, ◌∙◌}
use Rattle.parity_rules.specs.Messages.{seven_or_fourteen}
use Rattle.frames_rules.proofs.Laying.{filled_length, write_law}
use Rattle.frames.proofs.frame.write.Goals as goal

pub seal-requires : goal.seal-requires
seal-requires c =
    let a = c.args in ap seven_or_fourteen (filled_length a.out.now a.head a.mid _ c.requires c.fill.ensures) ∙ c.requires

pub returns : goal.returns
returns c =
    let a = c.args in write_law a.out.now a.head a.mid _ c.requires c.fill.ensures _ a.overlay c.seal.ensures
