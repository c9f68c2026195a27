-- `run` has each line answered.
use mathlib.Core.Path.{refl}
use Rattle.text_rules.proofs.Laid.{put_count, put_inside}
use borrow.Author.Rules.{rules}
use Rattle.feet_lines.proofs.program.run.Goals as goal

pub loop-init : goal.loop-init
loop-init g c = (refl, refl, refl)

pub slice_bounds-out-end : goal.slice_bounds-out-end
slice_bounds-out-end g c = search put_inside

pub slice_bounds-print-end : goal.slice_bounds-print-end
slice_bounds-print-end g c = search put_count

pub loop-preserved : goal.loop-preserved
loop-preserved g c = (search rules, search rules, search rules)
