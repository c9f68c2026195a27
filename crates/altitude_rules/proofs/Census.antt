-- The 8,192 codes, counted by their forms.
use mathlib.Core.Path.{refl}
use Rattle.lists.specs.Lists.{count_below}
use Rattle.altitude_rules.specs.Code.{group, form_of}
use Rattle.altitude_rules.specs.Claims.{Census}

pub census : Census
unfolding Census count_below form_of group
census = refl
