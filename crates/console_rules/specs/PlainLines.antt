-- The lines without a state, each by its own definition.
use Rattle.std.specs.Prelude.{ℕ, List}
use Rattle.console_rules.specs.Parity.{remainder_text, overlay_text, correct_text}
use Rattle.console_rules.specs.Building.{build_text, all_call_text}
use Rattle.console_rules.specs.Frames.{up_text, down_text, code_text}
use Rattle.console_rules.specs.Feet.{feet_text, ac_text}
use Rattle.console_rules.specs.Explain.{explain_text}
use Rattle.console_rules.specs.Help.{help_text}
use Rattle.console_rules.specs.declared.names.PlainLine.{PlainLine}
use Rattle.console_rules.specs.declared.names.PlainLine.TheVariants.{Remainder, Overlay, Correct, Build, AllCall, Up, Down, Code}
use Rattle.console_rules.specs.declared.names.PlainLine.TheVariants.{Feet, Ac, Explain, Help}

unfoldable pub plain_text : PlainLine → List (List ℕ) → List ℕ
plain_text Remainder ws = remainder_text ws
plain_text Overlay ws = overlay_text ws
plain_text Correct ws = correct_text ws
plain_text Build ws = build_text ws
plain_text AllCall ws = all_call_text ws
plain_text Up ws = up_text ws
plain_text Down ws = down_text ws
plain_text Code ws = code_text ws
plain_text Feet ws = feet_text ws
plain_text Ac ws = ac_text ws
plain_text Explain ws = explain_text ws
plain_text Help ws = help_text
