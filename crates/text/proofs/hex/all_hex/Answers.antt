-- Each byte is a hex digit: the test of each, as the definition has them.
use Rattle.std.proofs.Common.{rules, ◌≡◌, ◌∙◌, List, [], ◌∷◌, refl, ap, ℕ, Bool, ◌&&◌, IsTrue, ◌↔◌}
use Rattle.std.specs.List.{list_all, AllPass}
use Rattle.std.proofs.lemmas.List.Sums.{list_all-from_AllPass, AllPass-from_list_all}
use borrow.Author.Tests.{tests}
use lib.Dec.{ltb}
use Rattle.text_rules.specs.Hex.{hex_value, all_hex}
use Rattle.text_rules.proofs.Words.{one_test}
use Rattle.text.proofs.hex.all_hex.Goals as goal

abbrev digit : ℕ → Bool
digit b = ltb (hex_value b) 16

each : (w : List ℕ) → list_all digit w ≡ all_hex w
unfolding all_hex
each [] = refl
each (b ∷ w) = ap (λ (v : Bool). digit b && v) (each w)

pub returns : goal.returns
returns c =
    let w = c.args.word.now in
    let f : IsTrue c.all.result ↔ AllPass digit w = search (rules, tests) in
    one_test _ _ (λ h. list_all-from_AllPass digit w (f.0 h)) (λ h. f.1 (AllPass-from_list_all digit w h)) ∙ each w
