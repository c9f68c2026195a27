-- The first turn of `next_line`: a line that ends at hand is found in it, before anything is read.
use Prim.Native.Nat.{ℕ, ◌<◌, min}
use native.Mathlib.Omega.{arith}
use mathlib.Core.Path.{◌≡◌, refl, sym, ap, ◌∙◌}
use mathlib.Core.Bool.{true, false, true≢false}
use mathlib.Core.List.{List}
use borrow.Author.Tests.{ltb-false}
use lib.ListN.{length, take}
use Rattle.inputs.specs.declared.feed.Feed.{Feed}
use Rattle.inputs.specs.Feeds.{at_hand, at_end, Fed}
use Rattle.text_rules.specs.declared.answer.Gathered.{Gathered}
use Rattle.text_rules.specs.Line.{line_end}
use Rattle.text_rules.specs.Pieces.{Gathers}

-- a line ends in a text from a place on
abbrev pub EndsIn : List ℕ → ℕ → Type 0
EndsIn p at = line_end p at < length p

-- the loop stands where it began
pub record First (piece₀ line₀ : List ℕ) (got₀ at₀ : ℕ) (piece line : List ℕ) (got at size turn : ℕ) : Type 0 where
  pub pieces : piece ≡ piece₀
  pub lines : line ≡ line₀
  pub gots : got ≡ got₀
  pub places : at ≡ at₀
  pub none : size ≡ 0
  pub turns : turn ≡ 0

-- while a line ends at hand, it stands there
pub record Held (piece₀ line₀ : List ℕ) (got₀ at₀ : ℕ) (piece line : List ℕ) (got at size turn : ℕ) : Type 0 where
  pub first : EndsIn (take got₀ piece₀) at₀ → First piece₀ line₀ got₀ at₀ piece line got at size turn

-- so it does before its first turn
pub held_first : {piece line : List ℕ} {got at : ℕ} → Held piece line got at piece line got at 0 0
held_first = record { first = λ _. record { pieces = refl; lines = refl; gots = refl; places = refl; none = refl; turns = refl } }

module _ {piece₀ line₀ : List ℕ} {got₀ at₀ : ℕ} {piece line : List ℕ} {got at size turn : ℕ}
    (held : Held piece₀ line₀ got₀ at₀ piece line got at size turn) {after : List ℕ} {g : Gathered}
    (took : Gathers line after size (take got piece) at g) where
  -- what the first turn took
  at_first : EndsIn (take got₀ piece₀) at₀ → Gathers line₀ after 0 (take got₀ piece₀) at₀ g
  at_first h =
      let x = held.first h in
      rw (← x.pieces, ← x.lines, ← x.gots, ← x.places, ← x.none) took

  -- a turn that found no end was not over a line that ends
  no_end : g.ended ≡ false → EndsIn (take got₀ piece₀) at₀ → ⊥
  no_end e h = omega (arith, ltb-false (line_end (take got₀ piece₀) at₀) (length (take got₀ piece₀)) (sym (at_first h).ended ∙ e), h)

  -- so the next turn is not asked
  pub held_next : {piece' line' : List ℕ} {got' at' size' turn' : ℕ} → g.ended ≡ false
      → Held piece₀ line₀ got₀ at₀ piece' line' got' at' size' turn'
  held_next e = record { first = λ h. absurd (no_end e h) }

-- behind the end of the input
pub fed_over : {f r : Feed} {piece piece' line line' : List ℕ} → f.more ≡ false → r ≡ at_end 0 → Fed f piece piece' line line' r
fed_over m e =
    record {
      over = λ _. ap (λ (x : Feed). x.is_line) e;
      found = λ n _. absurd (true≢false (sym n ∙ m));
      ended = λ _. ap (λ (x : Feed). x.more) e;
    }

-- no line ended at hand
fed_end : {f r : Feed} {piece piece' line line' : List ℕ} {n : ℕ} → f.more ≡ true → r ≡ at_end n
    → (EndsIn (at_hand f piece) f.at → ⊥) → Fed f piece piece' line line' r
fed_end m e none =
    record {
      over = λ o. absurd (true≢false (sym m ∙ o));
      found = λ _ h. absurd (none h);
      ended = λ _. ap (λ (x : Feed). x.more) e;
    }

module _ {f : Feed} {piece₀ line₀ : List ℕ} {got₀ : ℕ} {piece line : List ℕ} {got at size turn : ℕ} (m : f.more ≡ true)
    (w : got₀ ≡ min f.got (length piece₀)) (held : Held piece₀ line₀ got₀ f.at piece line got at size turn) where
  -- the turns are over
  pub fed_turns : {piece' line' : List ℕ} {r : Feed} {n : ℕ} → 0 < turn → r ≡ at_end n → Fed f piece₀ piece' line₀ line' r
  fed_turns t e = fed_end m e (λ h. omega (arith, t, (held.first (rw w h)).turns))

  module _ {after : List ℕ} {g : Gathered} (took : Gathers line after size (take got piece) at g) where
    -- the input ended
    pub fed_input : {piece' line' : List ℕ} {r : Feed} {n : ℕ} → g.ended ≡ false → r ≡ at_end n → Fed f piece₀ piece' line₀ line' r
    fed_input o e = fed_end m e (λ h. no_end held took o (rw w h))

    -- a line ended
    pub fed_line : Fed f piece₀ piece line₀ after (record { got = got; at = g.next; size = g.size; is_line = true; more = true })
    fed_line =
        record {
          over = λ o. absurd (true≢false (sym m ∙ o));
          found = λ _ h.
              let x = held.first (rw w h) in
              let y = at_first held took (rw w h) in
              let z : Gathers line₀ after 0 (at_hand f piece₀) f.at g = rw (← w) y in
              record { is_line = refl; laid = z.laid; next = omega (arith, z.next, h); got = x.gots ∙ w; kept = x.pieces; more = refl };
          ended = λ n. absurd (true≢false n);
        }
