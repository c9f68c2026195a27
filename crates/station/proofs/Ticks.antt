-- The difference of two counts on a counter of 32 bits, and a reply's window.
use Rattle.std.proofs.Common.{◌≡◌, ℕ, ◌+◌, ◌-◌, ◌%◌, ◌^◌, ◌<◌, ◌≤◌, Bool, true, false, leb, refl, arith, le-leb, leb-false, leb-true}
use borrow.Author.Tests.{lt-leb}
use Rattle.lists.specs.Lists.{pick}
use Rattle.lists.proofs.Tests.{and_true}
use Rattle.planner_rules.specs.declared.entry.Entry.{Entry}
use Rattle.planner_rules.specs.Exchange.{earliest, latest}
use Rattle.station_rules.specs.Replies.{start_of, in_window}

pub start_is : (tag from r : ℕ) → from < 2 ^ 32 → r < 2 ^ 32 → (r + from) % 2 ^ 32 ≡ tag → r ≡ start_of tag from
unfolding start_of
start_is tag from r f l e = go (leb from tag) refl
  where
    go : (b : Bool) → leb from tag ≡ b → r ≡ pick b (tag - from) (tag + 4294967296 - from)
    go true t = omega (arith, leb-true from tag t)
    go false t = omega (arith, leb-false from tag t)

module _ (e : Entry) (s start edge : ℕ) (a : start ≡ e.start) where
  pub early : edge ≡ e.ask.near → s < start + earliest + edge → false ≡ in_window e s
  unfolding in_window
  early b h = rw (lt-leb (e.start + earliest + e.ask.near) s (omega arith))

  pub not_early : (far : ℕ) → edge ≡ e.ask.near → far ≡ e.ask.far → start + earliest + edge ≤ s → leb s (start + latest + far) ≡ in_window e s
  unfolding in_window
  not_early far b c h = rw (le-leb (e.start + earliest + e.ask.near) s (omega arith), a, c)

-- a reply that is taken starts before the window's end
pub before_end : (e : Entry) (s : ℕ) → in_window e s ≡ true → s ≤ e.start + latest + e.ask.far
unfolding in_window
before_end e s h =
    leb-true s (e.start + latest + e.ask.far) (and_true (leb (e.start + earliest + e.ask.near) s) (leb s (e.start + latest + e.ask.far)) h).1
