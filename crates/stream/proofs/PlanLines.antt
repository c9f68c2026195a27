-- The lines of a plan's entries, of which those before place i are put.
use Rattle.std.proofs.Common.{◌≡◌, ℕ, ◌+◌, ◌<◌, ◌≤◌, min, List, [], ◌∷◌, ◌++◌, length, get_or, take, drop, sym, add-one}
use Rattle.std.proofs.lemmas.List.{drop_more}
use lib.ListN.{drop_of_length-le}
use Rattle.lists.proofs.Front.{take_cut}
use Rattle.text_rules.specs.Put.{decimal}
use Rattle.planner_rules.specs.declared.entry.Entry.{Entry}
use Rattle.planner_rules.specs.Exchange.{exchange_of, listens}
use Rattle.planner.specs.declared.exchange.Exchange.{Exchange}
use Rattle.planner.specs.Promises.{held}
use Rattle.stream_rules.specs.Lines.{followed, spaced, entry_words, entry_line, entry_lines}
use Rattle.stream_rules.proofs.Spaced.{line_spaced, spaced_more}
use Rattle.stream.specs.Calls.{Within}
use Rattle.stream.proofs.Lengths.{within_of}

pub entries_more : (es : List Entry) (i : ℕ) (d : Entry) → i < length es
    → entry_lines i (drop i es) ≡ entry_line i (get_or es i d) ++ entry_lines (i + 1) (drop (i + 1) es)
unfolding entry_lines
entries_more es i d b = rw (drop_more es i d b, add-one)

pub entries_none : (es : List Entry) (i : ℕ) → length es ≤ i → entry_lines i (drop i es) ≡ []
unfolding entry_lines
entries_none es i b = rw (drop_of_length-le es b)

-- the first of the slots, by how many of them count
pub entries_live : (es : List Entry) (m : ℕ) {n : ℕ} → n ≡ min m 128 → length es ≡ 128 → take n es ≡ take m es
entries_live es m h z = rw (h, sym z) (take_cut m es)

-- an entry's numbers by its exchange
pub entry_put : (k : ℕ) (e : Entry) (b : ℕ) {x : Exchange} → x ≡ held (exchange_of e.ask) → {at r : ℕ} {l m : List ℕ}
    → Within
    72
    (spaced
    (decimal k
    ∷ decimal e.ask.request.unit
    ∷ decimal e.ask.request.address
    ∷ decimal e.start
    ∷ decimal (e.start + x.from)
    ∷ [])
    ++ followed (decimal (e.start + x.to)) b)
    at
    l
    m
    r
    → Within 72 (spaced (take 5 (entry_words k e)) ++ followed (decimal (listens e).hi) b) at l m r
entry_put k e b h p = rw h at p

-- with the newline behind them they are the entry's line, and with a space the words of a longer one
module _ (k : ℕ) (e : Entry) {at r : ℕ} {l m : List ℕ} where
  pub entry_ended : Within 72 (spaced (take 5 (entry_words k e)) ++ followed (decimal (listens e).hi) 10) at l m r → Within 72 (entry_line k e) at l m r
  unfolding entry_line
  entry_ended p = within_of (sym (line_spaced (take 5 (entry_words k e)) (decimal (listens e).hi))) p

  pub entry_headed : Within 72 (spaced (take 5 (entry_words k e)) ++ followed (decimal (listens e).hi) 32) at l m r
      → Within 72 (spaced (entry_words k e)) at l m r
  entry_headed p = within_of (sym (spaced_more (take 5 (entry_words k e)) (decimal (listens e).hi))) p
