-- The lines of the targets and of the entries, of which those before place i are laid, and the whole lists.
use Prim.Native.Nat.{ℕ, ◌+◌, ◌≤◌, ◌<◌, min}
use native.Mathlib.Omega.{arith}
use native.Mathlib.Numerals.{add-one}
use mathlib.Core.Path.{◌≡◌, sym}
use mathlib.Core.List.{List, [], ◌∷◌, ◌++◌}
use lib.ListN.{length, get_or, take, drop, length-take, length-append, drop_of_length-le}
use Rattle.std.proofs.lemmas.List.{drop_more}
use Rattle.lists.proofs.Front.{take_cut}
use Rattle.text_rules.specs.Put.{Put, decimal}
use Rattle.text_rules.specs.Plain.{plain}
use Rattle.text_rules.proofs.Decimal.{decimal_fits}
use Rattle.text_rules.proofs.Laid.{put_then}
use Rattle.planner_rules.specs.declared.entry.Entry.{Entry}
use Rattle.planner_rules.specs.declared.entry.Status.{Status}
use Rattle.planner_rules.specs.declared.entry.Status.TheVariants.{Open, Answered, Withdrawn}
use Rattle.station_rules.specs.declared.state.Station.{Station}
use Rattle.station_rules.specs.declared.state.Target.{Target}
use Rattle.station_rules.specs.State.{targets_of}
use Rattle.stream_rules.specs.Lines.{followed, spaced, entry_words, report_line}
use Rattle.stream_rules.proofs.Spaced.{line_spaced}
use Rattle.stream.specs.Calls.{Within}
use Rattle.stream.proofs.Lengths.{within, within_then, within_more, within_of}
use Rattle.console_rules.specs.Texts.{done_text}
use Rattle.console_rules.specs.Station.{Spoke, target_line, target_lines, targets_text, targets_spoken}
use Rattle.console_rules.specs.Station.{status_word, status_line, status_lines, entries_text, entries_spoken}
use Rattle.console_station.proofs.Said.{speaks_within}

-- 0, a value and the line's end
done_short : (k : ℕ) (v : List ℕ) → length v ≤ k → length (done_text v) ≤ k + 3
unfolding done_text
done_short k v h = simp length-append (omega arith)

-- ---- the targets

-- a number of 32 bits and a space
pub word_laid : (n : ℕ) {at r q : ℕ} {l m o : List ℕ} → n < 4294967296 → Put (decimal n) at l m r → Put (32 ∷ []) r m o q
    → Within 12 (followed (decimal n) 32) at l o q
word_laid n h a b = within 12 (simp length-append (omega (arith, decimal_fits n h))) (put_then a b)

pub target_laid : (t : Target) {at p q r z : ℕ} {l m n o y : List ℕ} → Within 12 (followed (decimal t.address) 32) at l m p
    → Within 12 (followed (decimal t.near) 32) p m n q → Within 12 (followed (decimal t.far) 32) q n o r
    → Within 48 (report_line t.ac t.id) r o y z → Within 84 (target_line t) at l y z
unfolding target_line
target_laid t a b c d = within_then a (within_then b (within_then c d))

module _ (ts : List Target) (i : ℕ) where
  pub targets_more : (d : Target) → i < length ts → target_lines (drop i ts) ≡ target_line (get_or ts i d) ++ target_lines (drop (i + 1) ts)
  unfolding target_lines
  targets_more d b = rw (drop_more ts i d b)

  pub targets_none : length ts ≤ i → target_lines (drop i ts) ≡ []
  unfolding target_lines
  targets_none b = rw (drop_of_length-le ts b)

-- how many, and below that the lines
pub targets_laid : (n : ℕ) (ts : List Target) {c p q r z : ℕ} {l m o x y : List ℕ} → c ≡ min n (length ts) → c ≤ 64 → Put (plain "0 ") 0 l m p
    → Put (decimal c) p m o q → Put (plain "\n") q o x r → Within 5376 (target_lines (take c ts)) r x y z → Within 5400 (targets_text (take n ts)) 0 l y z
unfolding targets_text done_text
targets_laid n ts {c} e h a b d w =
    let k : c ≡ length (take n ts) = simp length-take (omega (arith, e)) in
    let z = done_short 10 (decimal c) (decimal_fits c (omega arith)) in
    let cut : take c ts ≡ take n ts = rw e (take_cut n ts) in
    rw (← k, ← cut) (within_more 5389 5400 (omega arith) (within_then (within 13 z (put_then a (put_then b d))) w))

pub targets_said : (s : Station) {l m : List ℕ} {size : ℕ} → Within 5400 (targets_text (targets_of s.targets)) 0 l m size
    → Spoke (targets_spoken s) l m s size
unfolding targets_spoken
targets_said s w = speaks_within w (omega arith)

-- ---- the entries

-- `search statuses` finds what has become of an entry
module _ {s : Status} {at r : ℕ} {l m : List ℕ} where
  pub status_open : s ≡ Open → Put (plain "open\n") at l m r → Within 10 (followed (status_word s) 10) at l m r
  unfolding status_word
  status_open e p = rw e (within 10 (omega arith) p)

  pub status_answered : s ≡ Answered → Put (plain "answered\n") at l m r → Within 10 (followed (status_word s) 10) at l m r
  unfolding status_word
  status_answered e p = rw e (within 10 (omega arith) p)

  pub status_withdrawn_is : s ≡ Withdrawn → Put (plain "withdrawn\n") at l m r → Within 10 (followed (status_word s) 10) at l m r
  unfolding status_word
  status_withdrawn_is e p = rw e (within 10 (omega arith) p)

pub ruleset statuses = (status_open, status_answered, status_withdrawn_is)

pub status_laid : (k : ℕ) (e : Entry) {at r q : ℕ} {l m o : List ℕ} → Within 72 (spaced (entry_words k e)) at l m r
    → Within 10 (followed (status_word e.status) 10) r m o q → Within 82 (status_line k e) at l o q
unfolding status_line
status_laid k e a b = within_of (sym (line_spaced (entry_words k e) (status_word e.status))) (within_then a b)

module _ (es : List Entry) (i : ℕ) where
  pub entries_more : (d : Entry) → i < length es
      → status_lines i (drop i es) ≡ status_line i (get_or es i d) ++ status_lines (i + 1) (drop (i + 1) es)
  unfolding status_lines
  entries_more d b = rw (drop_more es i d b, add-one)

  pub entries_none : length es ≤ i → status_lines i (drop i es) ≡ []
  unfolding status_lines
  entries_none b = rw (drop_of_length-le es b)

-- how many and the plan's tag, and below that the lines
pub entries_laid : (n : ℕ) (es : List Entry) (tag : ℕ) {c p q r s t z : ℕ} {l m o u v x y : List ℕ} → c ≡ min n (length es) → c ≤ 128 → tag < 4294967296
    → Put (plain "0 ") 0 l m p → Put (decimal c) p m o q → Put (plain " ") q o u r → Put (decimal tag) r u v s → Put (plain "\n") s v x t
    → Within 10496 (status_lines 0 (take c es)) t x y z → Within 10560 (entries_text (record { list = es; n = n; tag = tag })) 0 l y z
unfolding entries_text done_text
entries_laid n es tag {c} e h f a b d g i w =
    let k : c ≡ length (take n es) = simp length-take (omega (arith, e)) in
    let z = done_short 21 (decimal c ++ (plain " " ++ decimal tag)) (simp length-append (omega (arith, decimal_fits c (omega arith), decimal_fits tag f))) in
    let cut : take c es ≡ take n es = rw e (take_cut n es) in
    rw (← k, ← cut) (within_more 10520 10560 (omega arith) (within_then (within 24 z (put_then a (put_then (put_then b (put_then d g)) i))) w))

pub entries_said : (s : Station) {l m : List ℕ} {size : ℕ} → Within 10560 (entries_text s.plan) 0 l m size
    → Spoke (entries_spoken s) l m s size
unfolding entries_spoken
entries_said s w = speaks_within w (omega arith)
