-- The numbers that a record's lines print are read back from their bytes, so that what is printed determines what is shown.
use Prim.Native.Nat.{ℕ, suc}
use mathlib.Core.Path.{◌≡◌, refl, sym, ap, ◌∙◌}
use mathlib.Core.Bool.{false}
use mathlib.Core.List.{List, [], ◌∷◌, ◌++◌, map, append_assoc, append-nil}
use lib.ListN.{get_or, drop}
use Rattle.lists.specs.Lists.{All}
use Rattle.lists.proofs.Held.{all_cons, all_append, all_map}
use Rattle.text_rules.specs.Line.{newline, parts, full, lines_of, words_of}
use Rattle.text_rules.specs.Number.{value_after}
use Rattle.text_rules.specs.Put.{decimal}
use Rattle.text_rules.proofs.Decimal.{decimal_value}
use Rattle.text_rules.proofs.Parted.{Word, decimal_word, no_newline, word_then, word_last, line_then}
use Rattle.planner_rules.specs.declared.entry.Entry.{Entry}
use Rattle.planner_rules.specs.Told.{EntryShown, entry_shown}
use Rattle.station_rules.specs.History.{plan}
use Rattle.stream_rules.specs.Lines.{line, answer_line, entry_line, entry_lines}
use Rattle.stream_rules.specs.Reader.{numbers_on, answer_on, entry_on, entries_on}

-- ---- a line
-- its words parted by single spaces, without the newline
unfoldable parted : List (List ℕ) → List ℕ
parted [] = []
parted (w ∷ []) = w
parted (w ∷ v ∷ ws) = w ++ (32 ∷ parted (v ∷ ws))

line_is : (ws : List (List ℕ)) → line ws ≡ parted ws ++ (10 ∷ [])
unfolding line parted
line_is [] = refl
line_is (w ∷ []) = refl
line_is (w ∷ v ∷ ws) =
    ap (λ (t : List ℕ). (w ++ (32 ∷ [])) ++ t) (line_is (v ∷ ws))
    ∙ append_assoc w (32 ∷ []) (parted (v ∷ ws) ++ (10 ∷ []))
    ∙ sym (append_assoc w (32 ∷ parted (v ∷ ws)) (10 ∷ []))

words_are : (ws : List (List ℕ)) → All Word ws → words_of (parted ws) ≡ ws
unfolding All parted words_of parts full
words_are [] h = refl
words_are (w ∷ []) h = word_last w h.0
words_are (w ∷ v ∷ ws) h = word_then w (parted (v ∷ ws)) h.0 ∙ ap (λ (l : List (List ℕ)). w ∷ l) (words_are (v ∷ ws) h.1)

abbrev Inside : List ℕ → Type 0
Inside t = All (λ b. newline b ≡ false) t

word_inside : (w : List ℕ) → Word w → Inside w
word_inside w h = all_map _ (λ b. newline b ≡ false) no_newline w h.printing

inside : (ws : List (List ℕ)) → All Word ws → Inside (parted ws)
unfolding All parted newline
inside [] h = tt
inside (w ∷ []) h = word_inside w h.0
inside (w ∷ v ∷ ws) h = all_append (λ b. newline b ≡ false) w (32 ∷ parted (v ∷ ws)) (word_inside w h.0) (refl, inside (v ∷ ws) h.1)

-- the first line of a text, and those behind it
pub line_read : (ws : List (List ℕ)) → All Word ws → (t : List ℕ) → numbers_on (line ws ++ t) ≡ map (value_after 0) ws ∷ numbers_on t
line_read ws h t =
    let l : lines_of (line ws ++ t) ≡ parted ws ∷ lines_of t =
    ap (λ (x : List ℕ). lines_of (x ++ t)) (line_is ws) ∙ ap lines_of (append_assoc (parted ws) (10 ∷ []) t) ∙ line_then (parted ws) t (inside ws h) in
    ap (map (λ (x : List ℕ). map (value_after 0) (words_of x))) l
    ∙ ap (λ (x : List (List ℕ)). map (value_after 0) x ∷ numbers_on t) (words_are ws h)

-- ---- decimal words
pub decimals : (ns : List ℕ) → All Word (map decimal ns)
unfolding All
decimals [] = tt
decimals (n ∷ ns) = (decimal_word n, decimals ns)

values : (ns : List ℕ) → map (value_after 0) (map decimal ns) ≡ ns
values [] = refl
values (n ∷ ns) = ap (λ (x : ℕ). x ∷ map (value_after 0) (map decimal ns)) (decimal_value n) ∙ ap (λ (l : List ℕ). n ∷ l) (values ns)

numbers_read : (ns : List ℕ) (t : List ℕ) → numbers_on (line (map decimal ns) ++ t) ≡ ns ∷ numbers_on t
numbers_read ns t = line_read (map decimal ns) (decimals ns) t ∙ ap (λ (l : List ℕ). l ∷ numbers_on t) (values ns)

-- the answer on a record's line, whatever a reply adds to it and stands below
pub answer_read : (n kind number : ℕ) (added : List (List ℕ)) → All Word added → (t : List ℕ)
    → answer_on (numbers_on (line (decimal n ∷ decimal kind ∷ decimal number ∷ added) ++ t)) ≡ number
answer_read n kind number added h t =
    let ws = decimal n ∷ decimal kind ∷ decimal number ∷ added in
    let w : All Word ws =
    all_cons Word _ _ (decimal_word n) (all_cons Word _ _ (decimal_word kind) (all_cons Word _ _ (decimal_word number) h)) in
    ap answer_on (line_read ws w t) ∙ decimal_value number

-- ---- the lines of a plan's entries
entries_read : (k : ℕ) (es : List Entry) → map entry_on (numbers_on (entry_lines k es)) ≡ map entry_shown es
unfolding entry_lines entry_line lines_of parts
entries_read k [] = refl
entries_read k (e ∷ es) =
    ap (map entry_on) (numbers_read (k ∷ e.ask.request.unit ∷ e.ask.request.address ∷ e.start ∷ _ ∷ _ ∷ []) (entry_lines (suc k) es))
    ∙ ap (λ (l : List EntryShown). entry_shown e ∷ l) (entries_read (suc k) es)

pub plan_lines_read : (n kind number tag : ℕ) (es : List Entry)
    → entries_on (plan tag) (numbers_on (answer_line n kind number ++ entry_lines 0 es)) ≡ map entry_shown es
unfolding answer_line
plan_lines_read n kind number tag es =
    ap (λ (l : List (List ℕ)). map entry_on (drop 1 l)) (numbers_read (n ∷ kind ∷ number ∷ []) (entry_lines 0 es)) ∙ entries_read 0 es

-- ---- two texts that are the same show the same
pub one_answer : (n kind number m sort other : ℕ) → answer_line n kind number ≡ answer_line m sort other
    → n ∷ kind ∷ number ∷ [] ≡ m ∷ sort ∷ other ∷ []
unfolding answer_line
one_answer n kind number m sort other e =
    let read : (ns : List ℕ) → get_or (numbers_on (line (map decimal ns))) 0 [] ≡ ns =
    λ ns. ap (λ (x : List ℕ). get_or (numbers_on x) 0 []) (sym (append-nil (line (map decimal ns))))
    ∙ ap (λ (l : List (List ℕ)). get_or l 0 []) (numbers_read ns []) in
    sym (read (n ∷ kind ∷ number ∷ [])) ∙ ap (λ (x : List ℕ). get_or (numbers_on x) 0 []) e ∙ read (m ∷ sort ∷ other ∷ [])
