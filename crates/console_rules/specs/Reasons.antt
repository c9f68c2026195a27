-- Why a line is not read, in the order of the reasons, and the texts that say so.
use Rattle.std.specs.Prelude.{ℕ, zero, suc, Bool, not, ◌&&◌, ◌||◌, List, ◌++◌, eqb, ltb, length, Option, Some, None, is_some, Result, Ok, Err}
use Rattle.lists.specs.Lists.{pick}
use Rattle.text_rules.specs.Put.{decimal}
use Rattle.text_rules.specs.Plain.{plain}
use Rattle.text_rules.specs.Bases.{number_of}
use Rattle.text_rules.specs.Signed.{integer_of}
use Rattle.text_rules.specs.Hex.{bytes_in}
use Rattle.console_rules.specs.declared.names.Command.{Command}
use Rattle.console_rules.specs.declared.names.Row.{Row}
use Rattle.console_rules.specs.declared.names.Sort.{Sort}
use Rattle.console_rules.specs.declared.names.Sort.TheVariants as sort
use Rattle.console_rules.specs.declared.names.Reason.{Reason}
use Rattle.console_rules.specs.declared.names.Reason.TheVariants.{NoSuchLine, Wanted, NoAircraft, NoNumber, NoBytes}
use Rattle.console_rules.specs.Texts.{word}

-- ---- a line that is longer than 1000 bytes is not looked at
abbrev pub too_long : List ℕ
too_long = plain "? longer than 1000 bytes\n"

abbrev pub is_too_long : List ℕ → Bool
is_too_long line = ltb 1000 (length line)

-- ---- the words behind the name

-- what belongs at the k-th word, counted from 1: bytes, a number that may have a minus sign, or else a number
unfoldable pub sort_at : Row → ℕ → Sort
sort_at r k = pick (eqb k r.bytes || eqb k r.more) sort.Bytes (pick (eqb k r.sign) sort.Integer sort.Number)

-- the word says what belongs there
unfoldable pub says : Sort → List ℕ → Bool
says sort.Number w = is_some (number_of w)
says sort.Integer w = is_some (integer_of w)
says sort.Bytes w = is_some (bytes_in w)

-- the first of the n words behind the k-th that does not say what belongs there
unfoldable pub fault_behind : Row → ℕ → ℕ → List (List ℕ) → Option ℕ
fault_behind r zero k ws = None
fault_behind r (suc n) k ws = pick (says (sort_at r (suc k)) (word (suc k) ws)) (fault_behind r n (suc k) ws) (Some (suc k))

unfoldable pub fault : Row → List (List ℕ) → Option ℕ
fault r ws = fault_behind r r.words 0 ws

-- ---- the reasons

-- the k-th word is not of its sort
unfoldable pub unfit : Sort → ℕ → Reason
unfit sort.Number k = NoNumber k
unfit sort.Integer k = NoNumber k
unfit sort.Bytes k = NoBytes k

-- the call, or the word at fault
unfoldable pub by_word : Row → Option ℕ → Result Command Reason
by_word r None = Ok r.command
by_word r (Some k) = Err (unfit (sort_at r k) k)

-- the call of a line that is read, or why it is not, in this order: too few or too many words, no aircraft, a word that is no number or no bytes
unfoldable pub judged : Row → Bool → List (List ℕ) → Result Command Reason
judged r made ws =
    pick (not (eqb (length ws) (suc r.words))) (Err (Wanted r.words))
    (pick (r.aircraft && not made) (Err NoAircraft)
    (by_word r (fault r ws)))

-- before these: no such line
unfoldable pub reading : Option Row → Bool → List (List ℕ) → Result Command Reason
reading None made ws = Err NoSuchLine
reading (Some r) made ws = judged r made ws

unfoldable pub reason_text : Reason → List ℕ
reason_text NoSuchLine = plain "? no such line\n"
reason_text (Wanted n) = plain "? words wanted: " ++ (decimal n ++ plain "\n")
reason_text NoAircraft = plain "? no aircraft\n"
reason_text (NoNumber k) = plain "? word " ++ (decimal k ++ plain " is no number\n")
reason_text (NoBytes k) = plain "? word " ++ (decimal k ++ plain " is no bytes\n")
