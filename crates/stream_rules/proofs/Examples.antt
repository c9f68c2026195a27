-- Lines of document 01, computed: the first plan line of case P1, reports of nothing heard and of a zero that was heard, a delay of −1, and the places of a
-- reply.
use mathlib.Core.Path.{◌≡◌, refl}
use mathlib.Core.List.{[], ◌∷◌}
use lib.IntN.{pos, negsuc}
use Rattle.text_rules.specs.Line.{blank, newline, grown, parts, full, lines_of, words_of}
use Rattle.text_rules.specs.Number.{value_after}
use Rattle.text_rules.specs.Put.{decimal_in, decimal}
use Rattle.text_rules.specs.Signed.{signed_decimal}
use Rattle.text_rules.specs.Plain.{plain}
use Rattle.planner_rules.specs.declared.request.Ask.{Ask}
use Rattle.planner_rules.specs.Exchange.{sent_for, reply_for, entry_at}
use Rattle.std.specs.Prelude.{None}
use Rattle.station_rules.specs.State.{heard}
use Rattle.stream_rules.specs.Reader.{numbers_on, entries_first}
use Rattle.stream_rules.specs.Lines.{line, answer_line, reply_line, entry_line, value_word, age_word, report_line}

-- case P1: unit 0 asks address 1 with UF 20 and RR 16; near 2000, far 2010
abbrev asked : Ask
asked =
    record {
      request = record { unit = 0; address = 1; uf = 20; pc = 0; rr = 16; di = 0; sd = 0; ma = 0 };
      near = 2000;
      far = 2010;
    }

first_entry : entry_line 0 (entry_at asked 0) ≡ plain "0 0 1 0 2530 3022\n"
unfolding entry_line line decimal decimal_in sent_for reply_for
first_entry = refl

first_record : answer_line 1 1 0 ≡ plain "1 1 0\n"
unfolding answer_line line decimal decimal_in
first_record = refl

-- a delay may be −1; the places are those of document 01's three bits
early_reply : reply_line 12 7 3 (negsuc 0) (1 ∷ 31 ∷ 111 ∷ []) ≡ plain "12 7 0 3 -1 1 31 111\n"
unfolding reply_line line decimal decimal_in signed_decimal
early_reply = refl

-- with no flips nothing follows the delay
unflipped_reply : reply_line 9 6 0 (pos 2004) [] ≡ plain "9 6 0 0 2004\n"
unfolding reply_line line decimal decimal_in signed_decimal
unflipped_reply = refl

-- below a plan's own line: the line of an entry, then that of a taken reply with one place, which has six numbers too
entry_then_reply : entries_first (numbers_on (plain "0 0 1 0 2530 2798\n7 6 0 1 2005 32\n")) ≡ 1
unfolding entries_first blank newline grown parts full lines_of words_of value_after
entry_then_reply = refl

nothing_heard : report_line None None ≡ plain "- - - -\n"
unfolding report_line line value_word age_word
nothing_heard = refl

-- an AC of 0 that was heard after the last plan
heard_zero : report_line (heard 0 0) None ≡ plain "0 0 - -\n"
unfolding report_line line value_word age_word decimal decimal_in
heard_zero = refl

-- value before age, AC before ID
heard_both : report_line (heard 5776 2) (heard 2349 0) ≡ plain "5776 2 2349 0\n"
unfolding report_line line value_word age_word decimal decimal_in
heard_both = refl
