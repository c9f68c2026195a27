-- What stands in the body of a record that begins at a place b, by its kind.
use Rattle.std.specs.Prelude.{ℕ, ◌+◌, min, List, [], ◌∷◌, length, get_or}
use Rattle.planner_rules.specs.declared.request.Request.{Request}
use Rattle.planner_rules.specs.declared.setup.Setup.{Setup}
use Rattle.reader_rules.specs.declared.fields.Edges.{Edges}
use Rattle.reader_rules.specs.declared.fields.Reply.{Reply}
use Rattle.reader_rules.specs.Records.{number_at, message_length}

-- eight bytes, one for each unit
unfoldable pub eight_at : List ℕ → ℕ → List ℕ
eight_at s at =
    get_or s at 0 ∷ get_or s (at + 1) 0 ∷ get_or s (at + 2) 0 ∷ get_or s (at + 3) 0
    ∷ get_or s (at + 4) 0 ∷ get_or s (at + 5) 0 ∷ get_or s (at + 6) 0 ∷ get_or s (at + 7) 0 ∷ []

-- 1 setup: L 2, R 2, limit, 8 guarantees, 8 ceilings
abbrev pub setup_at : List ℕ → ℕ → Setup
setup_at s b =
    record {
      period = number_at s b 2;
      reach = number_at s (b + 2) 2;
      limit = get_or s (b + 4) 0;
      guarantee = eight_at s (b + 5);
      ceiling = eight_at s (b + 13);
    }

-- 2 new target and 9 move: address 3, near 2, far 2
abbrev pub edges_at : List ℕ → ℕ → Edges
edges_at s b = record { address = number_at s b 3; near = number_at s (b + 3) 2; far = number_at s (b + 5) 2 }

-- 3 remove and 8 report: address 3
abbrev pub address_at : List ℕ → ℕ → ℕ
address_at s b = number_at s b 3

-- 4 request: unit, address 3, UF, PC, RR, DI, SD 2, MA 7
abbrev pub request_at : List ℕ → ℕ → Request
request_at s b =
    record {
      unit = get_or s b 0;
      address = number_at s (b + 1) 3;
      uf = get_or s (b + 4) 0;
      pc = get_or s (b + 5) 0;
      rr = get_or s (b + 6) 0;
      di = get_or s (b + 7) 0;
      sd = number_at s (b + 8) 2;
      ma = number_at s (b + 10) 7;
    }

-- 5 plan: tag 4
abbrev pub tag_at : List ℕ → ℕ → ℕ
tag_at s b = number_at s b 4

-- the place k after b, or the end of the stream
abbrev pub place_after : List ℕ → ℕ → ℕ → ℕ
place_after s b k = min (length s) (b + k)

-- 6 short reply and 7 long reply: entry, tag 4, message, marks; message and marks are the parts [message, marks) and [marks, end) of the stream
abbrev pub reply_at : List ℕ → ℕ → ℕ → Reply
reply_at s kind b =
    record {
      entry = get_or s b 0;
      tag = number_at s (b + 1) 4;
      message = place_after s b 5;
      marks = place_after s b (5 + message_length kind);
      end = place_after s b (5 + message_length kind + message_length kind);
    }
