-- `station::replies::expected` meets its contract: by what the request draws.
use Rattle.std.proofs.Common.{◌≡◌, ap, ◌∙◌}
use Rattle.frames_rules.specs.Shared.{drawn}
use Rattle.frames_rules.proofs.Unique.{drawn_is}
use Rattle.station_rules.specs.Replies.{format_in, expected}
use Rattle.station.proofs.replies.expected.Goals as goal

pub returns : goal.returns
unfolding expected
returns c =
    let e : c.drawn.result ≡ drawn c.args.q.uf c.args.q.rr = drawn_is _ _ c.drawn.result c.drawn.ensures ∙ (rw (c.byte.ensures, c.byte-2.ensures)) in
    c.unwrap_or.ensures ∙ ap format_in e
