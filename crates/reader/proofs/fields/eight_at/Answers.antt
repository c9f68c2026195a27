-- `eight_at` reads eight bytes.
use Rattle.reader.proofs.Numbers.{eight_of}
use Rattle.reader.proofs.fields.eight_at.Goals as goal

pub returns : goal.returns
returns c =
    eight_of c.args.s.now c.args.at c.args.from c.byte_at.ensures c.byte_at-2.ensures c.byte_at-3.ensures c.byte_at-4.ensures
    c.byte_at-5.ensures c.byte_at-6.ensures c.byte_at-7.ensures c.byte_at-8.ensures
