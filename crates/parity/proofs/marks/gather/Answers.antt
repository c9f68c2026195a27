-- `parity::marks::gather` meets its contract. The invariant: the places from n - k on are gathered.
use Rattle.std.proofs.Common.{◌<◌, ◌-◌, ◌*◌, ℕ, refl, sym, subst, arith, length}
use Rattle.parity_rules.specs.Messages.{bits}
use Rattle.parity_rules.proofs.Bits.{bits_length, bits_are, are_at}
use Rattle.parity_rules.proofs.Kept.{gathered_none, gathered_next}
use Rattle.parity.proofs.marks.gather.Goals as goal

pub loop-k-init : goal.loop-k-init
loop-k-init c =
    let m = c.args.marks.now in
    (refl, omega arith, omega arith, gathered_none (bits m) _ (length m * 8) (bits_length m))

pub noted-many-requires : goal.noted-many-requires
noted-many-requires c =
    let m = c.args.marks.now in
    (omega arith, omega arith, subst (λ (b : ℕ). b < 2) (sym c.bit.ensures) (are_at (bits m) (bits_are m) _), omega arith)

pub loop-k-preserved : goal.loop-k-preserved
loop-k-preserved c =
    let m = c.args.marks.now in
    let b = are_at (bits m) (bits_are m) (length m * 8 - 1 - c.loop-k.k) in
    let e = c.bit.ensures in
    let noted = c.noted-many.ensures in (
      refl,
      omega (arith, noted.counted),
      noted.room,
      gathered_next (bits m) _ _ (length m * 8) c.loop-k.k _ _ _ (bits_length m) (omega arith) e c.loop-k.invariant.3 noted,
    )
