use Rattle.std.proofs.Common.{arith, sym, ◌∙◌}
use Rattle.cm_net.specs.Written.{prefix}
use Rattle.cm_net.proofs.Fronts.{six_place}
use Rattle.cm_net.proofs.Reading.{as_split, prefix_bad, prefix_short, prefix_no_bits, prefix_written, prefix_sound, prefix_hosts}
use Rattle.cm_net.proofs.boundary_reader.prefix.Goals as goal

pub bad-requires : goal.bad-requires
bad-requires c = omega (arith, six_place _ _ c.in-Err.ensures)

pub returns-in-Err : goal.returns-in-Err
returns-in-Err c = rw c.bad.ensures (prefix_bad c.args.body.now _ _ c.in-Err.at c.split.ensures.free (as_split 47 _ _ _ c.split.ensures.whole) c.in-Err.ensures)

pub returns-in_default : goal.returns-in_default
returns-in_default c = prefix_short c.args.body.now _ c.in-Ok.net c.split.ensures.free (rw c.in_default.is at c.split.ensures.whole) c.in-Ok.ensures

pub returns-in_default-bits_of : goal.returns-in_default-bits_of
returns-in_default-bits_of c = prefix_no_bits c.args.body.now _ _ c.in-Ok.net c.split.ensures.free (rw c.in-Some.is at c.split.ensures.whole) c.in-Ok.ensures c.in_default-bits_of.ensures

pub returns-then-ends_in_zeros : goal.returns-then-ends_in_zeros
returns-then-ends_in_zeros c = (
  prefix c.in-Ok.net c.in-Some-bits_of.bits,
  prefix_written c.args.body.now _ _ c.in-Ok.net c.in-Some-bits_of.bits (rw c.in-Some.is at c.split.ensures.whole) c.in-Ok.ensures c.in-Some-bits_of.ensures,
  prefix_sound c.in-Ok.net c.in-Some-bits_of.bits _ c.from.ensures (sym c.if-ends_in_zeros.true ∙ c.ends_in_zeros.ensures),
)

pub returns-else-ends_in_zeros : goal.returns-else-ends_in_zeros
returns-else-ends_in_zeros c = (
  prefix c.in-Ok.net c.in-Some-bits_of.bits,
  prefix_written c.args.body.now _ _ c.in-Ok.net c.in-Some-bits_of.bits (rw c.in-Some.is at c.split.ensures.whole) c.in-Ok.ensures c.in-Some-bits_of.ensures,
  prefix_hosts c.in-Ok.net c.in-Some-bits_of.bits _ c.from.ensures (sym c.if-ends_in_zeros.false ∙ c.ends_in_zeros.ensures),
)
