use Rattle.std.proofs.Common.{arith, sym, ◌∙◌}
use Rattle.cm_net.specs.Written.{subnet}
use Rattle.cm_net.proofs.Fronts.{four_place}
use Rattle.cm_net.proofs.Reading.{as_split, subnet_bad, subnet_short, subnet_no_bits, subnet_written, subnet_sound, subnet_hosts}
use Rattle.cm_net.proofs.boundary_reader.subnet.Goals as goal

pub bad-requires : goal.bad-requires
bad-requires c = omega (arith, four_place _ _ c.in-Err.ensures)

pub returns-in-Err : goal.returns-in-Err
returns-in-Err c = rw c.bad.ensures (subnet_bad c.args.body.now _ _ c.in-Err.at c.split.ensures.free (as_split 47 _ _ _ c.split.ensures.whole) c.in-Err.ensures)

pub returns-in_default : goal.returns-in_default
returns-in_default c = subnet_short c.args.body.now _ c.in-Ok.net c.split.ensures.free (rw c.in_default.is at c.split.ensures.whole) c.in-Ok.ensures

pub returns-in_default-bits_of : goal.returns-in_default-bits_of
returns-in_default-bits_of c = subnet_no_bits c.args.body.now _ _ c.in-Ok.net c.split.ensures.free (rw c.in-Some.is at c.split.ensures.whole) c.in-Ok.ensures c.in_default-bits_of.ensures

pub returns-then-ends_in_zeros : goal.returns-then-ends_in_zeros
returns-then-ends_in_zeros c = (
  subnet c.in-Ok.net c.in-Some-bits_of.bits,
  subnet_written c.args.body.now _ _ c.in-Ok.net c.in-Some-bits_of.bits (rw c.in-Some.is at c.split.ensures.whole) c.in-Ok.ensures c.in-Some-bits_of.ensures,
  subnet_sound c.in-Ok.net c.in-Some-bits_of.bits _ _ c.from.ensures c.from-2.ensures (sym c.if-ends_in_zeros.true ∙ c.ends_in_zeros.ensures),
)

pub returns-else-ends_in_zeros : goal.returns-else-ends_in_zeros
returns-else-ends_in_zeros c = (
  subnet c.in-Ok.net c.in-Some-bits_of.bits,
  subnet_written c.args.body.now _ _ c.in-Ok.net c.in-Some-bits_of.bits (rw c.in-Some.is at c.split.ensures.whole) c.in-Ok.ensures c.in-Some-bits_of.ensures,
  subnet_hosts c.in-Ok.net c.in-Some-bits_of.bits _ _ c.from.ensures c.from-2.ensures (sym c.if-ends_in_zeros.false ∙ c.ends_in_zeros.ensures),
)
