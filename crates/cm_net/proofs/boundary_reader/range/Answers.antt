use Rattle.std.proofs.Common.{arith}
use Rattle.cm_net.proofs.Fronts.{address_place, address_short}
use Rattle.cm_net.proofs.Reading.{as_split, range_first, range_open, range_second, range_answers}
use Rattle.cm_net.proofs.boundary_reader.range.Goals as goal

pub bad-requires : goal.bad-requires
bad-requires c = omega (arith, address_place _ _ c.in-Err.ensures)

pub returns-in-Err : goal.returns-in-Err
returns-in-Err c = rw c.bad.ensures (range_first c.args.body.now _ _ c.in-Err.at c.split.ensures.free (as_split 45 _ _ _ c.split.ensures.whole) c.in-Err.ensures)

pub bad-requires-in_default : goal.bad-requires-in_default
bad-requires-in_default c = omega (arith, address_short _ _ c.in-Ok.ensures)

pub returns-in_default : goal.returns-in_default
returns-in_default c = rw c.bad-in_default.ensures (range_open c.args.body.now _ c.in-Ok.from c.split.ensures.free (rw c.in_default.is at c.split.ensures.whole) c.in-Ok.ensures)

pub bad-requires-in-Err-address_of : goal.bad-requires-in-Err-address_of
bad-requires-in-Err-address_of c = omega (arith, address_short _ _ c.in-Ok.ensures, address_place _ _ c.in-Err-address_of.ensures)

pub returns-in-Err-address_of : goal.returns-in-Err-address_of
returns-in-Err-address_of c = rw c.bad-in-Err-address_of.ensures (range_second c.args.body.now _ _ c.in-Ok.from c.in-Err-address_of.at c.split.ensures.free (rw c.in-Some.is at c.split.ensures.whole) c.in-Ok.ensures c.in-Err-address_of.ensures)

pub returns : goal.returns
returns c = range_answers c.args.body.now _ _ c.in-Ok.from c.in-Ok-address_of.to c.between.result (rw c.in-Some.is at c.split.ensures.whole) c.in-Ok.ensures c.in-Ok-address_of.ensures c.between.ensures
