use Rattle.std.proofs.Common.{sym, arith}
use Rattle.cm_groups.proofs.Places.{near_place}
use Rattle.cm_groups.proofs.names.Names.place_near.Goals as goal

pub returns-then-eq-clause-place : goal.returns-then-eq-clause-place
returns-then-eq-clause-place g c =
    near_place g.K.PartialEq.eq g.met.K.Eq.laws c.args.self.now c.self.inside.names.items c.self.inside.firsts.items c.args.near c.args.name.now c.index.result.now c.index-then-eq.result.now
    (sym c.self.view_is) c.self.invariant.1 (omega arith) c.index.ensures (sym c.if-eq.ensures) c.index-then-eq.ensures
