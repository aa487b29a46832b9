use Rattle.std.proofs.Common.{arith}
use Rattle.cm_net.proofs.index.Index.by_address.Goals as goal

pub returns-in-V4-clause-groups : goal.returns-in-V4-clause-groups
returns-in-V4-clause-groups g c =
    rw (c.in-V4.is, ← c.self.view_is, c.groups_at.ensures.groups, c.deref.ensures.value, c.from.ensures)
    (c.self.invariant.four_right.right c.in-V4.address (omega arith))

pub returns-in-V6-clause-groups : goal.returns-in-V6-clause-groups
returns-in-V6-clause-groups g c =
    rw (c.in-V6.is, ← c.self.view_is, c.groups_at-in-V6.ensures.groups, c.deref-in-V6.ensures.value)
    (c.self.invariant.six_right.right c.in-V6.address (omega arith))
