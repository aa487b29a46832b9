use Rattle.cm_net.proofs.Named.{none_rises}
use Rattle.cm_net.proofs.index.Index.by_site.Goals as goal

pub returns-in-Some-clause-groups : goal.returns-in-Some-clause-groups
returns-in-Some-clause-groups g c =
    rw (c.in-Some.is, ← c.self.view_is, c.groups_of_site.ensures.groups, c.deref.ensures.value)
    (c.self.invariant.sites_right.right c.in-Some.name.now)

pub returns-in-None-clause-groups : goal.returns-in-None-clause-groups
returns-in-None-clause-groups g c = rw c.in-None.is (none_rises c.args.self.now)
