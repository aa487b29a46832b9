use Rattle.cm_net.proofs.GatheredRows.{site_row}
use Rattle.cm_net.proofs.gathered.add_site.Goals as goal

pub returns-in_ok-add-clause-added : goal.returns-in_ok-add-clause-added
returns-in_ok-add-clause-added c = λ rows was name number.
    site_row rows c.args.boundary.now c.args.group c.in-Site.name name number _ _ c.in-Site.is (c.in_ok-add.ensures.added name number) (was name number)
