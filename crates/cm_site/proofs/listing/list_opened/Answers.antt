use Rattle.cm_site.proofs.OpenedEnds.{ends_listed}
use Rattle.cm_site.proofs.listing.list_opened.Goals as goal

pub returns : goal.returns
returns g c = λ from to.
    let d = g.D.Disk in
    let library = c.args.library.now in
    let told = c.tells.ensures in
    ends_listed d.reads d.may_leave d.moment d.left_since d.faults c.args.bay library c.requires (record { files = told.files; stands = told.stands; opens = told.opens }) (λ files left. g.met.D.Disk.only_now library.disk files left) from to c.tell.result c.tell.ensures
