use Rattle.cm_disk.proofs.Walks.{first_least, first_nearer}
use Rattle.cm_disk.proofs.walk.next_of_form.Goals as goal

pub returns-in-None-clause-least : goal.returns-in-None-clause-least
returns-in-None-clause-least g c =
    first_least g.F.Form.is_form g.F.Form.place_of (g.D.Disk.reads c.args.disk.now) c.folder.result c.args.after c.first_above-in-None.result c.in-None.is c.folder.ensures c.first_above-in-None.ensures.least

pub returns-in-None-clause-nearer : goal.returns-in-None-clause-nearer
returns-in-None-clause-nearer g c =
    first_nearer g.F.Form.place_of c.folder.result c.args.after c.first_above-in-None.result c.in-None.is c.first_above-in-None.ensures.rises
