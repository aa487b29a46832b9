use Rattle.cm_site.specs.Runs.{fed, sourced}
use Rattle.cm_top.proofs.running.command.Goals as goal

pub returns-in-Add : goal.returns-in-Add
returns-in-Add g c =
    let input = fed g.S.Source.left g.S.Source.faults c.args.input.now in
    rw c.in-Add.is (c.add.ensures input input c.args.minute)

pub returns-in-Update : goal.returns-in-Update
returns-in-Update g c =
    let input = fed g.S.Source.left g.S.Source.faults c.args.input.now in
    rw c.in-Update.is (c.update.ensures input input c.args.minute)

pub returns-in-Drop : goal.returns-in-Drop
returns-in-Drop g c = rw c.in-Drop.is (c.drop_job.ensures _ _ _)

pub returns-in-List : goal.returns-in-List
returns-in-List g c = rw c.in-List.is (c.list.ensures _ _ _)

pub returns-in-Validate : goal.returns-in-Validate
returns-in-Validate g c = rw c.in-Validate.is (c.validate.ensures _ _ _)

pub returns-in-WhatIf : goal.returns-in-WhatIf
returns-in-WhatIf g c = rw c.in-WhatIf.is (c.what_if.ensures _ _ _)

pub returns-in-Purge : goal.returns-in-Purge
returns-in-Purge g c = rw c.in-Purge.is (c.purge.ensures _ _ _)

pub returns-in-Topology : goal.returns-in-Topology
returns-in-Topology g c =
    let folder = sourced g.F.Folder.shows g.F.Folder.faults c.args.folder.now in
    rw c.in-Topology.is (c.topology.ensures folder folder)
