use Rattle.std.proofs.Common.{rules}
use Rattle.cm_site.proofs.MakingKinds.{makes_records, records_there, records_stop}
use Rattle.cm_site.proofs.init.make_records.Goals as goal

pub returns-in-Ok-clause-made : goal.returns-in-Ok-clause-made
returns-in-Ok-clause-made g c =
    let d = g.D.Disk in
    makes_records d.reads d.may_leave d.moment d.left_since c.args.bay.now.name c.args.bay.now.disk c.init_records.new.disk c.requires.kind c.init_records.ensures.places c.init_records.ensures.any_moment
    c.in-Ok.ensures.made c.in-Ok.ensures.durable

pub returns-in-Err-AlreadyThere-clause-made : goal.returns-in-Err-AlreadyThere-clause-made
returns-in-Err-AlreadyThere-clause-made g c =
    let d = g.D.Disk in
    records_there d.reads d.may_leave d.moment d.left_since c.args.bay.now.name c.args.bay.now.disk c.init_records.new.disk c.requires.kind c.init_records.ensures.places c.init_records.ensures.any_moment
    (g.met.D.Disk.counts_now c.init_records.new.disk) (c.in-Err-AlreadyThere.ensures.there (search rules)) (c.in-Err-AlreadyThere.ensures.same (search rules))

pub returns-in-Err-Disk-clause-failed : goal.returns-in-Err-Disk-clause-failed
returns-in-Err-Disk-clause-failed g c =
    let d = g.D.Disk in
    records_stop d.reads d.may_leave d.moment d.left_since c.args.bay.now.name c.args.bay.now.disk c.init_records.new.disk c.requires.kind c.init_records.ensures.places c.init_records.ensures.any_moment
    (g.met.D.Disk.counts_now c.init_records.new.disk) (c.in-Err-Disk.ensures.failed (search rules)) d.faults (c.in-Err-Disk.ensures.cause (search rules))
