use Rattle.cm_state.proofs.WholeAtOpening.{versions_sure}
use Rattle.cm_state.proofs.laws.found_files_are_sure.Goals as goal

pub returns : goal.returns
returns g c whole fewer x told state stands =
    let d = g.D.Disk in
    versions_sure x (d.may_leave c.args.start.now) (d.may_leave c.args.disk.now) state whole fewer (g.met.D.Disk.as_it_reads c.args.disk.now x told) stands
