use Rattle.cm_disk.proofs.Quiet.{quiet_start, quiet_next, quiet_join}
use Rattle.cm_datalib.proofs.loading.load.Goals as goal

pub returns-then-found-le-MOST_BYTES-clause-run : goal.returns-then-found-le-MOST_BYTES-clause-run
returns-then-found-le-MOST_BYTES-clause-run g c =
    let d = g.D.Disk in
    let start = c.args.disk.now in
    let sized = quiet_next d.may_leave d.moment d.left_since start start c.size.new.self (quiet_start d.may_leave d.moment d.left_since start (g.met.D.Disk.only_now start)) c.size.ensures.time c.size.ensures.stop in
    (quiet_join d.may_leave d.moment d.left_since start c.size.new.self c.load_named.new.disk sized c.load_named.ensures.run c.load_named.ensures.stop).run
