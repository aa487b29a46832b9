use Rattle.cm_state.proofs.Storing.{storing_opens}
use Rattle.cm_state.proofs.laws.storing_opens.Goals as goal

pub returns : goal.returns
returns g c state id version entries shelf x told st manifests versions named free long below =
    storing_opens x (g.D.Disk.may_leave c.args.disk.now) c.args.log.now state id version entries shelf st manifests versions named free long below
