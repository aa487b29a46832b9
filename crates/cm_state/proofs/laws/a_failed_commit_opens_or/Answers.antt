use Rattle.cm_state.proofs.ImagesOpen.{unsettled_opens}
use Rattle.cm_state.proofs.laws.a_failed_commit_opens_or.Goals as goal

pub returns : goal.returns
returns g c state change shelf may x told st manifests versions files = unsettled_opens x (g.D.Disk.may_leave c.args.disk.now) c.args.log.now state change shelf st may manifests versions files
