use Rattle.cm_state.proofs.ImagesOpen.{commit_opens}
use Rattle.cm_state.proofs.laws.a_commit_opens_or.Goals as goal

pub returns : goal.returns
returns g c state change shelf may x told st manifests versions brings files = commit_opens x (g.D.Disk.may_leave c.args.disk.now) c.args.log.now state change shelf st may manifests versions brings files
