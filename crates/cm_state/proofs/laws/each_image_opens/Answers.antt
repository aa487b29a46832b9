use Rattle.cm_state.proofs.ImagesOpen.{each_opens}
use Rattle.cm_state.proofs.laws.each_image_opens.Goals as goal

pub returns : goal.returns
returns g c state shelf x told st manifests versions = each_opens x (g.D.Disk.may_leave c.args.disk.now) c.args.log.now state shelf st manifests versions
