use Rattle.cm_log.proofs.Rest.{image_shelved}
use Rattle.cm_log.proofs.laws.rests_in_each_image.Goals as goal

pub returns : goal.returns
returns g c files left rests image = image_shelved c.args.shelf files (g.D.Disk.may_leave c.args.disk.now) rests left image
