use Rattle.std.proofs.Common.{refl}
use Rattle.cm_net.specs.Written.{site}
use Rattle.cm_net.proofs.Reading.{site_bad}
use Rattle.cm_net.proofs.boundary_reader.site.Goals as goal

pub returns-in-Ok : goal.returns-in-Ok
returns-in-Ok c = (site c.in-Ok.name, record { body = c.args.body.now; is_body = c.in-Ok.ensures; is = refl }, refl)

pub returns-in-Err : goal.returns-in-Err
returns-in-Err c = rw c.bad.ensures (site_bad c.args.body.now c.in-Err.at c.in-Err.ensures.0)
