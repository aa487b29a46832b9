use Rattle.cm_net.proofs.Fronts.{leaves_either}
use Rattle.cm_net.proofs.address_text.address_of.Goals as goal

pub returns-in-Err-six_of : goal.returns-in-Err-six_of
returns-in-Err-six_of c = rw c.max.ensures (leaves_either c.args.text.now _ _ c.in-Err.ensures c.in-Err-six_of.ensures)
