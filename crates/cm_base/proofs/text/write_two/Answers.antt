use Rattle.cm_base.proofs.Sunk.{front_of_both}
use Rattle.cm_base.proofs.text.write_two.Goals as goal

pub returns-in-Err-write_text-clause-front : goal.returns-in-Err-write_text-clause-front
returns-in-Err-write_text-clause-front g c = front_of_both _ _ _ c.args.first.now c.args.second.now c.in-Ok.ensures.whole c.in-Err-write_text.ensures.front
