use Rattle.std.proofs.Common.{None, Some}
use Rattle.cm_groups.proofs.Places.{before}
use Rattle.cm_groups.proofs.names.Names.has_before.Goals as goal

pub returns-in-Some : goal.returns-in-Some
returns-in-Some g c = before _ _ c.args.end (Some c.in-Some.place) c.in-Some.ensures.place

pub returns-in-None : goal.returns-in-None
returns-in-None g c = before _ _ c.args.end None c.in-None.ensures.place
