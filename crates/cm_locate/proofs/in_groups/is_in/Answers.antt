use Rattle.cm_locate.proofs.Allowed.{has_marked}
use Rattle.cm_locate.proofs.in_groups.is_in.Goals as goal

pub returns : goal.returns
returns c = λ numbers are. has_marked c.args.groups.now c.args.name.now c.having.result.now numbers c.args.marks.now c.has_one.result c.has_one.ensures c.having.ensures are
