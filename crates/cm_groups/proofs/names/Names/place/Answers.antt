use Rattle.std.proofs.Common.{rules}
use Rattle.cm_groups.proofs.Places.{within_by}
use Rattle.cm_groups.proofs.names.Names.place.Goals as goal

pub returns-clause-within : goal.returns-clause-within
returns-clause-within g c = within_by (λ other. g.K.PartialEq.eq other c.args.name.now) c.args.self.now c.args.name.now c.copied.result (search rules)
