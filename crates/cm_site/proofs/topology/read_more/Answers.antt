use Rattle.std.proofs.Common.{rules}
use Rattle.cm_site.proofs.Fed.{goes_on}
use Rattle.cm_site.proofs.topology.read_more.Goals as goal

pub returns-in-Ok-extend_from_slice-clause-goes_on : goal.returns-in-Ok-extend_from_slice-clause-goes_on
returns-in-Ok-extend_from_slice-clause-goes_on g c =
    goes_on (g.S.Source.left c.args.input.now) (g.S.Source.left c.read.new.self) c.read.new.buf c.in-Ok.count c.in-Ok.ensures.given c.args.text.now.items c.extend_from_slice.new.self.items (search rules)
