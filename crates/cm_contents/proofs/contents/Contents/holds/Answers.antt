use Rattle.cm_contents.proofs.Holding.{held_some, held_none}
use Rattle.cm_contents.proofs.contents.Contents.holds.Goals as goal

pub returns-in-Some : goal.returns-in-Some
returns-in-Some c = held_some c.args.self.now.state c.args.package c.args.version c.args.self.now.state.next 0 c.in-Some.fault c.is_of_version.result c.is_of_version.ensures c.in-Some.ensures

pub returns-in-None : goal.returns-in-None
returns-in-None c = held_none c.args.self.now.state c.args.package c.args.version c.args.self.now.state.next 0 c.in-None.ensures
