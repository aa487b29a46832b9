use Rattle.std.proofs.Common.{arith, codes}
use Rattle.cm_net.proofs.Reading.{front_subnet, front_prefix, front_site, front_range, front_short}
use Rattle.cm_net.proofs.boundary_reader.no_word.Goals as goal

pub returns-in-Some-clause-place : goal.returns-in-Some-clause-place
returns-in-Some-clause-place c = front_subnet c.args.text.now _ c.in-Some.ensures c.requires

pub returns-in-Some-clause-near : goal.returns-in-Some-clause-near
returns-in-Some-clause-near c = front_short c.args.text.now _ (codes "subnet:") c.in-Some.ensures (omega arith)

pub returns-in-Some-behind-clause-place : goal.returns-in-Some-behind-clause-place
returns-in-Some-behind-clause-place c = front_prefix c.args.text.now _ c.in-Some-behind.ensures c.requires

pub returns-in-Some-behind-clause-near : goal.returns-in-Some-behind-clause-near
returns-in-Some-behind-clause-near c = front_short c.args.text.now _ (codes "prefix:") c.in-Some-behind.ensures (omega arith)

pub returns-in-Some-behind-2-clause-place : goal.returns-in-Some-behind-2-clause-place
returns-in-Some-behind-2-clause-place c = front_site c.args.text.now _ c.in-Some-behind-2.ensures c.requires

pub returns-in-Some-behind-2-clause-near : goal.returns-in-Some-behind-2-clause-near
returns-in-Some-behind-2-clause-near c = front_short c.args.text.now _ (codes "site:") c.in-Some-behind-2.ensures (omega arith)

pub returns-in-Some-behind-3-clause-place : goal.returns-in-Some-behind-3-clause-place
returns-in-Some-behind-3-clause-place c = front_range c.args.text.now _ c.in-Some-behind-3.ensures c.requires

pub returns-in-Some-behind-3-clause-near : goal.returns-in-Some-behind-3-clause-near
returns-in-Some-behind-3-clause-near c = front_short c.args.text.now _ (codes "range:") c.in-Some-behind-3.ensures (omega arith)
