use Rattle.cm_net.proofs.Reading.{answers_fault, answers_ok, answers_sound}
use Rattle.cm_net.proofs.boundary.Boundary.read.Goals as goal

pub returns-in-Some-clause-fault : goal.returns-in-Some-clause-fault
returns-in-Some-clause-fault c = answers_fault c.args.text.now _ c.subnet.result c.in-Some.ensures c.subnet.ensures

pub returns-in-Some-clause-ok : goal.returns-in-Some-clause-ok
returns-in-Some-clause-ok c = answers_ok c.args.text.now _ c.subnet.result c.in-Some.ensures c.subnet.ensures

pub returns-in-Some-clause-sound : goal.returns-in-Some-clause-sound
returns-in-Some-clause-sound c = answers_sound _ c.subnet.result c.subnet.ensures

pub returns-in-Some-behind-clause-fault : goal.returns-in-Some-behind-clause-fault
returns-in-Some-behind-clause-fault c = answers_fault c.args.text.now _ c.prefix.result c.in-Some-behind.ensures c.prefix.ensures

pub returns-in-Some-behind-clause-ok : goal.returns-in-Some-behind-clause-ok
returns-in-Some-behind-clause-ok c = answers_ok c.args.text.now _ c.prefix.result c.in-Some-behind.ensures c.prefix.ensures

pub returns-in-Some-behind-clause-sound : goal.returns-in-Some-behind-clause-sound
returns-in-Some-behind-clause-sound c = answers_sound _ c.prefix.result c.prefix.ensures

pub returns-in-Some-behind-2-clause-fault : goal.returns-in-Some-behind-2-clause-fault
returns-in-Some-behind-2-clause-fault c = answers_fault c.args.text.now _ c.site.result c.in-Some-behind-2.ensures c.site.ensures

pub returns-in-Some-behind-2-clause-ok : goal.returns-in-Some-behind-2-clause-ok
returns-in-Some-behind-2-clause-ok c = answers_ok c.args.text.now _ c.site.result c.in-Some-behind-2.ensures c.site.ensures

pub returns-in-Some-behind-2-clause-sound : goal.returns-in-Some-behind-2-clause-sound
returns-in-Some-behind-2-clause-sound c = answers_sound _ c.site.result c.site.ensures

pub returns-in-Some-behind-3-clause-fault : goal.returns-in-Some-behind-3-clause-fault
returns-in-Some-behind-3-clause-fault c = answers_fault c.args.text.now _ c.range.result c.in-Some-behind-3.ensures c.range.ensures

pub returns-in-Some-behind-3-clause-ok : goal.returns-in-Some-behind-3-clause-ok
returns-in-Some-behind-3-clause-ok c = answers_ok c.args.text.now _ c.range.result c.in-Some-behind-3.ensures c.range.ensures

pub returns-in-Some-behind-3-clause-sound : goal.returns-in-Some-behind-3-clause-sound
returns-in-Some-behind-3-clause-sound c = answers_sound _ c.range.result c.range.ensures
