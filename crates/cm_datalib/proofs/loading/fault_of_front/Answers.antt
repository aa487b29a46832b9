use Rattle.std.proofs.Common.{arith}
use Rattle.cm_datalib.proofs.Loaded.{longer-count, longer-refused}
use Rattle.cm_datalib.proofs.loading.fault_of_front.Goals as goal

pub returns-then-count-front-clause-answer : goal.returns-then-count-front-clause-answer
returns-then-count-front-clause-answer c file is reads =
    absurd (omega (arith, longer-count c.args.size c.args.hash c.args.front.now c.args.count (omega arith) file is reads))

pub returns-clause-answer : goal.returns-clause-answer
returns-clause-answer c file is reads =
    longer-refused c.args.size c.args.hash c.args.front.now c.args.count (omega arith) file is reads c.fault_of_longer.result c.fault_of_longer.ensures.refused
