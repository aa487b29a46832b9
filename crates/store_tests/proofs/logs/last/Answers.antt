use Rattle.cm_log.proofs.Done.{settled_when_done}
use Rattle.store_tests.proofs.logs.last.Goals as goal

pub returns-in-Ok-None-clause-settled : goal.returns-in-Ok-None-clause-settled
returns-in-Ok-None-clause-settled g c x told = settled_when_done x (g.D.Disk.may_leave c.next.new.disk) c.next.new.self c.done.result c.done.ensures.shelf c.done.ensures.idle (c.done.ensures.ends x) (c.next.ensures.reading x told)
