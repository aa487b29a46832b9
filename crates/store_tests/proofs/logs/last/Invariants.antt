use Rattle.std.specs.Option.{ForSome}
use Rattle.cm_disk.specs.Disk.{Files}
use Rattle.cm_log.specs.Settled.{IsReading}
use Rattle.store_tests.proofs.logs.last.Given as goal

abbrev pub invariant-loop : goal.invariant-loop
invariant-loop g l = ForSome (g.D.Disk.reads l.disk) (λ (files : Files). IsReading files (g.D.Disk.may_leave l.disk) l.reader)
