use Rattle.std.proofs.Common.{◌≤◌}
use Rattle.std.specs.Option.{ForSome}
use Rattle.cm_disk.specs.Disk.{Files}
use Rattle.cm_log.specs.Settled.{IsReading}
use Rattle.store_tests.proofs.logs.records.Given as goal

abbrev pub invariant-loop-body : goal.invariant-loop-body
invariant-loop-body g l = record {
  reading : ForSome (g.D.Disk.reads l.disk) (λ (files : Files). IsReading files (g.D.Disk.may_leave l.disk) l.reader);
  few : l.count ≤ l.body-index;
}
