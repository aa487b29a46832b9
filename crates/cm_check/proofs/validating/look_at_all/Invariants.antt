use Rattle.std.proofs.Common.{◌≡◌, take}
use Rattle.std.specs.Option.{ForSome}
use Rattle.cm_contents.specs.Seals.{version_manifest}
use Rattle.cm_log.specs.Frames.{OnlyReads}
use Rattle.cm_check.specs.Findings.{findings}
use Rattle.cm_check.specs.Looks.{Looks}
use Rattle.cm_check.proofs.validating.look_at_all.Given as goal

abbrev pub invariant-loop-entry : goal.invariant-loop-entry
invariant-loop-entry g l =
    let d = g.D.Disk in
    record {
      looks : Looks d.reads l.fn.library l.library;
      only : OnlyReads d.reads d.may_leave d.moment d.left_since d.faults l.fn.library.disk l.library.disk;
      found : ForSome (d.reads l.fn.library.disk) (λ files. l.list.items ≡ findings files (take l.entry (version_manifest l.package l.version l.fn.library.state)));
    }
