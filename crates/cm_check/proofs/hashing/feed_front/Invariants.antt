use Rattle.std.proofs.Common.{◌≡◌, ◌-◌, ◌≤◌, length, take}
use Rattle.cm_base.specs.Fed.{WasFed, count_of}
use Rattle.cm_contents.specs.Seals.{version_manifest}
use Rattle.cm_disk.specs.Disk.{bytes_of}
use Rattle.cm_log.specs.Frames.{OnlyReads}
use Rattle.cm_check.specs.Looks.{Looks, OfFile}
use Rattle.cm_check.proofs.hashing.feed_front.Given as goal

abbrev pub invariant-loop-offset : goal.invariant-loop-offset
invariant-loop-offset g l =
    let d = g.D.Disk in
    record {
      looks : Looks d.reads l.fn.library l.library;
      only : OnlyReads d.reads d.may_leave d.moment d.left_since d.faults l.fn.library.disk l.library.disk;
      within : l.offset ≤ l.size;
      count : count_of l.hasher ≡ l.offset;
      fed : OfFile (d.reads l.fn.library.disk) (version_manifest l.at.package l.at.version l.fn.library.state) l.at.entry (λ file. l.size ≤ length (bytes_of file) → WasFed l.hasher (take l.offset (bytes_of file)));
    }

abbrev pub decreases-loop-offset : goal.decreases-loop-offset
decreases-loop-offset g l = l.size - l.offset
