use Rattle.std.proofs.Common.{◌≡◌, Ok}
use Rattle.std.specs.Option.{ForSome}
use Rattle.cm_log.specs.Frames.{OnlyReads}
use Rattle.cm_log.specs.Settled.{reader_shelf, reader_place, rest_of, IsReading}
use Rattle.cm_register.specs.Look.{register_from}
use Rattle.cm_register.specs.Records.{no_records}
use Rattle.cm_records.specs.Opening.{AreTextsSureOr}
use Rattle.cm_records.proofs.reading.read_kept.Given as goal

abbrev pub invariant-loop-record : goal.invariant-loop-record
invariant-loop-record g l = record {
  reading : ForSome (g.D.Disk.reads l.disk) (λ files. IsReading files (g.D.Disk.may_leave l.disk) l.reader);
  goes_on : ForSome (g.D.Disk.reads l.fn.disk) (λ files. register_from files (reader_place l.fn.reader) (Ok no_records) (rest_of files l.fn.reader) ≡ register_from files (reader_place l.fn.reader) (Ok l.kept) (rest_of files l.reader));
  texts : ForSome (g.D.Disk.reads l.fn.disk) (λ files. AreTextsSureOr files (g.D.Disk.may_leave l.fn.disk) (rest_of files l.fn.reader) → AreTextsSureOr files (g.D.Disk.may_leave l.disk) (rest_of files l.reader));
  shelf : reader_shelf l.reader ≡ reader_shelf l.fn.reader;
  place : reader_place l.reader ≡ reader_place l.fn.reader;
  only : OnlyReads g.D.Disk.reads g.D.Disk.may_leave g.D.Disk.moment g.D.Disk.left_since g.D.Disk.faults l.fn.disk l.disk;
}
