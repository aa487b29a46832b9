-- A reader that has ended gives a log at rest.
use Rattle.std.proofs.Common.{◌≡◌, ℕ, List, true, sym, subst, arith}
use Rattle.std.proofs.lemmas.Bool.Decides.{nat_tests}
use Rattle.cm_disk.specs.Disk.{File, Files}
use Rattle.cm_log.specs.declared.shelf.Shelf.{Shelf}
use Rattle.cm_log.specs.declared.state.Log.{Log}
use Rattle.cm_log.specs.declared.position.LogReader.{LogReader}
use Rattle.cm_log.specs.Settled.{shelf_of, reader_shelf, is_settled, Rests, IsAt, IsReading, EndsIn, IsSettled}

pub settled_when_done : (files : Files) (may_leave : List ℕ → File → Type 0) (reader : LogReader) (log : Log) → shelf_of log ≡ reader_shelf reader → is_settled log ≡ true
    → (IsAt files reader → EndsIn files log) → IsReading files may_leave reader → IsSettled files may_leave log
settled_when_done files may_leave reader log shelf idle ends r = record {
  ends = ends r.at;
  rests = subst (λ (s : Shelf). Rests s files may_leave) (sym shelf) r.rests;
  idle = grind (arith, nat_tests);
}
