use Rattle.cm_filelib.specs.Places.{file_place}
use Rattle.cm_filelib.proofs.Adding.{empties_err}
use Rattle.cm_filelib.proofs.putting.start.Goals as goal

pub returns-in_err-cut-clause-work : goal.returns-in_err-cut-clause-work
returns-in_err-cut-clause-work g c =
    empties_err (g.D.Disk.reads c.args.disk.now) (g.D.Disk.reads c.write_at.new.self) (g.D.Disk.reads c.cut.new.self) c.file_at-place.result (file_place c.args.hash.0) c.from_residual-in_err-cut.result c.from_residual-in_err-cut.ensures.0 c.file_at-place.ensures
    c.in_ok-write_at.ensures.work.ok c.write_at.ensures.work.silent c.in_err-cut.ensures.work.err c.cut.ensures.work.silent
