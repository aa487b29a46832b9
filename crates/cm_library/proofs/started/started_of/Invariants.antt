use Rattle.std.proofs.Common.{◌≡◌, drop}
use Rattle.cm_library.specs.Started.{started_by}
use Rattle.cm_library.proofs.started.started_of.Given as goal

abbrev pub invariant-loop-file : goal.invariant-loop-file
invariant-loop-file l = started_by l.job l.started ≡ started_by l.job (drop l.file-index l.started)
