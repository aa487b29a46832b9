use Rattle.std.proofs.Common.{◌≡◌, drop}
use Rattle.cm_library.specs.Started.{holder_of}
use Rattle.cm_library.proofs.started.holder_of.Given as goal

abbrev pub invariant-loop-file : goal.invariant-loop-file
invariant-loop-file l = holder_of l.job l.hash l.started ≡ holder_of l.job l.hash (drop l.file-index l.started)
