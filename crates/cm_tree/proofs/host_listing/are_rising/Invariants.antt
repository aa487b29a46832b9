use Rattle.std.proofs.Common.{◌≡◌, true, take}
use Rattle.cm_tree.specs.Paths.{is_rising}
use Rattle.cm_tree.specs.HostFolders.{texts_of}
use Rattle.cm_tree.proofs.host_listing.are_rising.Given as goal

abbrev pub invariant-loop-i : goal.invariant-loop-i
invariant-loop-i l = is_rising (take l.i (texts_of l.paths)) ≡ true
