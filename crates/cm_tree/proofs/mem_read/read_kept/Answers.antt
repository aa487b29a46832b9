use Rattle.std.proofs.Common.{arith}
use Rattle.cm_tree.proofs.Kept.{paths_set, turns_set, get_there}
use Rattle.cm_tree.proofs.mem_read.read_kept.Goals as goal

pub returns-clause-paths : goal.returns-clause-paths
returns-clause-paths c = paths_set c.args.files.now c.args.n _ c.read_file.new.file (get_there c.args.files.now c.args.n c.index-files-at.result (omega arith)) c.read_file.ensures.path

pub returns-clause-after : goal.returns-clause-after
returns-clause-after c =
    turns_set c.args.files.now c.args.n _ _ c.read_file.new.file (get_there c.args.files.now c.args.n c.index-files-at.result (omega arith)) c.read_file.ensures.path c.read_file.ensures.after c.read_file.ensures.later
