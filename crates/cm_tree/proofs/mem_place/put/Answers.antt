use Rattle.std.proofs.Common.{List, ap, ◌∙◌}
use Rattle.cm_tree.specs.declared.mem_file.MemFile.{MemFile}
use Rattle.cm_tree.specs.Paths.{is_rising}
use Rattle.cm_tree.specs.MemFolders.{kept_paths}
use Rattle.cm_tree.proofs.Kept.{put_rising}
use Rattle.cm_tree.proofs.mem_place.put.Goals as goal

pub returns-clause-rising : goal.returns-clause-rising
returns-clause-rising c =
    ap (λ (fs : List MemFile). is_rising (kept_paths fs)) c.in_ok-insert.ensures.items
    ∙ put_rising c.args.files.now.items c.place_of-at.result c.args.file c.requires.rising c.requires.fresh (rw (c.deref.ensures.value, c.deref-2.ensures.value) at c.place_of-at.ensures)
