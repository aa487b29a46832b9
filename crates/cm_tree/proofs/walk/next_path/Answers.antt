use Rattle.cm_tree.proofs.Shows.{front_joins, front_fails, no_folder_fault}
use Rattle.cm_tree.proofs.walk.next_path.Goals as goal

pub returns-in-Ok-clause-exact : goal.returns-in-Ok-clause-exact
returns-in-Ok-clause-exact g c =
    front_joins (g.F.Folder.shows c.args.folder.now) c.args.taken.now c.args.n c.in-Ok-Some.raw c.as_bytes.result.now c.in-Ok.path
    (rw c.in-Ok-Some.field-0-is at c.in-Ok-Some.ensures.path) c.as_bytes.ensures.value c.in-Ok.ensures.form c.in-Ok.ensures.exact

pub returns-in-Err-joined-clause-exact : goal.returns-in-Err-joined-clause-exact
returns-in-Err-joined-clause-exact g c =
    front_fails (g.F.Folder.shows c.args.folder.now) c.args.taken.now c.args.n c.in-Ok-Some.raw c.as_bytes.result.now c.in-Err-joined.fault
    (rw c.in-Ok-Some.field-0-is at c.in-Ok-Some.ensures.path) c.as_bytes.ensures.value c.in-Err-joined.ensures.kind c.in-Err-joined.ensures.exact

pub returns-in-Err-joined-clause-cause : goal.returns-in-Err-joined-clause-cause
returns-in-Err-joined-clause-cause g c = λ is. absurd (no_folder_fault c.in-Err-joined.fault c.in-Err-joined.ensures.kind is)
