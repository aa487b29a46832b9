use Rattle.cm_tree.proofs.Scanned.{scans_told}
use Rattle.cm_tree.proofs.scanning.scan.Goals as goal

pub returns-clause-told : goal.returns-clause-told
returns-clause-told g c = scans_told 20000 4294967295 (g.F.Folder.shows c.args.folder.now) c.scan_within.result c.scan_within.ensures.manifest c.scan_within.ensures.fault
