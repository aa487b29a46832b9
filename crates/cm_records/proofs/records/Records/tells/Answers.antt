use Rattle.std.proofs.Common.{subst}
use Rattle.std.specs.Option.{ForSome}
use Rattle.cm_disk.specs.Disk.{Files, IsImage}
use Rattle.cm_register.specs.Opens.{OpensOr}
use Rattle.cm_records.specs.Seen.{Seen}
use Rattle.cm_records.proofs.Keeps.{kept_opens}
use Rattle.cm_records.proofs.records.Records.tells.Goals as goal

pub returns-clause-opens : goal.returns-clause-opens
returns-clause-opens g c =
    let d = g.D.Disk in
    let s = c.self.inside in
    subst (λ (v : Seen g.row.D.Denot). ForSome (d.reads v.disk) (λ files. (image : Files) → IsImage (d.may_leave v.disk) image → OpensOr v.kept v.pending image)) c.self.view_is
    (kept_opens c.show_laws.ensures d.reads d.may_leave s.disk s.log s.kept s.pending c.self.invariant)
