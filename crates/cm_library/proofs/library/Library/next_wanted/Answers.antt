use Rattle.std.proofs.Common.{subst}
use Rattle.std.specs.Prelude.{Option}
use Rattle.cm_base.specs.declared.hash.Hash.{Hash}
use Rattle.cm_pkglib.specs.declared.counts.Seal.{Seal}
use Rattle.cm_pkglib.specs.Counts.{seal_at}
use Rattle.cm_pkglib.proofs.Times.{seals_are}
use Rattle.cm_contents.specs.Seals.{job_manifest}
use Rattle.cm_contents.specs.Wants.{IsNextWanted}
use Rattle.cm_library.specs.Kept.{Seen}
use Rattle.cm_library.proofs.library.Library.next_wanted.Goals as goal

pub returns-clause-next : goal.returns-clause-next
returns-clause-next g c =
    let s = c.self.inside in
    subst (λ (v : Seen g.row.D.Denot). IsNextWanted (seal_at v.seals) (job_manifest c.args.job v.state) c.args.after c.next_wanted.result) c.self.view_is
    (subst (λ (f : Hash → Option Seal). IsNextWanted f (job_manifest c.args.job s.contents.state) c.args.after c.next_wanted.result) (seals_are s.counts) c.next_wanted.ensures)
