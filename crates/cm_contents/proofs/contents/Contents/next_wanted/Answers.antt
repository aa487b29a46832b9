use Rattle.std.proofs.Common.{subst}
use Rattle.std.specs.Prelude.{option_map}
use Rattle.cm_pkglib.specs.Counts.{sealed_of}
use Rattle.cm_contents.specs.Seals.{job_manifest}
use Rattle.cm_contents.specs.Wants.{HasHashes}
use Rattle.cm_contents.proofs.Wanted.{next-none}
use Rattle.cm_contents.proofs.contents.Contents.next_wanted.Goals as goal

pub returns-in-Some : goal.returns-in-Some
returns-in-Some c =
    let manifest = job_manifest c.args.job c.args.self.now.state in
    c.next.ensures manifest (subst (λ o. HasHashes (option_map (λ wants. wants.now) o) manifest) c.in-Some.is c.job_wants.ensures)

pub returns-in-None : goal.returns-in-None
returns-in-None c =
    let manifest = job_manifest c.args.job c.args.self.now.state in
    next-none (sealed_of c.args.counts.now) manifest c.args.after (subst (λ o. HasHashes (option_map (λ wants. wants.now) o) manifest) c.in-None.is c.job_wants.ensures)
