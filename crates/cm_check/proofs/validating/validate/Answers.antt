use Rattle.std.proofs.Common.{refl}
use Rattle.std.specs.Prelude.{find}
use Rattle.cm_disk.proofs.Moments.{started}
use Rattle.cm_disk.specs.Disk.{IsImage}
use Rattle.cm_pkglib.specs.Rows.{is_of}
use Rattle.cm_state.specs.State.{Held}
use Rattle.cm_library.specs.Reading.{no_version}
use Rattle.cm_check.proofs.Told.{version_there, version_lacks, not_lacking}
use Rattle.cm_check.proofs.validating.validate.Goals as goal

pub returns-in-None-clause-none : goal.returns-in-None-clause-none
returns-in-None-clause-none g c =
    ((λ is. version_lacks (find (λ (held : Held). is_of c.args.«package» c.args.version held.row) c.args.library.now.state.versions) c.in-None.ensures.value), λ there. refl)

pub returns-in-None-clause-moments : goal.returns-in-None-clause-moments
returns-in-None-clause-moments g c =
    let d = g.D.Disk in
    let disk = c.args.library.now.disk in
    started d.moment d.left_since disk (IsImage (d.may_leave disk)) (g.met.D.Disk.only_now disk)

pub look_at_all-requires-clause-version : goal.look_at_all-requires-clause-version
look_at_all-requires-clause-version g c =
    (version_there (find (λ (held : Held). is_of c.args.«package» c.args.version held.row) c.args.library.now.state.versions) c.in-Some.entries.now c.in-Some.ensures.value).0

pub returns-clause-none : goal.returns-clause-none
returns-clause-none g c =
    let there = version_there (find (λ (held : Held). is_of c.args.«package» c.args.version held.row) c.args.library.now.state.versions) c.in-Some.entries.now c.in-Some.ensures.value in
    ((λ is. absurd (c.look_at_all.ensures.there is)), λ lacks. absurd (not_lacking (no_version c.args.«package» c.args.version c.args.library.now.state) there.0 lacks))
