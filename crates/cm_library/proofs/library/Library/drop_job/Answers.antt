use Rattle.std.proofs.Common.{◌≡◌, subst}
use Rattle.std.specs.Prelude.{None}
use Rattle.std.specs.Option.{ForSome}
use Rattle.cm_pkglib.specs.declared.change.Change.{Change}
use Rattle.cm_pkglib.specs.Counts.{seal_at}
use Rattle.cm_state.specs.Changes.{if_allowed}
use Rattle.cm_state.specs.Faults.{RefusesOr}
use Rattle.cm_state.specs.Look.{Opened, look}
use Rattle.cm_state.specs.Opens.{OpensOr, StandsOr, EachOpensSome}
use Rattle.cm_state.specs.State.{State}
use Rattle.cm_contents.specs.Contents.{change_in}
use Rattle.cm_contents.specs.Seals.{end_fault}
use Rattle.cm_library.specs.Calls.{AnyMoment, EndsOrStays}
use Rattle.cm_library.proofs.library.Library.drop_job.Goals as goal

pub returns-clause-call : goal.returns-clause-call
returns-clause-call g c =
    subst (λ (r : Change). EndsOrStays g.D.Disk.reads (λ _. change_in None r) (λ mid answer. RefusesOr (end_fault (seal_at mid.seals) mid.state (change_in None r)) answer) c.args.self.now c.end_by.new.self c.end_by.result) c.dropped.ensures.change c.end_by.ensures.call

pub returns-clause-any_moment : goal.returns-clause-any_moment
returns-clause-any_moment g c =
    let d = g.D.Disk in
    let was = c.args.self.now in
    subst (λ (r : Change). ForSome (d.reads was.disk) (λ files. (found : State) → look files ≡ Opened found → AnyMoment d.moment d.left_since StandsOr (if_allowed (change_in None r)) was.disk c.end_by.new.self.disk was.state was.pending found)) c.dropped.ensures.change c.end_by.ensures.any_moment

pub returns-clause-opens : goal.returns-clause-opens
returns-clause-opens g c =
    let d = g.D.Disk in
    let was = c.args.self.now in
    subst (λ (r : Change). EachOpensSome (d.may_leave was.start) → ForSome (d.reads was.disk) (λ files. (found : State) → look files ≡ Opened found → AnyMoment d.moment d.left_since OpensOr (if_allowed (change_in None r)) was.disk c.end_by.new.self.disk was.state was.pending found)) c.dropped.ensures.change c.end_by.ensures.opens
