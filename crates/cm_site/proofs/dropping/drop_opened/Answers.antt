use Rattle.std.proofs.Common.{◌≡◌, Err, sym, ◌∙◌, subst}
use Rattle.cm_state.specs.declared.fault.LibFault.{LibFault}
use Rattle.cm_state.specs.declared.fault.LibFault.TheVariants.{Disk as DiskFault}
use Rattle.cm_site.proofs.DropEnds.{ends_dropped, ends_failed, ends_missing}
use Rattle.cm_site.proofs.dropping.drop_opened.Goals as goal

pub returns-in-Ok : goal.returns-in-Ok
returns-in-Ok g c = λ from to.
    let d = g.D.Disk in
    let library = c.args.library.now in
    let now = c.drop_job-dropped.new.self in
    let done = c.drop_job-dropped.ensures in
    let told_now = c.tells.ensures in
    ends_dropped d.reads d.may_leave d.moment d.left_since d.faults library now c.requires.opened c.args.job c.drop_job-dropped.result done.call c.args.bay done.opens done.places
    (record { files = told_now.files; stands = told_now.stands; opens = told_now.opens }) from to c.in-Ok.field-0 c.in-Ok.is

pub returns-in-NoJob : goal.returns-in-NoJob
returns-in-NoJob g c = λ from to.
    let d = g.D.Disk in
    let library = c.args.library.now in
    let now = c.drop_job-dropped.new.self in
    let done = c.drop_job-dropped.ensures in
    let told_now = c.tells.ensures in
    let stays = c.in-Err.ensures.unchanged c.requires.opened.settled (λ (e : c.in-Err.fault ≡ DiskFault). cc (sym c.in-NoJob.is ∙ e)) in
    ends_missing d.reads d.may_leave d.moment d.left_since d.faults library now c.requires.opened c.args.job c.drop_job-dropped.result done.call c.args.bay done.opens done.places
    (record { files = told_now.files; stands = told_now.stands; opens = told_now.opens }) from to (subst (λ (f : LibFault). c.drop_job-dropped.result ≡ Err f) c.in-NoJob.is c.in-Err.is) stays (λ files left. g.met.D.Disk.only_now now.disk files left)

pub returns-in-Disk : goal.returns-in-Disk
returns-in-Disk g c = λ from to.
    let d = g.D.Disk in
    let library = c.args.library.now in
    let now = c.drop_job-dropped.new.self in
    let done = c.drop_job-dropped.ensures in
    let told_now = c.tells.ensures in
    let failed = subst (λ (f : LibFault). c.drop_job-dropped.result ≡ Err f) c.in-Disk.is c.in-Err.is in
    ends_failed d.reads d.may_leave d.moment d.left_since d.faults library now c.requires.opened c.args.job c.drop_job-dropped.result done.call c.args.bay done.opens done.places
    (record { files = told_now.files; stands = told_now.stands; opens = told_now.opens }) from to failed (λ files is. g.met.D.Disk.as_it_reads now.disk files is) (done.cause failed)
