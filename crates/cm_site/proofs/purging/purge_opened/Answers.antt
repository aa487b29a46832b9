use Rattle.std.proofs.Common.{rules, ◌≡◌, Err, subst}
use Rattle.cm_state.specs.declared.fault.LibFault.{LibFault}
use Rattle.cm_site.proofs.PurgeEnds.{ends_purged, ends_failed}
use Rattle.cm_site.proofs.purging.purge_opened.Goals as goal

pub returns-in-Ok : goal.returns-in-Ok
returns-in-Ok g c = λ from to.
    let d = g.D.Disk in
    let library = c.args.library.now in
    let now = c.purge-purged.new.self in
    let done = c.purge-purged.ensures in
    let told_now = c.tells.ensures in
    ends_purged d.reads d.may_leave d.moment d.left_since d.faults library now c.requires.opened c.purge-purged.result done.call c.args.bay done.opens
    (record { files = told_now.files; stands = told_now.stands; opens = told_now.opens }) from to c.in-Ok.done c.in-Ok.is (search rules) (search rules)

pub returns : goal.returns
returns g c = λ from to.
    let d = g.D.Disk in
    let library = c.args.library.now in
    let now = c.purge-purged.new.self in
    let done = c.purge-purged.ensures in
    let told_now = c.tells.ensures in
    let failed = subst (λ (f : LibFault). c.purge-purged.result ≡ Err f) c.in-Disk.is c.in-Err.is in
    ends_failed d.reads d.may_leave d.moment d.left_since d.faults library now c.requires.opened c.purge-purged.result done.call c.args.bay done.opens
    (record { files = told_now.files; stands = told_now.stands; opens = told_now.opens }) from to (done.cause failed)
