use Rattle.std.proofs.Common.{◌≡◌, true, false, sym, subst}
use Rattle.cm_site.specs.Unopened.{IsFaultOf}
use Rattle.cm_site.specs.declared.fault.SiteFault.{SiteFault}
use Rattle.cm_site.proofs.JustOpened.{just_opened, records_opened}
use Rattle.cm_site.proofs.NotOpened.{compared, library_fault, records_fault}
use Rattle.cm_site.proofs.opening.open_bay.Goals as goal

pub returns-in-Ok-clause-opened : goal.returns-in-Ok-clause-opened
returns-in-Ok-clause-opened g c =
    let d = g.D.Disk in
    let found = c.in-Ok.ensures in (
      compared c.as_bytes.result.now c.args.bay.name c.as_slice.result.now c.eq.result true c.as_bytes.ensures c.as_slice.ensures c.eq.ensures c.if-eq.true,
      records_opened d.reads d.may_leave d.moment d.left_since d.faults c.args.bay.disk c.in-Ok.records found.found found.any_moment found.later found.whole,
    )

pub returns-in-Err-clause-fault : goal.returns-in-Err-clause-fault
returns-in-Err-clause-fault g c =
    let d = g.D.Disk in
    let refused = c.in-Err.ensures in
    subst (λ (f : SiteFault). IsFaultOf d.reads d.faults c.args.bay.name c.args.bay.disk c.in-Err.disk f) (sym c.fault_of.ensures)
    (records_fault d.reads d.faults c.args.bay.name c.args.bay.disk c.in-Err.disk
    (compared c.as_bytes.result.now c.args.bay.name c.as_slice.result.now c.eq.result true c.as_bytes.ensures c.as_slice.ensures c.eq.ensures c.if-eq.true) c.in-Err.fault refused.missing refused.unreadable refused.cause)

pub returns-in-Ok-open-clause-opened : goal.returns-in-Ok-open-clause-opened
returns-in-Ok-open-clause-opened g c =
    let d = g.D.Disk in
    let found = c.in-Ok-open.ensures in (
      compared c.as_bytes.result.now c.args.bay.name c.as_slice.result.now c.eq.result false c.as_bytes.ensures c.as_slice.ensures c.eq.ensures c.if-eq.false,
      just_opened d.reads d.may_leave d.moment d.left_since d.faults c.args.bay.disk c.in-Ok-open.library found.found found.any_moment found.later found.whole,
    )

pub returns-in-Err-open-clause-fault : goal.returns-in-Err-open-clause-fault
returns-in-Err-open-clause-fault g c =
    let d = g.D.Disk in
    let refused = c.in-Err-open.ensures in
    subst (λ (f : SiteFault). IsFaultOf d.reads d.faults c.args.bay.name c.args.bay.disk c.in-Err-open.disk f) (sym c.fault_of-in-Err-open.ensures)
    (library_fault d.reads d.faults c.args.bay.name c.args.bay.disk c.in-Err-open.disk
    (compared c.as_bytes.result.now c.args.bay.name c.as_slice.result.now c.eq.result false c.as_bytes.ensures c.as_slice.ensures c.eq.ensures c.if-eq.false) c.in-Err-open.fault refused.missing refused.unreadable refused.cause)
