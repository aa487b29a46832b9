use Rattle.std.proofs.Common.{◌≡◌, List, ◌++◌, Some, None, ◌∙◌, ap, subst}
use Rattle.cm_site.specs.Opened.{bays_now, world_of}
use Rattle.cm_site.specs.Opening.{point_without_bay}
use Rattle.cm_site.specs.Worlds.{records_of}
use Rattle.cm_site.specs.declared.bay.Bay.{Bay}
use Rattle.cm_site.specs.declared.member.Member.{Member}
use Rattle.cm_site.proofs.UnopenedEnds.{ends_at_once, ends_stopped, ends_without_bay, is_open_site}
use Rattle.cm_site.proofs.site.Site.open.Goals as goal

pub returns-in-Err-clause-refused : goal.returns-in-Err-clause-refused
returns-in-Err-clause-refused g c =
    let d = g.D.Disk in
    ends_at_once d.reads d.may_leave d.moment d.left_since d.faults (λ disk t files within left. g.met.D.Disk.counts_now disk t files within left) (λ disk files left. g.met.D.Disk.only_now disk files left)
    c.args.bays.items c.requires.bays

pub returns-in-Err-with_capacity-clause-refused : goal.returns-in-Err-with_capacity-clause-refused
returns-in-Err-with_capacity-clause-refused g c =
    let d = g.D.Disk in
    ends_at_once d.reads d.may_leave d.moment d.left_since d.faults (λ disk t files within left. g.met.D.Disk.counts_now disk t files within left) (λ disk files left. g.met.D.Disk.only_now disk files left)
    c.args.bays.items c.requires.bays

pub returns-in-Err-open_all-clause-refused : goal.returns-in-Err-open_all-clause-refused
returns-in-Err-open_all-clause-refused g c =
    let d = g.D.Disk in
    ends_stopped d.reads d.may_leave d.moment d.left_since d.faults (λ disk t files within left. g.met.D.Disk.counts_now disk t files within left) (λ disk files left. g.met.D.Disk.only_now disk files left)
    c.args.bays.items c.in-Err-open_all.refused.0.items c.requires.bays c.in-Err-open_all.refused.1 c.in-Err-open_all.ensures.stopped

pub returns-in-Some-clause-refused : goal.returns-in-Some-clause-refused
returns-in-Some-clause-refused g c =
    let d = g.D.Disk in
    let opened = c.in-Ok-open_all.ensures in
    let members = c.in-Ok-open_all.opened.0.items in
    ends_without_bay d.reads d.may_leave d.moment d.left_since d.faults (λ disk t files within left. g.met.D.Disk.counts_now disk t files within left) (λ disk files left. g.met.D.Disk.only_now disk files left)
    c.args.bays.items c.close_all.result.items c.requires.bays members opened.each opened.start
    (c.close_all.ensures.items ∙ ap (λ (back : List (Bay g.row.D.Denot)). back ++ bays_now members) opened.back) c.in-Some.name
    (subst (λ (ms : List (Member g.row.D.Denot)). Some c.in-Some.name ≡ point_without_bay (records_of (world_of ms)) (world_of ms)) c.as_slice.ensures.value c.in-Some.ensures)

pub returns-in-None-clause-start : goal.returns-in-None-clause-start
returns-in-None-clause-start g c = c.in-Ok-open_all.ensures.start

pub returns-in-None-clause-opened : goal.returns-in-None-clause-opened
returns-in-None-clause-opened g c =
    let d = g.D.Disk in
    let opened = c.in-Ok-open_all.ensures in
    is_open_site d.reads d.may_leave d.moment d.left_since d.faults (λ disk t files within left. g.met.D.Disk.counts_now disk t files within left) (λ disk files left. g.met.D.Disk.only_now disk files left)
    c.args.bays.items c.requires.bays c.in-Ok-open_all.opened.0.items opened.start opened.each
    (subst (λ (ms : List (Member g.row.D.Denot)). None ≡ point_without_bay (records_of (world_of ms)) (world_of ms)) c.as_slice.ensures.value c.in-None.ensures)
