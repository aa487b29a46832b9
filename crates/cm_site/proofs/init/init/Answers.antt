use Rattle.std.proofs.Common.{◌≡◌, ℕ, List, None, Some, subst}
use Rattle.std.specs.Prelude.{find, not}
use Rattle.cm_groups.specs.Names.{is_among}
use Rattle.cm_site.specs.Bays.{names_of}
use Rattle.cm_site.specs.declared.bay.Bay.{Bay}
use Rattle.cm_site.proofs.InitEnds.{init_refused, init_steps, init_stops}
use Rattle.cm_site.proofs.init.init.Goals as goal

pub returns-in-Some-clause-ends : goal.returns-in-Some-clause-ends
returns-in-Some-clause-ends g c = λ from to minute.
    let d = g.D.Disk in
    let first = subst (λ (bays : List (Bay g.row.D.Denot)). Some c.in-Some.name ≡ find (λ (name : List ℕ). not (is_among (names_of bays) name)) c.args.names.now) c.as_slice.ensures.value c.in-Some.ensures in
    init_refused d.reads d.may_leave d.moment d.left_since c.args.names.now from to minute g.met.D.Disk.only_now g.met.D.Disk.counts_now c.args.bays.now.items c.in-Some.name c.requires.distinct first

pub returns-in-Ok-clause-ends : goal.returns-in-Ok-clause-ends
returns-in-Ok-clause-ends g c = λ from to minute.
    let d = g.D.Disk in
    let none = subst (λ (bays : List (Bay g.row.D.Denot)). None ≡ find (λ (name : List ℕ). not (is_among (names_of bays) name)) c.args.names.now) c.as_slice.ensures.value c.in_default.ensures in
    init_steps d.reads d.may_leave d.moment d.left_since c.args.names.now from to minute c.args.bays.now.items c.make_all.new.bays.items c.requires.distinct c.in-Ok.count none c.in-Ok.ensures.made

pub returns-in-Err-clause-ends : goal.returns-in-Err-clause-ends
returns-in-Err-clause-ends g c = λ from to minute.
    let d = g.D.Disk in
    let none = subst (λ (bays : List (Bay g.row.D.Denot)). None ≡ find (λ (name : List ℕ). not (is_among (names_of bays) name)) c.args.names.now) c.as_slice.ensures.value c.in_default.ensures in
    init_stops d.reads d.may_leave d.moment d.left_since c.args.names.now from to minute g.met.D.Disk.only_now d.faults c.in-Err.bay c.args.bays.now.items c.requires.distinct none c.make_all.new.bays.items c.in-Err.ensures.failed
