use Rattle.std.proofs.Common.{◌∙◌, ap, sym, subst}
use Rattle.std.specs.Prelude.{None, OnOk, Result}
use Rattle.std.specs.Option.{ForSome}
use Rattle.cm_disk.specs.Disk.{Only}
use Rattle.cm_log.proofs.Frames.{alone_fewer}
use Rattle.cm_state.specs.declared.fault.LibFault.{LibFault}
use Rattle.cm_state.specs.Purged.{is_stored_place, is_loose}
use Rattle.cm_state.proofs.Lists.{and_left}
use Rattle.cm_state.proofs.Purges.{not_loose}
use Rattle.cm_library.specs.Kept.{Seen}
use Rattle.cm_library.specs.Purging.{IsFirm}
use Rattle.cm_library.proofs.Loose.{library_still}
use Rattle.cm_library.proofs.library.Library.erase_loose.Goals as goal
use Rattle.cm_library.proofs.library.Library.erase_loose.Goals.{in-Ok, in-Err}

pub returns-clause-durable : goal.returns-clause-durable
returns-clause-durable g c =
    let d = g.D.Disk in
    let s = c.self.inside in
    let Gone : Result (Unit {0}) LibFault → Type 0 = λ r. OnOk r (ForSome (d.reads s.disk) (λ _. Only None (d.may_leave c.erase_at.new.disk c.args.place.now))) in
    subst (λ (v : Seen g.row.D.Denot). OnOk c.match-erase_at.result (ForSome (d.reads v.disk) (λ _. Only None (d.may_leave c.erase_at.new.disk c.args.place.now)))) c.self.view_is
    (elim c.match-erase_at.branch [ in-Ok w ↦ subst Gone (sym w.result-is) w.in-Ok.ensures.durable | in-Err w ↦ subst Gone (sym w.result-is) tt ])

pub erase_at-requires : goal.erase_at-requires
erase_at-requires g c = and_left (is_stored_place c.args.place.now) _ c.requires.loose

pub invariant_of-self : goal.invariant_of-self
invariant_of-self g c =
    let d = g.D.Disk in
    let s = c.self.inside in
    let place = c.args.place.now in
    let loose = ap (λ (v : Seen g.row.D.Denot). is_loose v.state place) c.self.view_is ∙ c.requires.loose in
    library_still d.reads d.may_leave d.moment d.left_since d.faults g.met.D.Disk.as_it_reads s.start.value s.disk s.log s.contents s.counts s.pending s.started.items _ c.args.self.now c.self.view_is c.requires.settled c.self.invariant
    c.erase_at.new.disk (alone_fewer (IsFirm s.contents.state) (λ q firm. not_loose s.contents.state place q loose firm) c.erase_at.ensures.alone)
