use Rattle.std.proofs.Common.{rules, List, ℕ, slice_index_or, slice_set, sym, ap, subst}
use Rattle.std.specs.Prelude.{length}
use Rattle.cm_topo.specs.Outcomes.{topology_in}
use Rattle.cm_site.specs.Contents.{records_bay}
use Rattle.cm_site.specs.Machine.{step_topology}
use Rattle.cm_site.specs.Opened.{world_of, bays_from, bays_now}
use Rattle.cm_site.specs.Runs.{EndsOn}
use Rattle.cm_site.specs.declared.member.Hold.TheVariants as hold
use Rattle.cm_site.specs.declared.member.Member.{Member}
use Rattle.cm_site.specs.declared.reply.Reply.{Reply}
use Rattle.cm_site.specs.declared.reply.Reply.TheVariants.{Disk}
use Rattle.cm_site.proofs.Allowed.{allowed_size, allowed_room, allowed_number}
use Rattle.cm_site.proofs.OneRecords.{kept_of}
use Rattle.cm_site.proofs.TopologyEnds.{kept_there, kept_of_site, not_library, opened_there, ends_memory, ends_refused, ends_taken, ends_disk}
use Rattle.cm_site.proofs.topology.take_text.Goals as goal

pub returns-in-Err-Refused : goal.returns-in-Err-Refused
returns-in-Err-Refused g c = λ from to input.
    let d = g.D.Disk in
    let kept = kept_of_site c.args.at c.args.members.now c.requires.there in
    subst (λ (reply : Reply). EndsOn d.reads d.may_leave d.moment d.left_since d.faults step_topology from to c.args.minute reply (bays_from c.args.members.now) (bays_now c.args.members.now)) (sym c.refused.ensures)
    (ends_refused d.reads d.may_leave d.moment d.left_since d.faults c.args.members.now c.requires.opened from to c.args.minute c.args.text.now input kept.0 kept.1 c.in-Err-Refused.refusal
    (c.in-Err-Refused.ensures.refused c.in-Err-Refused.refusal (search rules) kept.0 kept.1))

pub returns-in-Err-Memory : goal.returns-in-Err-Memory
returns-in-Err-Memory g c = λ from to input.
    let d = g.D.Disk in
    ends_memory d.reads d.may_leave d.moment d.left_since d.faults c.args.members.now c.requires.opened from to c.args.minute

pub replaced-requires-clause-settled : goal.replaced-requires-clause-settled
replaced-requires-clause-settled g c =
    let d = g.D.Disk in
    (opened_there d.reads d.may_leave d.moment d.left_since d.faults c.args.members.now c.requires.opened c.args.at c.in-Records.records c.index-members-at.result c.requires.there c.in-Records.is).settled

pub replaced-requires-clause-said : goal.replaced-requires-clause-said
replaced-requires-clause-said g c = c.in-Ok.ensures.said

pub replaced-requires-clause-fits : goal.replaced-requires-clause-fits
replaced-requires-clause-fits g c =
    let there = kept_there c.args.at c.args.members.now c.in-Records.records c.index-members-at.result c.requires.there c.in-Records.is in
    allowed_size (length c.args.text.now) (topology_in c.args.text.now) (kept_of c.in-Records.records) (world_of c.args.members.now) (c.in-Ok.ensures.allowed (kept_of c.in-Records.records) there)

pub replaced-requires-clause-number : goal.replaced-requires-clause-number
replaced-requires-clause-number g c =
    let there = kept_there c.args.at c.args.members.now c.in-Records.records c.index-members-at.result c.requires.there c.in-Records.is in
    allowed_number (length c.args.text.now) (topology_in c.args.text.now) (kept_of c.in-Records.records) (world_of c.args.members.now) (c.in-Ok.ensures.allowed (kept_of c.in-Records.records) there)

pub replaced-requires-clause-room : goal.replaced-requires-clause-room
replaced-requires-clause-room g c =
    let there = kept_there c.args.at c.args.members.now c.in-Records.records c.index-members-at.result c.requires.there c.in-Records.is in
    allowed_room (length c.args.text.now) (topology_in c.args.text.now) (kept_of c.in-Records.records) (world_of c.args.members.now) (c.in-Ok.ensures.allowed (kept_of c.in-Records.records) there)

pub unreachable-requires : goal.unreachable-requires
unreachable-requires g c = not_library records_bay c.args.at c.args.members.now c.index-members-at.result c.in-Library.field-0 c.requires.there c.in-Library.is

pub returns-in-Ok-replaced : goal.returns-in-Ok-replaced
returns-in-Ok-replaced g c = λ from to input.
    let d = g.D.Disk in
    let members = c.args.members.now in
    let was = c.in-Records.records in
    let member = slice_index_or members c.args.at c.index-members-at.result in
    let there = kept_there c.args.at members was c.index-members-at.result c.requires.there c.in-Records.is in
    let news = slice_set members c.args.at (record { name = member.name; hold = hold.Records c.replaced.new.records }) in
    subst (λ (reply : Reply). EndsOn d.reads d.may_leave d.moment d.left_since d.faults step_topology from to c.args.minute reply (bays_from members) (bays_now news)) (sym c.in-Ok-replaced.ensures.replies)
    (ends_taken d.reads d.may_leave d.moment d.left_since d.faults members c.requires.opened from to c.args.minute c.args.text.now input c.args.at was c.replaced.new.records member c.requires.there
    (ap (slice_index_or members c.args.at) c.index-members-at.is) c.in-Records.is c.in-Ok.topology c.in-Ok.ensures.said (c.in-Ok.ensures.allowed (kept_of was) there)
    c.replaced.ensures.start c.replaced.ensures.places c.replaced.ensures.any_moment c.replaced.ensures.opens c.in-Ok-replaced.ensures.done)

pub returns-in-Err : goal.returns-in-Err
returns-in-Err g c = λ from to input.
    let d = g.D.Disk in
    let members = c.args.members.now in
    let was = c.in-Records.records in
    let member = slice_index_or members c.args.at c.index-members-at.result in
    let there = kept_there c.args.at members was c.index-members-at.result c.requires.there c.in-Records.is in
    let news = slice_set members c.args.at (record { name = member.name; hold = hold.Records c.replaced.new.records }) in
    subst (λ (name : List ℕ). EndsOn d.reads d.may_leave d.moment d.left_since d.faults step_topology from to c.args.minute (Disk name) (bays_from members) (bays_now news)) (sym c.records_name.ensures)
    (ends_disk d.reads d.may_leave d.moment d.left_since d.faults members c.requires.opened from to c.args.minute c.args.text.now input c.args.at was c.replaced.new.records member c.requires.there
    (ap (slice_index_or members c.args.at) c.index-members-at.is) c.in-Records.is c.in-Ok.topology c.in-Ok.ensures.said (c.in-Ok.ensures.allowed (kept_of was) there)
    c.replaced.ensures.start c.replaced.ensures.places c.replaced.ensures.any_moment c.replaced.ensures.opens c.in-Err.ensures.failed c.replaced.ensures.either c.in-Err.ensures.cause.failed)
