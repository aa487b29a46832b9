use Rattle.std.proofs.Common.{◌≡◌, None, List, ℕ, sym, ◌∙◌, ap, subst, rules}
use Rattle.std.specs.Option.{option_and_then}
use Rattle.cm_site.specs.Contents.{records_bay}
use Rattle.cm_site.specs.Found.{IsRecordsAt}
use Rattle.cm_site.specs.Machine.{step_topology}
use Rattle.cm_site.specs.Opened.{world_of, bays_from, bays_now}
use Rattle.cm_site.specs.Runs.{EndsOn, beside, fed}
use Rattle.cm_site.specs.Worlds.{kept_in, part_at}
use Rattle.cm_site.specs.declared.reply.Refusal.TheVariants.{NoBay}
use Rattle.cm_site.specs.declared.reply.Reply.{Reply}
use Rattle.cm_site.specs.declared.reply.Reply.TheVariants.{Refused}
use Rattle.cm_site.proofs.TopologyEnds.{ends_without, ends_source, ends_memory}
use Rattle.cm_site.proofs.topology.take_input.Goals as goal

pub returns-in-None : goal.returns-in-None
returns-in-None g c = λ from to.
    let d = g.D.Disk in
    let input = fed g.S.Source.left g.S.Source.faults c.args.input.now in
    subst (λ (reply : Reply). EndsOn d.reads d.may_leave d.moment d.left_since d.faults step_topology (beside from input) (beside to input) c.args.minute reply (bays_from c.args.members.now) (bays_now c.args.members.now))
    (sym (c.refused.ensures ∙ ap (λ (name : List ℕ). Refused (NoBay name)) c.records_name-in-None.ensures))
    (ends_without d.reads d.may_leave d.moment d.left_since d.faults c.args.members.now c.requires.opened (beside from input) (beside to input) c.args.minute
    (subst (λ (name : List ℕ). option_and_then kept_in (part_at name (world_of c.args.members.now)) ≡ None) c.records_name.ensures (c.in-None.ensures.none (search rules))))

pub take_text-requires-clause-there : goal.take_text-requires-clause-there
take_text-requires-clause-there g c = subst (λ (name : List ℕ). IsRecordsAt name c.in-Some.at c.args.members.now) c.records_name.ensures c.in-Some.ensures.found

pub take_text-requires-clause-within : goal.take_text-requires-clause-within
take_text-requires-clause-within g c = c.in-Some.ensures.within

pub returns-in-Ok : goal.returns-in-Ok
returns-in-Ok g c = λ from to.
    c.take_text.ensures (beside from (fed g.S.Source.left g.S.Source.faults c.args.input.now)) (beside to (fed g.S.Source.left g.S.Source.faults c.read_input.new.input))
    (λ left told. c.as_slice.ensures.value ∙ c.in-Ok.ensures.text left told)

pub returns-in-Err-Source : goal.returns-in-Err-Source
returns-in-Err-Source g c = λ from to.
    let d = g.D.Disk in
    ends_source d.reads d.may_leave d.moment d.left_since d.faults c.args.members.now c.requires.opened (beside from (fed g.S.Source.left g.S.Source.faults c.args.input.now))
    (beside to (fed g.S.Source.left g.S.Source.faults c.read_input.new.input)) c.args.minute c.in-Some.at
    (subst (λ (name : List ℕ). IsRecordsAt name c.in-Some.at c.args.members.now) c.records_name.ensures c.in-Some.ensures.found) (c.in-Err-Source.ensures.failed (search rules))

pub returns-in-Err-Memory : goal.returns-in-Err-Memory
returns-in-Err-Memory g c = λ from to.
    let d = g.D.Disk in
    ends_memory d.reads d.may_leave d.moment d.left_since d.faults c.args.members.now c.requires.opened (beside from (fed g.S.Source.left g.S.Source.faults c.args.input.now))
    (beside to (fed g.S.Source.left g.S.Source.faults c.read_input.new.input)) c.args.minute
