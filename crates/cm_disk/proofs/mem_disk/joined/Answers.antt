use Rattle.std.proofs.Common.{◌≡◌, ◌∙◌, ap}
use Rattle.std.specs.Prelude.{Bool, if◌then◌else◌}
use Rattle.std.specs.Str.{bytes_eq}
use Rattle.cm_disk.specs.Images.{Stand}
use Rattle.cm_disk.specs.Stands.{worked}
use Rattle.cm_disk.specs.Slots.{stand_of, stand_of_option, stand_in}
use Rattle.cm_disk.proofs.Joined.{stand_put, stand_twice, stand_same}
use Rattle.cm_disk.proofs.mem_disk.joined.Goals as goal

pub returns-clause-here : goal.returns-clause-here
returns-clause-here c t q =
    let away = stand_put c.args.slots.now c.insert.new.self c.args.call.place c.absent_slot.result c.in-Ok.ensures.updates.0 in
    let was : stand_of c.kept_slot-slot.result ≡ stand_in c.args.slots.now c.args.call.place = c.kept_slot-slot.ensures ∙ ap stand_of_option c.in-Ok.ensures.old in
    let made : stand_of c.work_on-is_done.new.slot ≡ worked c.args.call.work c.args.call.done (stand_in c.args.slots.now c.args.call.place) =
    c.work_on-is_done.ensures
    ∙ ap (λ (b : Bool). if b then worked c.args.call.work c.args.call.done (stand_of c.kept_slot-slot.result) else stand_of c.kept_slot-slot.result) c.if-not-is_done.false
    ∙ ap (worked c.args.call.work c.args.call.done) was
    in
    stand_twice c.args.slots.now c.insert.new.self c.put_back.new.slots c.args.call.place c.absent_slot.result c.work_on-is_done.new.slot away c.put_back.ensures q
    ∙ ap (λ (s : Stand). if bytes_eq c.args.call.place q then s else stand_in c.args.slots.now q) made

pub returns-then-not-is_done-clause-same : goal.returns-then-not-is_done-clause-same
returns-then-not-is_done-clause-same c t q =
    let away = stand_put c.args.slots.now c.insert.new.self c.args.call.place c.absent_slot.result c.in-Ok.ensures.updates.0 in
    let was : stand_of c.kept_slot-slot.result ≡ stand_in c.args.slots.now c.args.call.place = c.kept_slot-slot.ensures ∙ ap stand_of_option c.in-Ok.ensures.old in
    let kept : stand_of c.work_on-is_done.new.slot ≡ stand_in c.args.slots.now c.args.call.place =
    c.work_on-is_done.ensures
    ∙ ap (λ (b : Bool). if b then worked c.args.call.work c.args.call.done (stand_of c.kept_slot-slot.result) else stand_of c.kept_slot-slot.result) c.if-not-is_done.true
    ∙ was
    in
    stand_same c.args.slots.now c.put_back.new.slots c.args.call.place c.work_on-is_done.new.slot kept
    (stand_twice c.args.slots.now c.insert.new.self c.put_back.new.slots c.args.call.place c.absent_slot.result c.work_on-is_done.new.slot away c.put_back.ensures) q
