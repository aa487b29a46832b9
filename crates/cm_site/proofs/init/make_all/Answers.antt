use Rattle.std.proofs.Common.{◌≡◌, ◌+◌, ◌<◌, ℕ, Bool, length, length-set, sym, ◌∙◌, ap, subst, arith}
use Rattle.std.specs.Prelude.{cond, take, slice_set}
use Rattle.cm_site.specs.Making.{HasMadeAll}
use Rattle.cm_site.proofs.MakingAll.{all_more, rest_more, stops_at}
use Rattle.cm_site.proofs.init.make_all.Goals as goal
use Rattle.cm_site.proofs.init.make_all.Goals.{then-made, else-made}

pub returns-in-Err-clause-failed : goal.returns-in-Err-clause-failed
returns-in-Err-clause-failed g c =
    let d = g.D.Disk in
    let so_far = c.loop-at.invariant in
    let here : c.loop-at.at < length c.loop-at.bays.items = omega arith in
    stops_at d.reads d.may_leave d.moment d.left_since c.args.bays.now.items c.loop-at.bays.items c.loop-at.at c.index_mut.result.now c.make_meant.new.bay here so_far.size so_far.rest c.index_mut.ensures.value
    d.faults c.args.names.now c.loop-at.count c.in-Err.bay so_far.made c.in-Err.ensures.name c.in-Err.ensures.failed

pub loop-at-preserved : goal.loop-at-preserved
loop-at-preserved g c =
    let d = g.D.Disk in
    let so_far = c.loop-at.invariant in
    let olds = c.args.bays.now.items in
    let items = c.loop-at.bays.items in
    let here : c.loop-at.at < length items = omega arith in
    let counted : c.if-made.count ≡ cond c.in-Ok.made (c.loop-at.count + 1) c.loop-at.count = elim c.if-made.branch [
      | then-made w ↦ w.count-is ∙ ap (λ (b : Bool). cond b (c.loop-at.count + 1) c.loop-at.count) (sym w.if-made.true)
      | else-made w ↦ w.count-is ∙ ap (λ (b : Bool). cond b (c.loop-at.count + 1) c.loop-at.count) (sym w.if-made.false)
    ] in
    record {
      few = elim c.if-made.branch [ then-made w ↦ omega (arith, w.count-is, so_far.few) | else-made w ↦ omega (arith, w.count-is, so_far.few) ];
      within = omega arith;
      size = length-set items c.loop-at.at c.make_meant.new.bay ∙ so_far.size;
      end = so_far.end;
      rest = rest_more d.reads d.may_leave d.moment d.left_since olds items c.loop-at.at c.index_mut.result.now c.make_meant.new.bay here so_far.size so_far.rest c.index_mut.ensures.value;
      made = subst (λ (n : ℕ). HasMadeAll d.reads d.may_leave d.moment d.left_since c.args.names.now n (take (c.loop-at.at + 1) olds) (take (c.loop-at.at + 1) (slice_set items c.loop-at.at c.make_meant.new.bay))) (sym counted)
          (all_more d.reads d.may_leave d.moment d.left_since olds items c.loop-at.at c.index_mut.result.now c.make_meant.new.bay here so_far.size so_far.rest c.index_mut.ensures.value
          c.args.names.now c.loop-at.count c.in-Ok.made so_far.made c.in-Ok.ensures.name c.in-Ok.ensures.made);
    }
