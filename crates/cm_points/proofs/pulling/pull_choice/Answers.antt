-- One source more was looked at.
use Rattle.std.proofs.Common.{◌<◌, length, get_or, false, refl, arith}
use Rattle.std.proofs.lemmas.Option.{slice_get_read, slice_get-get_or}
use Rattle.cm_points.proofs.Choosing.{IsBest-chosen}
use Rattle.cm_points.proofs.pulling.pull_choice.Goals as goal

pub loop-number-preserved : goal.loop-number-preserved
loop-number-preserved c =
    let small : c.loop-number.number < length c.args.usable.now = omega arith in
    rw c.chosen-choice.ensures
    (IsBest-chosen c.loop-number.number c.args.sources.now c.args.usable.now c.loop-number.choice c.index-sources-number.result (get_or c.args.usable.now c.loop-number.number false)
    (slice_get_read c.args.sources.now (length c.args.sources.now) c.loop-number.number c.index-sources-number.result refl (omega arith) c.index-sources-number.is)
    (slice_get-get_or c.args.usable.now c.loop-number.number false small)
    c.loop-number.invariant)
