use Rattle.std.proofs.Common.{◌∙◌, sym, None}
use Rattle.std.proofs.lemmas.List.{append-nil}
use Rattle.cm_groups.specs.Groups.{boundary_of}
use Rattle.cm_groups.proofs.Places.{found_more}
use Rattle.cm_groups.proofs.making.boundaries_of.Goals as goal
use Rattle.cm_groups.proofs.making.boundaries_of.Goals.{in-Some+in_ok-push, in_default}

pub loop-name-preserved : goal.loop-name-preserved
loop-name-preserved c =
    elim c.match-boundary_of.branch [
      | in-Some+in_ok-push w ↦ rw w.found-is (
          w.in_ok-push.ensures.items
          ∙ found_more (boundary_of c.args.rows.now) c.args.wanted.now c.loop-name.name-index c.name-item.result c.loop-name.found.items _ c.loop-name-test.true c.name-item.is c.loop-name.invariant w.in-Some.ensures)
      | in_default w ↦ rw w.found-is (
          sym (append-nil c.loop-name.found.items)
          ∙ found_more (boundary_of c.args.rows.now) c.args.wanted.now c.loop-name.name-index c.name-item.result c.loop-name.found.items None c.loop-name-test.true c.name-item.is c.loop-name.invariant w.in_default.ensures)
    ]
