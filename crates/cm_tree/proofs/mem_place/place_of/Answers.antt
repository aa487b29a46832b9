use Rattle.std.proofs.Common.{◌∙◌, sym, arith}
use Rattle.cm_tree.proofs.Kept.{behind_here, not_before_here}
use Rattle.cm_tree.proofs.mem_place.place_of.Goals as goal

pub returns-then-stands_before : goal.returns-then-stands_before
returns-then-stands_before c = record {
  within = c.loop-at.invariant.within;
  behind = behind_here c.args.files.now c.loop-at.at c.index-files-at.result c.args.path.now (omega arith) c.loop-at.invariant.within c.index-files-at.is (sym c.stands_before.ensures ∙ c.if-stands_before.true);
  next = c.loop-at.invariant.next;
}

pub loop-at-preserved : goal.loop-at-preserved
loop-at-preserved c = record {
  within = omega (arith, c.loop-at.invariant.within);
  next = not_before_here c.args.files.now c.loop-at.at c.index-files-at.result c.args.path.now (omega arith) c.loop-at.invariant.within c.index-files-at.is (sym c.stands_before.ensures ∙ c.if-stands_before.false);
}
