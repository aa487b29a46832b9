use Rattle.std.proofs.Common.{sym, length-take-le, arith}
use Rattle.std.proofs.lemmas.List.{take_all}
use Rattle.cm_tree.proofs.raw_path.front.Goals as goal

pub slice_bounds-result-end : goal.slice_bounds-result-end
slice_bounds-result-end c = sym (length-take-le 241 c.args.path.now (omega arith))

pub returns-else-path-gt241-clause-value : goal.returns-else-path-gt241-clause-value
returns-else-path-gt241-clause-value c = sym (take_all 241 c.args.path.now (omega arith))

pub returns-then-path-gt241-clause-few : goal.returns-then-path-gt241-clause-few
returns-then-path-gt241-clause-few c = omega (arith, length-take-le 241 c.args.path.now (omega arith))
