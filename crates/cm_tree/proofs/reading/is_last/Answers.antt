use Rattle.std.proofs.Common.{sym, ◌∙◌}
use Rattle.cm_tree.proofs.Rising.{is_behind-last}
use Rattle.cm_tree.proofs.reading.is_last.Goals as goal

pub returns-in-Some : goal.returns-in-Some
returns-in-Some c = c.lt.ensures ∙ sym (is_behind-last c.args.before.now c.in-Some.last.now c.args.path.now c.in-Some.ensures.value)
