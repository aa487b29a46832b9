use Rattle.std.proofs.Common.{sym, ◌∙◌}
use Rattle.cm_contents.proofs.Wanted.{none_there}
use Rattle.cm_intake.specs.Firsts.{number_of}
use Rattle.cm_intake.proofs.FirstNumbers.{one_numbered}
use Rattle.cm_intake.proofs.firsts.Firsts.add.Goals as goal

pub returns-in_ok-insert : goal.returns-in_ok-insert
returns-in_ok-insert c hash = one_numbered (number_of c.args.self.now) c.args.number c.args.entry.now hash _ (sym c.number.ensures ∙ none_there c.number.result c.if-is_none.ensures) (c.in_ok-insert.ensures.updates.0 hash)
