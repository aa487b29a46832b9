use Rattle.cm_locate.proofs.Reordered.{answer_by_rows}
use Rattle.cm_locate.proofs.laws.installed_rows_in_any_order.Goals as goal

pub returns : goal.returns
returns c = answer_by_rows
