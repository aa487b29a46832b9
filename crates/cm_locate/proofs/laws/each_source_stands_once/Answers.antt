use Rattle.cm_locate.proofs.Once.{rows_rise}
use Rattle.cm_locate.proofs.laws.each_source_stands_once.Goals as goal

pub returns : goal.returns
returns c = rows_rise
