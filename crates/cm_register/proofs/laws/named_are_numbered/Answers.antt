use Rattle.cm_register.proofs.Numbered.{named_numbered}
use Rattle.cm_register.proofs.laws.named_are_numbered.Goals as goal

pub returns : goal.returns
returns c = named_numbered
