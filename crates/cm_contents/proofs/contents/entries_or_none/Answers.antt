use Rattle.std.proofs.Common.{refl, arith}
use Rattle.cm_contents.proofs.contents.entries_or_none.Goals as goal

pub returns-in-None-clause-form : goal.returns-in-None-clause-form
returns-in-None-clause-form c = record { few = omega arith; each = tt; rising = refl; apart = refl }
