use Rattle.std.proofs.Common.{Ok}
use Rattle.std.proofs.lemmas.Iterator.{items_from_collect, YieldsList-from_take}
use Rattle.std.proofs.lemmas.Iterator.Consumers.{YieldsList-from_copied, YieldsList-from_rest}
use Rattle.cmsite.proofs.names.first_of.Goals as goal

pub returns : goal.returns
returns c =
    items_from_collect {E = Unit {0}} (Ok c.in_ok-collect.field-0) c.in_ok-collect.ensures.ran
    (YieldsList-from_copied (YieldsList-from_take c.args.most (YieldsList-from_rest c.args.names.now.keys cc) cc))
