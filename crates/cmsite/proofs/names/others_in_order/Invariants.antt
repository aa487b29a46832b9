use Rattle.std.proofs.Common.{◌≡◌, take, filter}
use Rattle.cmsite.specs.BayNames.{is_other, in_order}
use Rattle.cmsite.proofs.names.others_in_order.Given as goal

abbrev pub invariant-loop-name : goal.invariant-loop-name
invariant-loop-name l = l.others.keys ≡ in_order (filter is_other (take l.name-index l.names))
