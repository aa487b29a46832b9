use Rattle.std.proofs.Common.{arith}
use Rattle.cm_net.specs.Addresses.{decimal}
use Rattle.cm_net.proofs.Spelled.{joined_again, grown}
use Rattle.cm_net.proofs.address_spelling.+push_parts.Goals as goal

pub returns-clause-items : goal.returns-clause-items
returns-clause-items g t c =
    grown _ _ _ _ _ _ _ _ c.push_parts.ensures.items c.push.ensures.items c.push_decimal-2.ensures.items (joined_again decimal 46 256 c.args.count c.args.number (omega arith))
