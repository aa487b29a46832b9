use Rattle.std.proofs.Common.{arith}
use Rattle.cm_net.specs.Spellings.{hexadecimal}
use Rattle.cm_net.proofs.Spelled.{joined_again, grown}
use Rattle.cm_net.proofs.address_spelling.+push_groups.Goals as goal

pub returns-clause-items : goal.returns-clause-items
returns-clause-items g t c =
    grown _ _ _ _ _ _ _ _ c.push_groups.ensures.items c.push.ensures.items c.push_group-2.ensures.items (joined_again hexadecimal 58 65536 c.args.count c.args.number (omega arith))
