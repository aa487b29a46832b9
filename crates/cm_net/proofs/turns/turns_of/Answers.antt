use Rattle.std.proofs.Common.{length, ap, arith}
use Rattle.cm_net.proofs.Added.{length-turns}
use Rattle.cm_net.proofs.turns.turns_of.Goals as goal

pub returns-clause-few : goal.returns-clause-few
returns-clause-few c = omega (arith, c.rising_addresses.ensures.few, ap length c.in_ok-all_turns.ensures, length-turns c.args.spans.now)
