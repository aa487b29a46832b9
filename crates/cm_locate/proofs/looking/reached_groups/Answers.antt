use Rattle.cm_locate.proofs.Groups.{reached_is}
use Rattle.cm_locate.proofs.looking.reached_groups.Goals as goal

pub returns-clause-are : goal.returns-clause-are
returns-clause-are c = reached_is c.args.groups.now c.args.ask.now c.args.current.now c.in_ok-numbers.numbers.items c.requires.are c.in_ok-numbers.ensures.those c.in_ok-numbers.ensures.there
