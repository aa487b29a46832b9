use Rattle.cm_locate.proofs.Groups.{below, current_is}
use Rattle.cm_locate.proofs.looking.current_groups.Goals as goal

pub returns-clause-are : goal.returns-clause-are
returns-clause-are c = current_is c.args.groups.now c.args.ask.now _ c.in_ok-numbers.numbers.items c.as_ref.ensures.value c.in_ok-numbers.ensures.those c.in_ok-numbers.ensures.there

pub returns-clause-below : goal.returns-clause-below
returns-clause-below c = below c.args.groups.now c.in_ok-numbers.numbers.items c.in_ok-numbers.ensures.there
