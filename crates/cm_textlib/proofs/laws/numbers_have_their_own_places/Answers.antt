use Rattle.cm_textlib.proofs.Numbers.{place_own, not_ready, not_log}
use Rattle.cm_textlib.proofs.laws.numbers_have_their_own_places.Goals as goal

pub returns-clause-own : goal.returns-clause-own
returns-clause-own c = place_own

pub returns-clause-ready : goal.returns-clause-ready
returns-clause-ready c = not_ready

pub returns-clause-log : goal.returns-clause-log
returns-clause-log c = not_log
