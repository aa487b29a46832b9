use Rattle.cm_state.proofs.Needs.{needs_are_enough}
use Rattle.cm_state.proofs.laws.needs_are_enough.Goals as goal

pub returns : goal.returns
returns c = needs_are_enough
