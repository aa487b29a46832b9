use Rattle.cm_state.proofs.OneState.{one_state}
use Rattle.cm_state.proofs.laws.files_open_to_one_state.Goals as goal

pub returns : goal.returns
returns c = one_state
