use Rattle.cm_disk.specs.Disk.{Files}
use Rattle.cm_state.specs.State.{State}
use Rattle.cm_state.specs.Changes.{StateChange, apply}
use Rattle.cm_state.specs.Opens.{Opens}
use Rattle.cm_state.proofs.OneState.{one_state}
use Rattle.cm_state.proofs.RunLaw.{runs_are_prefixed}
use Rattle.cm_state.proofs.laws.every_image_opens_to_a_prefix.Goals as goal

pub returns : goal.returns
returns c = runs_are_prefixed {State = State} {Change = StateChange} {Image = Files} apply Opens one_state
