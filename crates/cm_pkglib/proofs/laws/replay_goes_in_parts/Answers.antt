use Rattle.std.proofs.Common.{Some}
use Rattle.cm_pkglib.proofs.Replays.{replay_parts}
use Rattle.cm_pkglib.proofs.laws.replay_goes_in_parts.Goals as goal

pub returns : goal.returns
returns c = λ first second rows. replay_parts first second (Some rows)
