use Rattle.cm_pkglib.proofs.Replays.{no_rows_valid, replay_valid}
use Rattle.cm_pkglib.proofs.laws.replay_stays_valid.Goals as goal

pub returns : goal.returns
returns c = record { empty = no_rows_valid; replayed = replay_valid }
