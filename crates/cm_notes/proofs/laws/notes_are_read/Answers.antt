use Rattle.cm_notes.proofs.Records.{read_spelled, read_sound, record_read}
use Rattle.cm_notes.proofs.laws.notes_are_read.Goals as goal

pub returns : goal.returns
returns c = record { read = λ bytes note h. (read_sound bytes note h, record_read bytes note); again = read_spelled }
