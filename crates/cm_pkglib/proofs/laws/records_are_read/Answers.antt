use Rattle.cm_pkglib.proofs.Records.{read_spelled, read_sound, record_read}
use Rattle.cm_pkglib.proofs.laws.records_are_read.Goals as goal

pub returns : goal.returns
returns c = record { read = λ bytes change h. (read_sound bytes change h, record_read bytes change); again = read_spelled }
