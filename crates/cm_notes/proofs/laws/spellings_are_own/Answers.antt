use Rattle.std.proofs.Common.{◌∙◌, sym}
use Rattle.cm_notes.proofs.Records.{one_note, no_prefix}
use Rattle.cm_notes.proofs.laws.spellings_are_own.Goals as goal

pub returns : goal.returns
returns c = record { one_spelling = λ note a b r s. r.spelling ∙ sym s.spelling; one_note = one_note; no_prefix = no_prefix }
