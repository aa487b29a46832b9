use Rattle.std.proofs.Common.{◌∙◌, sym}
use Rattle.cm_pkglib.proofs.Records.{one_change, no_prefix}
use Rattle.cm_pkglib.proofs.laws.spellings_are_own.Goals as goal

pub returns : goal.returns
returns c = record { one_spelling = λ change a b r s. r.spelling ∙ sym s.spelling; one_change = one_change; no_prefix = no_prefix }
