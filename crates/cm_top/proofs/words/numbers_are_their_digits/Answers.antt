use Rattle.cm_top.proofs.NumberLemmas.{exactly_its_digits}
use Rattle.cm_top.proofs.words.numbers_are_their_digits.Goals as goal

pub returns : goal.returns
returns c = exactly_its_digits
