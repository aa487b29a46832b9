use Rattle.std.proofs.Common.{◌≡◌, ◌-◌, drop, slice_get}
use Rattle.cm_top.specs.Words.{texts, values_of}
use Rattle.cm_top.proofs.Scan.{left}
use Rattle.cm_top.proofs.words.value.Given as goal

abbrev pub invariant-loop-word : goal.invariant-loop-word
invariant-loop-word l = slice_get (left l.ended (texts (drop l.word-index l.words))) l.before ≡ slice_get (values_of (texts l.words)) (l.number - 1)
