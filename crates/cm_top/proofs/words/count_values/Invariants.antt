use Rattle.std.proofs.Common.{◌≡◌, ◌+◌, ◌≤◌, drop, length}
use Rattle.cm_top.specs.Words.{texts, values_of}
use Rattle.cm_top.proofs.Scan.{left}
use Rattle.cm_top.proofs.words.count_values.Given as goal

abbrev pub invariant-loop-word : goal.invariant-loop-word
invariant-loop-word l = record {
  few : l.count ≤ l.word-index;
  so_far : l.count + length (left l.ended (texts (drop l.word-index l.words))) ≡ length (values_of (texts l.words));
}
