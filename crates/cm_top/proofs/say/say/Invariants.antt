use Rattle.std.proofs.Common.{◌≡◌, ◌++◌, drop, map}
use Rattle.cm_top.specs.Texts.{spoken, spoken_on}
use Rattle.cm_top.proofs.say.say.Given as goal

abbrev pub invariant-loop-word : goal.invariant-loop-word
invariant-loop-word l = l.out.items ++ spoken_on (map (λ word. word.now) (drop l.word-index l.others)) ≡ l.fn.out.items ++ spoken (map (λ word. word.now) l.fn.words)
