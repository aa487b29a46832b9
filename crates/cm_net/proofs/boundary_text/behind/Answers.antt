use Rattle.std.proofs.Common.{sym}
use Rattle.cm_net.proofs.FreeTexts.{word_short, word_other}
use Rattle.cm_net.proofs.boundary_text.behind.Goals as goal

pub returns-then-text-word : goal.returns-then-text-word
returns-then-text-word c = λ rest is. word_short c.args.text.now c.args.word.now rest c.if-text-word.true is

pub returns-else-eq : goal.returns-else-eq
returns-else-eq c = λ rest is. word_other c.args.text.now c.args.word.now _ rest c.split_at.ensures.front (sym c.if-eq.ensures) is
