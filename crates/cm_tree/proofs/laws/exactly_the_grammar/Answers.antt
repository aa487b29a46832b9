use Rattle.cm_tree.proofs.Entries.{read_takes, read_spells}
use Rattle.cm_tree.proofs.laws.exactly_the_grammar.Goals as goal

pub returns : goal.returns
returns c = λ bytes entries fits. (λ h. read_takes bytes entries fits h, λ s. read_spells bytes entries s)
