use Rattle.std.proofs.Common.{sym, ◌∙◌}
use Rattle.cm_top.proofs.Unknown.{unknown}
use Rattle.cm_top.proofs.words.read_words.Goals as goal

pub returns-in_default-clause-err : goal.returns-in_default-clause-err
returns-in_default-clause-err c = λ other.
    let d = c.in_default in
    unknown c.args.words.now c.index-words-0.result c.as_str.result.now (sym c.is_empty.ensures ∙ c.if-is_empty.false) c.index-words-0.is c.as_str.ensures.value
    d.not-init d.not-add d.not-update d.not-list d.not-drop d.not-validate d.not-text d.not-purge d.not-topology
