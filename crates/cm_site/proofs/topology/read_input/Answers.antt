use Rattle.std.proofs.Common.{rules, ◌∙◌}
use Rattle.cm_site.proofs.Fed.{read_whole}
use Rattle.cm_site.proofs.topology.read_input.Goals as goal

pub returns-in-Ok-false-clause-text : goal.returns-in-Ok-false-clause-text
returns-in-Ok-false-clause-text g c =
    read_whole 4194305 (g.S.Source.left c.args.input.now) (g.S.Source.left c.read_more.new.input) c.read_more.new.text.items (c.in-Ok-false.ensures.goes_on ∙ c.loop-text.invariant.0) (search rules) (search rules)
