use Rattle.std.proofs.Common.{sym, ◌∙◌, ap}
use Rattle.std.specs.Prelude.{option_map}
use Rattle.cm_contents.specs.Wants.{size_for}
use Rattle.cm_contents.proofs.contents.Contents.wanted_size.Goals as goal

pub returns-in-Some : goal.returns-in-Some
returns-in-Some c = c.size.ensures ∙ ap (λ o. size_for (option_map (λ wants. wants.now) o) c.args.hash) (sym c.in-Some.is) ∙ c.job_wants.ensures c.args.hash

pub returns-in-None : goal.returns-in-None
returns-in-None c = ap (λ o. size_for (option_map (λ wants. wants.now) o) c.args.hash) (sym c.in-None.is) ∙ c.job_wants.ensures c.args.hash
