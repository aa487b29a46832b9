use Rattle.std.proofs.Common.{rules, tests, ◌==◌, not}
use Rattle.std.proofs.lemmas.Iterator.Search.{all_from_yields_List}
use Rattle.std.proofs.lemmas.Iterator.Splits.{YieldsList-from_slice_split}
use Rattle.cm_tree.specs.Paths.{is_dots}
use Rattle.cm_tree.proofs.file_path.are_parts.Goals as goal

pub returns : goal.returns
returns c =
    all_from_yields_List (λ part. not (is_dots part)) _ _ _ c.all.ensures.ran
    (YieldsList-from_slice_split _ (λ b. b == 47) c.args.text.now c.split.ensures.rest c.split.ensures.done c.split.ensures.closure (λ x r q k. search (rules, tests)))
    (λ x b q k. search (rules, tests))
