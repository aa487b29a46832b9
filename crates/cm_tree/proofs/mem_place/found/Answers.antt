use Rattle.std.proofs.Common.{rules, tests}
use Rattle.std.specs.Str.{bytes_eq}
use Rattle.std.proofs.lemmas.Iterator.{YieldsList-from_slice}
use Rattle.std.proofs.lemmas.Iterator.Search.{find_from_yields_List}
use Rattle.cm_tree.specs.MemFolders.{Pair}
use Rattle.cm_tree.proofs.mem_place.found.Goals as goal

pub returns : goal.returns
returns c =
    find_from_yields_List (λ (pair : Pair). bytes_eq c.args.path.now pair.0.items) _ _ _ c.find.ensures.ran
    (YieldsList-from_slice c.args.pairs.now c.iter.ensures.rest)
    (λ x b q k. search (rules, tests))
