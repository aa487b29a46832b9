use Rattle.std.proofs.Common.{◌≤◌, List, [], sym, ◌∙◌, ap, subst}
use Rattle.std.specs.Prelude.{Option, unwrap_or}
use Rattle.std.specs.List.{AllByRecursion}
use Rattle.cm_pkglib.specs.Counts.{count_of}
use Rattle.cm_tree.specs.declared.entry.Entry.{Entry}
use Rattle.cm_contents.proofs.counting.seal_row.Goals as goal

pub seal_entries-requires : goal.seal_entries-requires
seal_entries-requires c =
    subst (AllByRecursion (λ (e : Entry). 1 ≤ count_of c.args.counts.now e.hash)) (sym (c.entries.ensures.value ∙ ap (λ (o : Option (List Entry)). unwrap_or o []) c.in-Some.ensures.value)) c.requires
