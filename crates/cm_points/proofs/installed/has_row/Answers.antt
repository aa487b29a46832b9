-- A search by halves.
use Rattle.std.proofs.Common.{◌∙◌, rules}
use Rattle.std.proofs.lemmas.List.Sorted.{answers_always}
use Rattle.cm_points.specs.Installs.{InstalledRow, is_row}
use Rattle.cm_points.proofs.Searching.{is_row-row_cmp, found_by_halves}
use Rattle.cm_points.proofs.installed.has_row.Goals as goal

pub returns : goal.returns
returns c =
    c.is_ok.ensures.value
    ∙ found_by_halves
    (is_row c.args.row.now.0 c.args.row.now.1 c.args.row.now.2)
    c.args.row.now
    (is_row-row_cmp c.args.row.now.0 c.args.row.now.1 c.args.row.now.2)
    c.args.rows.now
    c.binary_search_by_key.result
    c.requires
    c.binary_search_by_key.ensures.bound
    (c.binary_search_by_key.ensures.position (λ (row : InstalledRow). (row.1, row.2, row.0)) (answers_always _ _ _ (λ f a r g h. search rules)))
