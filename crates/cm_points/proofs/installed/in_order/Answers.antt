-- Sorting keeps the rows.
use Rattle.std.proofs.Common.{rules, sym}
use Rattle.std.proofs.lemmas.List.Sorted.{answers_always, list_any-IsPermutation}
use Rattle.cm_points.specs.Installs.{InstalledRow, is_row}
use Rattle.cm_points.proofs.installed.in_order.Goals as goal

pub returns-clause-same : goal.returns-clause-same
returns-clause-same c = λ point id version.
    sym (list_any-IsPermutation (is_row point id version) c.args.rows.items c.sort_unstable_by_key.new.self.items c.sort_unstable_by_key.ensures.permutation)

pub returns-clause-sorted : goal.returns-clause-sorted
returns-clause-sorted c = c.sort_unstable_by_key.ensures.sorted (λ (row : InstalledRow). (row.1, row.2, row.0)) (answers_always _ _ _ (λ f a r g h. search rules))
