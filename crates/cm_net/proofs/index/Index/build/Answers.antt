use Rattle.std.proofs.Common.{ℕ, List, [], ◌∷◌, All, map, ◌∙◌, ap}
use Rattle.std.proofs.lemmas.List.Elements.{All-same}
use Rattle.std.proofs.lemmas.Result.{IfOk-weaker}
use Rattle.cm_net.specs.declared.boundary.Boundary.{Boundary}
use Rattle.cm_net.specs.Boundaries.{IsSound}
use Rattle.cm_net.specs.Groups.{rows_in}
use Rattle.cm_net.proofs.GatheredRows.{single_lists, single_sound}
use Rattle.cm_net.proofs.index.Index.build.Goals as goal

pub of_lists-requires : goal.of_lists-requires
of_lists-requires c =
    All-same (λ (list : List Boundary × ℕ). All IsSound list.0) c.of-lists.result (map (λ (row : Boundary × ℕ). (row.0 ∷ [], row.1)) c.args.rows.now)
    (c.of-lists.ensures ∙ c.in_ok-lists_of.ensures) (single_sound c.args.rows.now c.requires)

pub returns : goal.returns
returns c =
    IfOk-weaker c.of_lists.result _ _ (λ index is. is ∙ (ap rows_in (c.of-lists.ensures ∙ c.in_ok-lists_of.ensures) ∙ single_lists c.args.rows.now)) c.of_lists.ensures
