use Rattle.std.proofs.Common.{ℕ, ◌∙◌, ap, length, nat_lt, List}
use Rattle.cm_net.specs.declared.boundary.Boundary.{Boundary}
use Rattle.cm_groups.specs.Groups.{held_by}
use Rattle.cm_groups.proofs.Held.{lacking}
use Rattle.cm_groups.proofs.checks.lacks_one.Goals as goal

pub returns : goal.returns
returns c =
    ap (λ (held : List Boundary). nat_lt (length held) (length c.items-2.result.now)) (c.items.ensures ∙ c.requires)
    ∙ ap (λ (names : List (List ℕ)). nat_lt (length (held_by c.args.rows.now c.args.text.now)) (length names)) c.items-2.ensures
    ∙ lacking c.args.rows.now c.args.text.now.boundaries
