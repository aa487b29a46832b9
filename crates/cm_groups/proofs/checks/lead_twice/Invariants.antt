use Rattle.std.proofs.Common.{◌≡◌, drop, map}
use Rattle.cm_groups.specs.Texts.{has_repeat}
use Rattle.cm_groups.proofs.checks.lead_twice.Given as goal

abbrev pub invariant-loop-i : goal.invariant-loop-i
invariant-loop-i l = has_repeat (map (λ relation. relation.0) l.relations) ≡ has_repeat (map (λ relation. relation.0) (drop l.i l.relations))
