use Rattle.std.proofs.Common.{◌≡◌, map, take}
use Rattle.cm_groups.specs.Groups.{leads_by}
use Rattle.cm_groups.proofs.making.leads_of_groups.Given as goal

abbrev pub invariant-loop-text : goal.invariant-loop-text
invariant-loop-text l = l.leads.items ≡ map (λ text. leads_by l.groups text) (take l.text-index l.texts)
