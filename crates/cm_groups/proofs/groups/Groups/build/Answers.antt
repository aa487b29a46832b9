use Rattle.std.proofs.Common.{◌≡◌, ◌∙◌}
use Rattle.cm_groups.specs.Faults.{first_fault}
use Rattle.cm_groups.proofs.Soundness.{first_is, is_first}
use Rattle.cm_groups.proofs.groups.Groups.build.Goals as goal
use Rattle.cm_groups.proofs.groups.Groups.build.Goals.{After-first_fault}

answered : (c : After-first_fault) → first_fault c.args.code c.args.boundaries.items c.args.groups.items ≡ c.first_fault.result
answered c =
    first_is c.args.code c.args.boundaries.items c.deref.result.now c.args.groups.items c.deref-2.result.now c.deref-3.result.now c.in_ok-names.names c.in_ok-group_names.group_names c.first_fault.result
    c.in_ok-names.ensures c.deref.ensures.value c.in_ok-group_names.ensures c.deref-2.ensures.value c.deref-3.ensures.value c.first_fault.ensures.first

pub returns-in-Some-clause-fault : goal.returns-in-Some-clause-fault
returns-in-Some-clause-fault c = is_first _ c.in-Some.fault (answered (goal.at.returns-in-Some-clause-fault c).After-first_fault ∙ c.in-Some.is)

pub returns-clause-faultless : goal.returns-clause-faultless
returns-clause-faultless c = answered (goal.at.returns-clause-faultless c).After-first_fault ∙ c.in_default.is
