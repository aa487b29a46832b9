use Rattle.std.proofs.Common.{◌≡◌, false, true, None, Some, refl, rules}
use Rattle.cm_site.specs.Opened.{world_of}
use Rattle.cm_site.proofs.Allowed.{refused_by}
use Rattle.cm_site.proofs.topology.refusal_of.Goals as goal

pub returns-in-Some : goal.returns-in-Some
returns-in-Some g c = λ size le.
    let was = c.args.records.now in
    refused_by size le c.args.topology.now (record { records = was.kept; gate = was.end }) was.kept.topology was.kept.number c.tells.ensures.alone (world_of c.args.members.now) (Some c.in-Some.name) _ (search rules) refl

pub returns-then-is_spent : goal.returns-then-is_spent
returns-then-is_spent g c = λ size le.
    let was = c.args.records.now in
    refused_by size le c.args.topology.now (record { records = was.kept; gate = was.end }) was.kept.topology was.kept.number c.tells.ensures.alone (world_of c.args.members.now) None true (search rules) (search rules)

pub returns : goal.returns
returns g c = λ size le.
    let was = c.args.records.now in
    refused_by size le c.args.topology.now (record { records = was.kept; gate = was.end }) was.kept.topology was.kept.number c.tells.ensures.alone (world_of c.args.members.now) None false (search rules) (search rules)
