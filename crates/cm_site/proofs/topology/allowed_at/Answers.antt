use Rattle.std.proofs.Common.{◌≡◌, None, Some}
use Rattle.std.specs.Prelude.{length}
use Rattle.cm_topo.specs.Outcomes.{topology_in}
use Rattle.cm_site.specs.Contents.{records_bay}
use Rattle.cm_site.specs.Opened.{world_of}
use Rattle.cm_site.specs.Refusals.{topology_refusals}
use Rattle.cm_site.specs.Worlds.{Kept, records_of}
use Rattle.cm_site.proofs.OneRecords.{kept_of}
use Rattle.cm_site.proofs.TopologyEnds.{kept_there, not_library, of_kept, ok_of_kept}
use Rattle.cm_site.proofs.topology.allowed_at.Goals as goal

pub unreachable-requires : goal.unreachable-requires
unreachable-requires g c = not_library records_bay c.args.at c.args.members.now c.index-members-at.result c.in-Library.field-0 c.requires.there c.in-Library.is

pub returns-clause-allowed : goal.returns-clause-allowed
returns-clause-allowed g c =
    let world = world_of c.args.members.now in
    ok_of_kept c.allowed.result (λ (kept : Kept). topology_refusals (length c.args.text.now) (topology_in c.args.text.now) kept world ≡ None) (records_of world) (kept_of c.in-Records.records)
    (kept_there c.args.at c.args.members.now c.in-Records.records c.index-members-at.result c.requires.there c.in-Records.is) c.allowed.ensures.allowed

pub returns-clause-refused : goal.returns-clause-refused
returns-clause-refused g c = λ refusal is.
    let world = world_of c.args.members.now in
    of_kept (λ (kept : Kept). topology_refusals (length c.args.text.now) (topology_in c.args.text.now) kept world ≡ Some refusal) (records_of world) (kept_of c.in-Records.records)
    (kept_there c.args.at c.args.members.now c.in-Records.records c.index-members-at.result c.requires.there c.in-Records.is) (c.allowed.ensures.refused refusal is)
