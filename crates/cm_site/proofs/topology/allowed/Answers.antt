use Rattle.std.proofs.Common.{◌≡◌, None, Some, Result, Err, sym, ◌∙◌, subst}
use Rattle.std.specs.Prelude.{length}
use Rattle.cm_topo.specs.declared.fault.TopoFault.{TopoFault}
use Rattle.cm_topo.specs.declared.topology.Topology.{Topology}
use Rattle.cm_site.specs.Opened.{world_of}
use Rattle.cm_site.specs.Refusals.{topology_refusals}
use Rattle.cm_site.specs.declared.reply.Refusal.{Refusal}
use Rattle.cm_site.specs.declared.topology.TextFault.{TextFault}
use Rattle.cm_site.specs.declared.topology.TextFault.TheVariants.{Refused}
use Rattle.cm_site.proofs.topology.allowed.Goals as goal

abbrev not_taken : TextFault → Result Topology TextFault
not_taken fault = Err fault

same_refusal : {a b : Refusal} → not_taken (Refused a) ≡ not_taken (Refused b) → Some a ≡ Some b
same_refusal e = cc

pub returns-in-Err-clause-refused : goal.returns-in-Err-clause-refused
returns-in-Err-clause-refused g c = λ refusal is.
    c.in-Err.ensures.refused refusal is (record { records = c.args.records.now.kept; gate = c.args.records.now.end }) (world_of c.args.members.now)

pub returns-in-Some-clause-refused : goal.returns-in-Some-clause-refused
returns-in-Some-clause-refused g c = λ refusal is.
    let was = c.args.records.now in
    subst (λ (said : Result Topology TopoFault). topology_refusals (length c.args.text.now) said (record { records = was.kept; gate = was.end }) (world_of c.args.members.now) ≡ Some refusal)
    (sym c.in-Ok.ensures.said) (sym (c.in-Some.ensures (length c.args.text.now) c.in-Ok.ensures.fits) ∙ same_refusal is)

pub returns-in-None-clause-allowed : goal.returns-in-None-clause-allowed
returns-in-None-clause-allowed g c =
    let was = c.args.records.now in
    subst (λ (said : Result Topology TopoFault). topology_refusals (length c.args.text.now) said (record { records = was.kept; gate = was.end }) (world_of c.args.members.now) ≡ None)
    (sym c.in-Ok.ensures.said) (sym (c.in-None.ensures (length c.args.text.now) c.in-Ok.ensures.fits))
