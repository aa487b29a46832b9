use Rattle.std.proofs.Common.{Err, Result, refl, ◌∙◌, ap}
use Rattle.cm_log.specs.declared.state.Log.{Log}
use Rattle.cm_register.specs.Records.{Records}
use Rattle.cm_state.specs.declared.fault.OpenFault.{OpenFault}
use Rattle.cm_records.proofs.Keeps.{stands_reads}
use Rattle.cm_records.proofs.Standing.{image_opens}
use Rattle.cm_records.proofs.records.Records.open.Goals as goal

pub returns-in-Ok-clause-whole : goal.returns-in-Ok-clause-whole
returns-in-Ok-clause-whole g c x told =
    let found = c.in-Ok.ensures in
    image_opens c.show_laws.ensures x (g.D.Disk.may_leave c.read_records.new.disk) c.in-Ok.log c.in-Ok.kept found.shelf (found.stands x (c.read_records.ensures.only.same ∙ told))

pub returns-in-Ok-clause-found : goal.returns-in-Ok-clause-found
returns-in-Ok-clause-found g c =
    let found = c.in-Ok.ensures in
    record {
      start_is = c.of-start.ensures;
      settled = refl;
      same = c.read_records.ensures.only.same;
      files = λ x told. stands_reads x (g.D.Disk.may_leave c.read_records.new.disk) c.in-Ok.log c.in-Ok.kept found.shelf (found.stands x (c.read_records.ensures.only.same ∙ told));
    }

pub returns-in-Err-clause-unreadable : goal.returns-in-Err-clause-unreadable
returns-in-Err-clause-unreadable g c place at is x told =
    c.in-Err.ensures.unreadable place at (ap (λ (f : OpenFault). let r : Result (Log × Records) OpenFault = Err f in r) is) x told

pub invariant_of-result : goal.invariant_of-result
invariant_of-result g c = record { shelf = c.in-Ok.ensures.shelf; idle_or = c.in-Ok.ensures.idle; stands = c.in-Ok.ensures.stands }
