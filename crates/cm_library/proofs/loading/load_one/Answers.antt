use Rattle.std.proofs.Common.{List, Result, Err, ap}
use Rattle.cm_tree.specs.declared.entry.Entry.{Entry}
use Rattle.cm_state.specs.declared.fault.OpenFault.{OpenFault}
use Rattle.cm_state.specs.declared.fault.OpenFault.TheVariants.{Unreadable}
use Rattle.cm_contents.proofs.Keeping.{puts_manifest}
use Rattle.cm_library.proofs.MapKept.{one_kept, one_stays}
use Rattle.cm_library.proofs.Naming.{err_is}
use Rattle.cm_library.proofs.loading.load_one.Goals as goal

pub returns-in-Ok-insert-clause-kept : goal.returns-in-Ok-insert-clause-kept
returns-in-Ok-insert-clause-kept g c x told =
    let puts = puts_manifest c.args.manifests.now c.insert.new.self c.args.row.now.package c.args.row.now.version c.in-Ok.manifest c.in-Ok-insert.ensures.updates in
    let found = c.in-Ok.ensures.found x told in
    record {
      kept = one_kept x c.args.row.now c.in-Ok.manifest c.args.manifests.now c.insert.new.self found puts;
      durable = c.in-Ok.ensures.durable x told;
      stays = one_stays x c.args.row.now c.in-Ok.manifest c.args.manifests.now c.insert.new.self found puts;
    }

pub returns-clause-unreadable : goal.returns-clause-unreadable
returns-clause-unreadable g c place at is x told =
    let fault = err_is {T = Unit {0}} c.in-Err.fault (Unreadable place at) is in
    c.in-Err.ensures.unreadable place at (ap (λ (f : OpenFault). let r : Result (List Entry) OpenFault = Err f in r) fault) x told
