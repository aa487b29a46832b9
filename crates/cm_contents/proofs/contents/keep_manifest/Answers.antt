use Rattle.cm_contents.proofs.Keeping.{puts_manifest}
use Rattle.cm_contents.proofs.contents.keep_manifest.Goals as goal

pub returns-in-Ok-clause-put : goal.returns-in-Ok-clause-put
returns-in-Ok-clause-put c = puts_manifest c.args.manifests.now c.insert.new.self c.args.key.0 c.args.key.1 c.args.manifest c.in-Ok.ensures.updates
