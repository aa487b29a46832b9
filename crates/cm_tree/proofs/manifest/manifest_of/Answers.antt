use Rattle.std.proofs.Common.{arith}
use Rattle.cm_tree.proofs.Entries.{read_takes}
use Rattle.cm_tree.proofs.manifest.manifest_of.Goals as goal

pub invariant_of-result : goal.invariant_of-result
invariant_of-result c = (read_takes c.args.bytes.now c.in_ok-entries.entries.items (λ i. omega (arith, c.type_inv.bytes i)) c.in_ok-entries.ensures).manifest
