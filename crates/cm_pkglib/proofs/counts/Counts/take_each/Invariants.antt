use Rattle.std.proofs.Common.{◌≡◌, ◌-◌, take}
use Rattle.cm_base.specs.declared.hash.Hash.{Hash}
use Rattle.cm_pkglib.specs.Counts.{count_of, sealed_of, seal_kept, times}
use Rattle.cm_pkglib.proofs.counts.Counts.take_each.Given as goal

abbrev pub invariant-loop-entry : goal.invariant-loop-entry
invariant-loop-entry l = record {
  counts : (hash : Hash) → count_of l.self hash ≡ count_of l.initial.self hash - times hash (take l.entry-index l.entries);
  seals : (hash : Hash) → sealed_of l.self hash ≡ seal_kept (count_of l.self hash) (sealed_of l.initial.self hash);
}
