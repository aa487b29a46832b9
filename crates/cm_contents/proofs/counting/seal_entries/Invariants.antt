use Rattle.std.proofs.Common.{◌≡◌, take}
use Rattle.cm_base.specs.declared.hash.Hash.{Hash}
use Rattle.cm_pkglib.specs.Counts.{count_of, sealed_of}
use Rattle.cm_contents.specs.Seals.{found_seal}
use Rattle.cm_contents.proofs.counting.seal_entries.Given as goal

abbrev pub invariant-loop-entry : goal.invariant-loop-entry
invariant-loop-entry l = record {
  counts : (hash : Hash) → count_of l.counts hash ≡ count_of l.fn.counts hash;
  seals : (hash : Hash) → sealed_of l.counts hash ≡ found_seal (sealed_of l.fn.counts hash) hash (take l.entry-index l.entries);
}
