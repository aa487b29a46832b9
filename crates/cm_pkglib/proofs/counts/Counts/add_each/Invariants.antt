use Rattle.std.proofs.Common.{◌≡◌, ◌+◌, take}
use Rattle.cm_base.specs.declared.hash.Hash.{Hash}
use Rattle.cm_pkglib.specs.Counts.{count_of, sealed_of, times}
use Rattle.cm_pkglib.proofs.counts.Counts.add_each.Given as goal

abbrev pub invariant-loop-i : goal.invariant-loop-i
invariant-loop-i l = record {
  counts : (hash : Hash) → count_of l.self hash ≡ count_of l.initial.self hash + times hash (take l.i l.entries);
  seals : (hash : Hash) → sealed_of l.self hash ≡ sealed_of l.initial.self hash;
}
