use Rattle.std.proofs.Common.{◌≡◌, take}
use Rattle.std.specs.List.{flat_map}
use Rattle.cm_base.specs.declared.hash.Hash.{Hash}
use Rattle.cm_pkglib.specs.declared.row.PkgRow.{PkgRow}
use Rattle.cm_pkglib.specs.Counts.{count_of, sealed_of}
use Rattle.cm_contents.specs.Contents.{manifest_in_map}
use Rattle.cm_contents.specs.Seals.{found_seal}
use Rattle.cm_contents.proofs.counting.seal_versions.Given as goal

abbrev pub invariant-loop-row : goal.invariant-loop-row
invariant-loop-row l = record {
  counts : (hash : Hash) → count_of l.counts hash ≡ count_of l.fn.counts hash;
  seals : (hash : Hash) → sealed_of l.counts hash ≡ found_seal (sealed_of l.fn.counts hash) hash (flat_map (λ (row : PkgRow). manifest_in_map l.manifests row.package row.version) (take l.row-index l.rows));
}
