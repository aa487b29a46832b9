use Rattle.std.proofs.Common.{◌≡◌, ◌+◌, ◌≤◌, length, take}
use Rattle.std.specs.Prelude.{sum_by}
use Rattle.std.specs.List.{AllByRecursion}
use Rattle.cm_base.specs.declared.hash.Hash.{Hash}
use Rattle.cm_pkglib.specs.declared.row.PkgRow.{PkgRow}
use Rattle.cm_pkglib.specs.Counts.{count_of, sealed_of, times}
use Rattle.cm_contents.specs.Contents.{manifest_in_map}
use Rattle.cm_contents.proofs.counting.count_versions.Given as goal

abbrev pub invariant-loop-row : goal.invariant-loop-row
invariant-loop-row l = record {
  counts : (hash : Hash) → count_of l.counts hash ≡ count_of l.fn.counts hash + sum_by (λ (row : PkgRow). times hash (manifest_in_map l.manifests row.package row.version)) (take l.row-index l.rows);
  small : AllByRecursion (λ (row : PkgRow). length (manifest_in_map l.manifests row.package row.version) ≤ 20000) (take l.row-index l.rows);
  seals : (hash : Hash) → sealed_of l.counts hash ≡ sealed_of l.fn.counts hash;
}
