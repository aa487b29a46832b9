use Rattle.std.proofs.Common.{length, take, arith}
use Rattle.std.proofs.lemmas.List.{length-take-le}
use Rattle.cm_base.specs.declared.hash.Hash.{Hash}
use Rattle.cm_pkglib.specs.declared.row.PkgRow.{PkgRow}
use Rattle.cm_pkglib.specs.Counts.{times}
use Rattle.cm_contents.specs.Contents.{manifest_in_map}
use Rattle.cm_contents.proofs.Counted.{sum_small, times_few}
use Rattle.cm_contents.proofs.counting.count_versions.Goals as goal

pub count_row-requires : goal.count_row-requires
count_row-requires c hash =
    let f = λ (hash : Hash) (row : PkgRow). times hash (manifest_in_map c.args.manifests.now row.package row.version) in
    let i = c.loop-row.row-index in
    let most = sum_small (f hash) (λ (row : PkgRow). length (manifest_in_map c.args.manifests.now row.package row.version)) (λ row. times_few hash (manifest_in_map c.args.manifests.now row.package row.version)) (take i c.args.rows.now) c.loop-row.invariant.small in
    let lt = c.loop-row-test.true in
    let before = c.loop-row.invariant.counts hash in
    let asked = c.requires hash in
    let many = length-take-le i c.args.rows.now (omega (arith, lt)) in
    omega (arith, most, lt, before, asked, many)
