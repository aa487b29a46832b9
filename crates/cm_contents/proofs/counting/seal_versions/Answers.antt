use Rattle.std.proofs.Common.{◌∙◌, ◌≤◌, ℕ, List, ap, sym, subst}
use Rattle.cm_pkglib.specs.declared.row.PkgRow.{PkgRow}
use Rattle.cm_pkglib.specs.Counts.{count_of, sealed_of}
use Rattle.cm_tree.specs.declared.entry.Entry.{Entry}
use Rattle.cm_state.proofs.Committed.{all_through}
use Rattle.cm_contents.specs.Contents.{manifest_in_map}
use Rattle.cm_contents.specs.Seals.{found_seal}
use Rattle.cm_contents.proofs.Counted.{found_flat, flat_part}
use Rattle.cm_contents.proofs.counting.seal_versions.Goals as goal

pub seal_row-requires : goal.seal_row-requires
seal_row-requires c =
    let f : PkgRow → List Entry = λ row. manifest_in_map c.args.manifests.now row.package row.version in
    let r = c.row-item.result in
    all_through (λ (e : Entry). 1 ≤ count_of c.args.counts.now e.hash) (λ (e : Entry). 1 ≤ count_of c.loop-row.counts e.hash) (λ e one. subst (λ (n : ℕ). 1 ≤ n) (sym (c.loop-row.invariant.counts e.hash)) one) (f r)
    (flat_part (λ (e : Entry). 1 ≤ count_of c.args.counts.now e.hash) f c.args.rows.now c.loop-row.row-index r c.loop-row-test.true c.row-item.is c.requires)

pub loop-row-preserved : goal.loop-row-preserved
loop-row-preserved c =
    let f : PkgRow → List Entry = λ row. manifest_in_map c.args.manifests.now row.package row.version in
    let r = c.row-item.result in
    record {
      counts = λ hash. c.seal_row.ensures.counts hash ∙ c.loop-row.invariant.counts hash;
      seals = λ hash. c.seal_row.ensures.seals hash ∙ ap (λ s. found_seal s hash (f r)) (c.loop-row.invariant.seals hash)
          ∙ found_flat f (sealed_of c.args.counts.now hash) hash c.args.rows.now c.loop-row.row-index r c.loop-row-test.true c.row-item.is;
    }
