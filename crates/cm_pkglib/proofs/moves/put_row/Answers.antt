use Rattle.std.proofs.Common.{◌∙◌, sym, subst, List, Ok}
use Rattle.cm_pkglib.specs.declared.row.PkgRow.{PkgRow}
use Rattle.cm_pkglib.specs.Places.{IsThere, IsGap}
use Rattle.cm_pkglib.specs.Rows.{is_of, version_cmp}
use Rattle.cm_pkglib.proofs.Orders.{is_of-version_cmp}
use Rattle.cm_pkglib.proofs.Changed.{with_row_gap}
use Rattle.cm_pkglib.proofs.Halves.{any_place, ok_items}
use Rattle.cm_pkglib.proofs.moves.put_row.Goals as goal

pub unreachable-requires : goal.unreachable-requires
unreachable-requires c =
    let there = subst (λ (rows : List PkgRow). IsThere (version_cmp c.args.row.package c.args.row.version) rows c.in-Ok.field-0) c.deref.ensures.value c.in-Ok.ensures in
    let found = any_place (is_of c.args.row.package c.args.row.version) (version_cmp c.args.row.package c.args.row.version) (is_of-version_cmp c.args.row.package c.args.row.version) c.args.rows.now.items (Ok c.in-Ok.field-0) there in
    cc (found, c.requires.absent)

pub returns-clause-rows : goal.returns-clause-rows
returns-clause-rows c =
    let gap = subst (λ (rows : List PkgRow). IsGap (version_cmp c.args.row.package c.args.row.version) rows c.in-Err.at) c.deref.ensures.value c.in-Err.ensures in
    ok_items c.insert-put.result (c.insert-put.ensures.succeeds c.requires.room) _ _ _ c.insert-put.ensures.items ∙ sym (with_row_gap c.args.row _ c.in-Err.at gap)
