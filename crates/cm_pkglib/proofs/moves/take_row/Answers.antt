use Rattle.std.proofs.Common.{◌∙◌, sym, subst, List, Err}
use Rattle.cm_pkglib.specs.declared.row.PkgRow.{PkgRow}
use Rattle.cm_pkglib.specs.Places.{IsThere, IsGap}
use Rattle.cm_pkglib.specs.Rows.{is_of, version_cmp}
use Rattle.cm_pkglib.proofs.Orders.{is_of-version_cmp}
use Rattle.cm_pkglib.proofs.Halves.{any_place, row_found, rest_found}
use Rattle.cm_pkglib.proofs.moves.take_row.Goals as goal

pub unreachable-requires : goal.unreachable-requires
unreachable-requires c =
    let gap = subst (λ (rows : List PkgRow). IsGap (version_cmp c.args.id c.args.version) rows c.in-Err.field-0) c.deref.ensures.value c.in-Err.ensures in
    let none = any_place (is_of c.args.id c.args.version) (version_cmp c.args.id c.args.version) (is_of-version_cmp c.args.id c.args.version) c.args.rows.now.items (Err c.in-Err.field-0) gap in
    cc (none, c.requires.there)

pub returns-clause-row : goal.returns-clause-row
returns-clause-row c =
    let there = subst (λ (rows : List PkgRow). IsThere (version_cmp c.args.id c.args.version) rows c.in-Ok.at) c.deref.ensures.value c.in-Ok.ensures in
    row_found (is_of c.args.id c.args.version) (version_cmp c.args.id c.args.version) (is_of-version_cmp c.args.id c.args.version) _ c.in-Ok.at c.remove.result there c.remove.ensures.value

pub returns-clause-rest : goal.returns-clause-rest
returns-clause-rest c =
    let there = subst (λ (rows : List PkgRow). IsThere (version_cmp c.args.id c.args.version) rows c.in-Ok.at) c.deref.ensures.value c.in-Ok.ensures in
    c.remove.ensures.items
    ∙ sym (rest_found (is_of c.args.id c.args.version) (version_cmp c.args.id c.args.version) (is_of-version_cmp c.args.id c.args.version) _ c.in-Ok.at there)
