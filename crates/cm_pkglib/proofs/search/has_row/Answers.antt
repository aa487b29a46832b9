use Rattle.std.proofs.Common.{◌∙◌, sym}
use Rattle.cm_pkglib.specs.Rows.{is_of, version_cmp}
use Rattle.cm_pkglib.proofs.Orders.{is_of-version_cmp}
use Rattle.cm_pkglib.proofs.Halves.{any_place}
use Rattle.cm_pkglib.proofs.search.has_row.Goals as goal

pub returns : goal.returns
returns c =
    c.is_ok.ensures.value
    ∙ sym (any_place (is_of c.args.id c.args.version) (version_cmp c.args.id c.args.version) (is_of-version_cmp c.args.id c.args.version) c.args.rows.now c.version_place.result c.version_place.ensures)
