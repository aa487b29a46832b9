use Rattle.std.proofs.Common.{rules}
use Rattle.std.proofs.lemmas.Fn.{always_returns_same}
use Rattle.cm_pkglib.specs.Rows.{version_cmp}
use Rattle.cm_pkglib.proofs.Orders.{key_of, key_total}
use Rattle.cm_pkglib.proofs.Halves.{place_of}
use Rattle.cm_pkglib.proofs.search.version_place.Goals as goal

pub returns : goal.returns
returns c =
    place_of key_of key_total (c.args.id, c.args.version) c.args.rows.now c.binary_search_by.result c.requires c.binary_search_by.ensures.bound
    (c.binary_search_by.ensures.position (version_cmp c.args.id c.args.version) (always_returns_same _ _ _ (λ a r g h. search rules)))
