use Rattle.std.specs.Ordering.{nat_cmp}
use Rattle.std.specs.declared.cmp.Ordering.TheVariants.{Less}
use Rattle.std.proofs.Common.{rules, ℕ, ◌<◌, ◌≡◌}
use Rattle.std.proofs.lemmas.Cmp.{nat_cmp_total}
use Rattle.cm_pkglib.specs.declared.row.PkgRow.{PkgRow}
use Rattle.cm_pkglib.proofs.Among.{EachPair-map}
use Rattle.cm_pkglib.proofs.Orders.{less_from_lt}
use Rattle.std.proofs.lemmas.Fn.{always_returns_same}
use Rattle.cm_pkglib.proofs.Halves.{place_of}
use Rattle.cm_pkglib.proofs.search.job_place.Goals as goal

pub returns : goal.returns
returns c =
    place_of (λ (u : ℕ × PkgRow). u.0) nat_cmp_total c.args.job c.args.jobs.now c.binary_search_by.result
    (EachPair-map (λ (a b : ℕ × PkgRow). a.0 < b.0) (λ (a b : ℕ × PkgRow). nat_cmp a.0 b.0 ≡ Less) (λ a b h. less_from_lt a.0 b.0 h) c.args.jobs.now c.requires)
    c.binary_search_by.ensures.bound
    (c.binary_search_by.ensures.position (λ (u : ℕ × PkgRow). nat_cmp u.0 c.args.job) (always_returns_same _ _ _ (λ a r g h. search rules)))
