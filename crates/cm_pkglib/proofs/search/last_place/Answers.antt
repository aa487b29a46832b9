use Rattle.std.specs.Ordering.{nat_cmp}
use Rattle.std.specs.Cmp.Lexicographic.{slice_cmp}
use Rattle.std.proofs.Common.{rules, ℕ, List}
use Rattle.std.proofs.lemmas.Cmp.{nat_list_cmp_total}
use Rattle.std.proofs.lemmas.Fn.{always_returns_same}
use Rattle.cm_pkglib.proofs.Halves.{place_of}
use Rattle.cm_pkglib.proofs.search.last_place.Goals as goal

pub returns : goal.returns
returns c =
    place_of (λ (l : List ℕ × ℕ). l.0) nat_list_cmp_total c.args.id c.args.lasts.now c.binary_search_by.result c.requires c.binary_search_by.ensures.bound
    (c.binary_search_by.ensures.position (λ (l : List ℕ × ℕ). slice_cmp nat_cmp l.0 c.args.id) (always_returns_same _ _ _ (λ a r g h. search rules)))
