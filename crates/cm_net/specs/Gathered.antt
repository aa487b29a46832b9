-- What the index needs of rows, gathered in one walk.
use Rattle.std.specs.Prelude.{ℕ, ◌≤◌, ◌^◌, List, length}
use Rattle.cm_net.specs.declared.address.Address.TheVariants.{V4, V6}
use Rattle.cm_net.specs.declared.boundary.Boundary.{Boundary}
use Rattle.cm_net.specs.declared.gathered.Gathered.{Gathered}
use Rattle.cm_net.specs.Boundaries.{is_four, is_six, is_site, rows_of}
use Rattle.cm_net.specs.Indexed.{AreSpansOf}
use Rattle.cm_net.specs.Sites.{HaveNumbersOf}

-- spans that hold the addresses of the rows, and for each site the numbers of its rows
pub record IsGatheredOf (rows : List (Boundary × ℕ)) (gathered : Gathered) : Type 0 where
  pub four : AreSpansOf (2 ^ 32) (λ address. V4 address) is_four rows gathered.four.items
  pub six : AreSpansOf (2 ^ 128) (λ address. V6 address) is_six rows gathered.six.items
  pub sites : HaveNumbersOf rows gathered.sites.entries.items
  pub few : length gathered.sites.entries.items ≤ rows_of is_site rows
