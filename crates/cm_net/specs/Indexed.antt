-- What an index keeps of its rows, and how few steps it takes.
use Rattle.std.specs.Prelude.{◌≡◌, ℕ, ◌+◌, ◌*◌, ◌<◌, ◌≤◌, ◌^◌, Bool, List, length}
use Rattle.std.specs.List.Sorted.{IsStrictlySortedBy}
use Rattle.std.specs.Ordering.{nat_cmp}
use Rattle.cm_net.specs.declared.address.Address.{Address}
use Rattle.cm_net.specs.declared.address.Address.TheVariants.{V4, V6}
use Rattle.cm_net.specs.declared.boundary.Boundary.{Boundary}
use Rattle.cm_net.specs.declared.entry.Entry.{Entry}
use Rattle.cm_net.specs.Boundaries.{holds_address, is_four, is_six, is_site, is_of_family, rows_of}
use Rattle.cm_net.specs.Entries.{keys_in}
use Rattle.cm_net.specs.Groups.{numbers_of, IsRisingOf}
use Rattle.cm_net.specs.declared.span.Span.{Span}
use Rattle.cm_net.specs.Spans.{groups_at, is_held, numbers_at}
use Rattle.cm_net.specs.Sites.{AreSitesOf}

-- Spans that hold the addresses of one family, each for the groups of the rows that hold it: no more than one for each row of the
-- family would be.
pub record AreSpansOf (end : ℕ) (address_of : ℕ → Address) (is_family : Boundary → Bool) (rows : List (Boundary × ℕ)) (spans : List Span) : Type 0 where
  pub each : List Span
  pub counted : length each ≡ rows_of is_family rows
  pub right : (address : ℕ) → address < end → numbers_at each address ≡ numbers_of (λ boundary. holds_address boundary (address_of address)) rows
  pub same : (address group : ℕ) → is_held spans address group ≡ is_held each address group
  pub few : length spans ≤ length each

-- The segments of one family, in order: for each address below the end they have the numbers of the rows that hold it, and each
-- row of the family makes two more at most.
pub record IsFamilyOf (end : ℕ) (address_of : ℕ → Address) (is_family : Boundary → Bool) (rows : List (Boundary × ℕ)) (segments : List (Entry ℕ)) : Type 0 where
  pub right : (address : ℕ) → address < end → IsRisingOf (numbers_of (λ boundary. holds_address boundary (address_of address)) rows) (groups_at segments address)
  pub order : IsStrictlySortedBy nat_cmp (keys_in segments)
  pub few : length segments ≤ 2 * rows_of is_family rows + 1

-- for each address of each family, and for each site, it has the numbers of the rows that hold the client
pub record IsIndexOf (rows : List (Boundary × ℕ)) (four six : List (Entry ℕ)) (sites : List (Entry (List ℕ))) : Type 0 where
  pub four_right : IsFamilyOf (2 ^ 32) (λ address. V4 address) is_four rows four
  pub six_right : IsFamilyOf (2 ^ 128) (λ address. V6 address) is_six rows six
  pub sites_right : AreSitesOf rows sites

-- So many steps are at most a + b, where a and b are the greatest numbers with 2 ^ a ≤ 4 k + 3 and 2 ^ b ≤ 2 m + 1, for k rows
-- of addresses of the client's family and m rows of sites.
pub record AreFewSteps (address : Address) (rows : List (Boundary × ℕ)) (before after : ℕ) : Type 0 where
  pub by_address : ℕ
  pub by_site : ℕ
  pub all : after ≡ before + (by_address + by_site)
  pub few_by_address : 2 ^ by_address ≤ 4 * rows_of (is_of_family address) rows + 3
  pub few_by_site : 2 ^ by_site ≤ 2 * rows_of is_site rows + 1
