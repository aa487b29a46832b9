-- Which boundaries are sound, and which clients they hold.
use Rattle.std.specs.Prelude.{◌≡◌, ℕ, ◌-◌, ◌/◌, ◌%◌, ◌^◌, ◌≤◌, ◌==◌, nat_le, ◌&&◌, ◌||◌, Bool, true, false, List, count_by, Option, Some, None}
use Rattle.std.specs.Str.{bytes_eq}
use Rattle.cm_net.specs.declared.address.Address.{Address}
use Rattle.cm_net.specs.declared.address.Address.TheVariants.{V4, V6}
use Rattle.cm_net.specs.declared.boundary.Boundary.{Boundary}
use Rattle.cm_net.specs.declared.boundary.Boundary.TheVariants.{Subnet, Site, Prefix6, Range4, Range6}

-- no more bits than the family has, no bit 1 behind them, and no end before its begin
abbrev pub IsSound : Boundary → Type 0
IsSound (Subnet net bits) = (bits ≤ 32) × (net % 2 ^ (32 - bits) ≡ 0)
IsSound (Site name) = Unit {0}
IsSound (Prefix6 net bits) = (bits ≤ 128) × (net % 2 ^ (128 - bits) ≡ 0)
IsSound (Range4 from to) = from ≤ to
IsSound (Range6 from to) = from ≤ to

-- of two numbers with so many bits, the first of these bits are equal
abbrev pub same_first_bits : ℕ → ℕ → ℕ → ℕ → Bool
same_first_bits width bits a b = a / 2 ^ (width - bits) == b / 2 ^ (width - bits)

-- the number is from the first to the last, both among them
abbrev pub is_between : ℕ → ℕ → ℕ → Bool
is_between first last n = nat_le first n && nat_le n last

-- it holds the clients at this address, whatever their site
abbrev pub holds_address : Boundary → Address → Bool
holds_address (Subnet net bits) (V4 address) = same_first_bits 32 bits net address
holds_address (Subnet net bits) (V6 address) = false
holds_address (Site name) address = false
holds_address (Prefix6 net bits) (V4 address) = false
holds_address (Prefix6 net bits) (V6 address) = same_first_bits 128 bits net address
holds_address (Range4 from to) (V4 address) = is_between from to address
holds_address (Range4 from to) (V6 address) = false
holds_address (Range6 from to) (V4 address) = false
holds_address (Range6 from to) (V6 address) = is_between from to address

-- it holds the clients of this site, whatever their address
abbrev pub holds_site : Boundary → Option (List ℕ) → Bool
holds_site (Subnet net bits) site = false
holds_site (Site name) None = false
holds_site (Site name) (Some site) = bytes_eq site name
holds_site (Prefix6 net bits) site = false
holds_site (Range4 from to) site = false
holds_site (Range6 from to) site = false

-- it holds the client
abbrev pub is_inside : Boundary → Address → Option (List ℕ) → Bool
is_inside boundary address site = holds_address boundary address || holds_site boundary site

-- it is of IPv4 addresses, of IPv6 addresses, of a site
abbrev pub is_four : Boundary → Bool
is_four (Subnet net bits) = true
is_four (Site name) = false
is_four (Prefix6 net bits) = false
is_four (Range4 from to) = true
is_four (Range6 from to) = false

abbrev pub is_six : Boundary → Bool
is_six (Subnet net bits) = false
is_six (Site name) = false
is_six (Prefix6 net bits) = true
is_six (Range4 from to) = false
is_six (Range6 from to) = true

abbrev pub is_site : Boundary → Bool
is_site (Subnet net bits) = false
is_site (Site name) = true
is_site (Prefix6 net bits) = false
is_site (Range4 from to) = false
is_site (Range6 from to) = false

-- it is of addresses of the family of this one
abbrev pub is_of_family : Address → Boundary → Bool
is_of_family (V4 address) boundary = is_four boundary
is_of_family (V6 address) boundary = is_six boundary

-- how many rows have a boundary that passes the test
abbrev pub rows_of : (Boundary → Bool) → List (Boundary × ℕ) → ℕ
rows_of test rows = count_by (λ row. test row.0) rows
