-- Sites with the numbers of their groups.
use Rattle.std.specs.Prelude.{◌≤◌, length, ◌≡◌, ◌==◌, ◌&&◌, ℕ, Bool, Vec, List, [], Option, Some, option_map, if◌then◌else◌}
use Rattle.std.specs.List.{flat_map, list_any, slice_get}
use Rattle.std.specs.Str.{bytes_eq}
use Rattle.std.specs.declared.alloc.Global.{Global}
use Rattle.std.specs.Cmp.Lexicographic.{slice_cmp}
use Rattle.std.specs.List.Sorted.{IsStrictlySortedBy}
use Rattle.std.specs.Option.{option_map_or}
use Rattle.std.specs.Ordering.{nat_cmp}
use Rattle.cm_net.specs.declared.boundary.Boundary.{Boundary}
use Rattle.cm_net.specs.declared.entry.Entry.{Entry}
use Rattle.cm_net.specs.Boundaries.{holds_site, is_site, rows_of}
use Rattle.cm_net.specs.Entries.{keys_in, last_groups}
use Rattle.cm_net.specs.Groups.{numbers_of, IsRisingOf}

-- what the last site of that name has
abbrev pub groups_of_site : List (Entry (List ℕ)) → List ℕ → List ℕ
groups_of_site sites name = last_groups (bytes_eq name) sites

-- what a map has for a site, and nothing where it has no entry
abbrev pub numbers_there : Option (Vec ℕ Global) → List ℕ
numbers_there numbers = option_map_or (λ list. list.items) numbers []

-- the site has an entry at that place
abbrev pub IsNamedAt : List (List ℕ × Vec ℕ Global) → ℕ → List ℕ → Type 0
IsNamedAt entries place name = option_map (λ entry. entry.0) (slice_get entries place) ≡ Some name

-- an entry of the site has the number
abbrev pub is_numbered : List (List ℕ × Vec ℕ Global) → List ℕ → ℕ → Bool
is_numbered entries site number = list_any (λ entry. bytes_eq entry.0 site && list_any (λ other. other == number) entry.1.items) entries

-- the entries have for each site the numbers of the rows that hold its clients
abbrev pub HaveNumbersOf : List (Boundary × ℕ) → List (List ℕ × Vec ℕ Global) → Type 0
HaveNumbersOf rows entries = (name : List ℕ) (number : ℕ) → is_numbered entries name number ≡ list_any (λ other. other == number) (numbers_of (λ boundary. holds_site boundary (Some name)) rows)

-- the numbers that entries have for the site
abbrev pub numbers_for : List (List ℕ × Vec ℕ Global) → List ℕ → List ℕ
numbers_for entries site = flat_map (λ entry. if bytes_eq site entry.0 then entry.1.items else []) entries

-- The sites of entries, in the order of their names, with the numbers that the entries have for each.
pub record AreSitesIn (entries : List (List ℕ × Vec ℕ Global)) (sites : List (Entry (List ℕ))) : Type 0 where
  pub right : (name : List ℕ) → IsRisingOf (numbers_for entries name) (groups_of_site sites name)
  pub order : IsStrictlySortedBy (slice_cmp nat_cmp) (keys_in sites)
  pub few : length sites ≤ length entries

-- The sites, in the order of their names. For each name they have the numbers of the rows that hold the clients of that site.
pub record AreSitesOf (rows : List (Boundary × ℕ)) (sites : List (Entry (List ℕ))) : Type 0 where
  pub right : (name : List ℕ) → IsRisingOf (numbers_of (λ boundary. holds_site boundary (Some name)) rows) (groups_of_site sites name)
  pub order : IsStrictlySortedBy (slice_cmp nat_cmp) (keys_in sites)
  pub few : length sites ≤ rows_of is_site rows
