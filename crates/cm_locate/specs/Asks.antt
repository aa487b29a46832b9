-- What a client asks for, and what is near it.
use Rattle.std.specs.Prelude.{ℕ, ◌≤◌, Bool, false, List, Option, Some, None}
use Rattle.std.specs.Option.{option_map_or}
use Rattle.std.specs.Str.{bytes_eq}
use Rattle.cm_net.specs.declared.address.Address.{Address}
use Rattle.cm_net.specs.declared.address.Address.TheVariants.{V4, V6}
use Rattle.cm_net.specs.Boundaries.{same_first_bits}
use Rattle.cm_locate.specs.declared.ask.Ask.{Ask}

-- no more bits than the family has
abbrev pub IsPrefix : Address → ℕ → Type 0
IsPrefix (V4 number) bits = bits ≤ 32
IsPrefix (V6 number) bits = bits ≤ 128

-- two addresses are of one family, and their first so many bits are equal
abbrev pub same_subnet : ℕ → Address → Address → Bool
same_subnet bits (V4 number) (V4 other) = same_first_bits 32 bits number other
same_subnet bits (V4 number) (V6 other) = false
same_subnet bits (V6 number) (V4 other) = false
same_subnet bits (V6 number) (V6 other) = same_first_bits 128 bits number other

-- two sites are given, and equal
abbrev pub same_site : Option (List ℕ) → Option (List ℕ) → Bool
same_site None other = false
same_site (Some site) None = false
same_site (Some site) (Some other) = bytes_eq site other

-- the computer that asks has this name
abbrev pub is_asking : Ask → List ℕ → Bool
is_asking ask name = option_map_or (λ computer. bytes_eq computer name) ask.computer false

-- the address is in the client's subnet
abbrev pub is_near : Ask → Address → Bool
is_near ask address = same_subnet ask.prefix ask.address address

-- the site is the client's
abbrev pub is_of_site : Ask → Option (List ℕ) → Bool
is_of_site ask site = same_site ask.site site
