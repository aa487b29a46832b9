-- How an address is written: IPv4 in decimal, IPv6 as eight groups in small letters, no leading zeros and no `::`.
use Rattle.std.specs.Prelude.{ℕ, ◌+◌, ◌/◌, ◌%◌, nat_lt, List, [], ◌∷◌, ◌++◌, if◌then◌else◌, zero, suc}
use Rattle.cm_net.specs.declared.address.Address.{Address}
use Rattle.cm_net.specs.declared.address.Address.TheVariants.{V4, V6}
use Rattle.cm_net.specs.Addresses.{decimal}

-- a hexadecimal digit in small letters
abbrev pub hex_digit : ℕ → ℕ
hex_digit d = if nat_lt d 10 then 48 + d else 87 + d

-- the last so many hexadecimal digits of a number
abbrev pub hex_digits : ℕ → ℕ → List ℕ
hex_digits zero n = []
hex_digits (suc count) n = hex_digits count (n / 16) ++ hex_digit (n % 16) ∷ []

-- how many hexadecimal digits a number of at most four has without leading zeros
abbrev pub hex_count : ℕ → ℕ
hex_count n = if nat_lt n 16 then 1 else if nat_lt n 256 then 2 else if nat_lt n 4096 then 3 else 4

-- a number of at most four hexadecimal digits, without leading zeros
abbrev pub hexadecimal : ℕ → List ℕ
hexadecimal n = hex_digits (hex_count n) n

-- so many items with a separator between each two: the last so many digits of a number in a base, the first one highest
abbrev pub joined_text : (ℕ → List ℕ) → ℕ → ℕ → ℕ → ℕ → List ℕ
joined_text item separator base zero n = []
joined_text item separator base (suc zero) n = item (n % base)
joined_text item separator base (suc (suc k)) n = joined_text item separator base (suc k) (n / base) ++ separator ∷ item (n % base)

-- the one spelling of an address
abbrev pub address_text : Address → List ℕ
address_text (V4 n) = joined_text decimal 46 256 4 n
address_text (V6 n) = joined_text hexadecimal 58 65536 8 n
