-- The texts of addresses: IPv4 as in RFC 791's dotted decimal, IPv6 as in RFC 4291 section 2.2, without its third form.
use Rattle.std.specs.Prelude.{◌≡◌, ℕ, ◌+◌, ◌-◌, ◌*◌, ◌/◌, ◌%◌, ◌^◌, ◌<◌, ◌≤◌, nat_lt, nat_le, ◌&&◌, ◌⊎◌, List, [], ◌∷◌, ◌++◌, length, Option, Some, None, if◌then◌else◌, zero, suc}
use Rattle.std.specs.Option.{option_and_then}
use Rattle.cm_base.specs.Names.{is_digit}
use Rattle.cm_net.specs.declared.address.Address.{Address}
use Rattle.cm_net.specs.declared.address.Address.TheVariants.{V4, V6}

-- a number below 1000 in decimal, without leading zeros
abbrev pub decimal : ℕ → List ℕ
decimal n =
    if nat_lt n 10 then (48 + n) ∷ []
    else if nat_lt n 100 then (48 + n / 10) ∷ (48 + n % 10) ∷ []
    else (48 + n / 100) ∷ (48 + n / 10 % 10) ∷ (48 + n % 10) ∷ []

-- a part of an IPv4 address: 0 to 255 in decimal
pub record IsPart (text : List ℕ) (n : ℕ) : Type 0 where
  pub small : n < 256
  pub spelled : text ≡ decimal n

-- what a hexadecimal digit of either case stands for
abbrev pub hex_of : ℕ → Option ℕ
hex_of b =
    if is_digit b then Some (b - 48)
    else if nat_le 97 b && nat_le b 102 then Some (b - 87)
    else if nat_le 65 b && nat_le b 70 then Some (b - 55)
    else None

-- the number whose hexadecimal digits are those of n and then these
abbrev pub hex_from : ℕ → List ℕ → Option ℕ
hex_from n [] = Some n
hex_from n (b ∷ text) = option_and_then (λ d. hex_from (n * 16 + d) text) (hex_of b)

-- a group of an IPv6 address: 1 to 4 hexadecimal digits
pub record IsGroup (text : List ℕ) (n : ℕ) : Type 0 where
  pub some : 1 ≤ length text
  pub few : length text ≤ 4
  pub spelled : hex_from 0 text ≡ Some n

-- so many items with a separator between each two, and the number that they make, the first one highest
abbrev pub Joined : (List ℕ → ℕ → Type 0) → ℕ → ℕ → ℕ → List ℕ → ℕ → Type 0
Joined Item separator base zero text n = (text ≡ []) × (n ≡ 0)
Joined Item separator base (suc zero) text n = Item text n
Joined Item separator base (suc (suc k)) text n =
    (front last : List ℕ) × (high low : ℕ) × Joined Item separator base (suc k) front high × Item last low
    × (text ≡ front ++ separator ∷ last) × (n ≡ high * base + low)

-- four parts, joined by `.`
abbrev pub IsFour : List ℕ → ℕ → Type 0
IsFour text n = Joined IsPart 46 256 4 text n

-- so many groups, joined by `:`
abbrev pub AreGroups : ℕ → List ℕ → ℕ → Type 0
AreGroups count text n = Joined IsGroup 58 65536 count text n

-- fewer than eight groups, with `::` in place of the others, which are zero
pub record HasGap (text : List ℕ) (n : ℕ) : Type 0 where
  pub before : ℕ
  pub after : ℕ
  pub fewer : before + after < 8
  pub front : List ℕ
  pub back : List ℕ
  pub high : ℕ
  pub low : ℕ
  pub first : AreGroups before front high
  pub last : AreGroups after back low
  pub spelled : text ≡ front ++ 58 ∷ 58 ∷ back
  pub number : n ≡ high * 65536 ^ (8 - before) + low

-- eight groups, or fewer with one `::`
abbrev pub IsSix : List ℕ → ℕ → Type 0
IsSix text n = AreGroups 8 text n ⊎ HasGap text n

-- the text of an address
abbrev pub IsAddress : List ℕ → Address → Type 0
IsAddress text (V4 n) = IsFour text n
IsAddress text (V6 n) = IsSix text n
