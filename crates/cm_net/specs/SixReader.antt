-- Reading an IPv6 address, byte by byte.
use Rattle.std.specs.Prelude.{ℕ, ◌+◌, ◌-◌, ◌*◌, ◌^◌, nat_lt, ◌==◌, length, Option, Some, None, if◌then◌else◌}
use Rattle.cm_net.specs.Addresses.{hex_of}
use Rattle.cm_net.specs.Numbers.{number6}
use Rattle.cm_net.specs.declared.six_reader.SixReader.{SixReader}
use Rattle.cm_net.specs.declared.six_reader.Place.{Place}
use Rattle.cm_net.specs.declared.six_reader.Place.TheVariants.{Start, Colon, Group, Next, Gap, LastGroup, LastNext}

-- where the reader stands; how many whole groups there are before the `::` and behind it, and the numbers that they make;
-- and the digits of the group that is begun
pub record Six : Type 0 where
  pub place : Place
  pub count : ℕ
  pub value : ℕ
  pub last_count : ℕ
  pub last_value : ℕ
  pub digits : ℕ
  pub number : ℕ

abbrev pub six_of : SixReader → Six
six_of reader = record {
  place = reader.place;
  count = length reader.left.items;
  value = number6 reader.left.items;
  last_count = length reader.right.items;
  last_value = number6 reader.right.items;
  digits = reader.digits;
  number = reader.number;
}

-- nothing was read
abbrev pub start6 : Six
start6 = record { place = Start; count = 0; value = 0; last_count = 0; last_value = 0; digits = 0; number = 0 }

-- a group is begun
abbrev pub begun : Six → Place → ℕ → Six
begun s place d = record s { place = place; digits = 1; number = d }

-- a group goes on, where it has not four digits yet
abbrev pub longer_group : Six → ℕ → Option Six
longer_group s d = if nat_lt s.digits 4 then Some (record s { digits = s.digits + 1; number = s.number * 16 + d }) else None

-- the state behind a hexadecimal digit, where an address can still come
abbrev pub digit_at : Place → Six → ℕ → Option Six
digit_at Start s d = Some (begun s Group d)
digit_at Colon s d = None
digit_at Group s d = longer_group s d
digit_at Next s d = Some (begun s Group d)
digit_at Gap s d = if nat_lt (s.count + s.last_count) 7 then Some (begun s LastGroup d) else None
digit_at LastGroup s d = longer_group s d
digit_at LastNext s d = Some (begun s LastGroup d)

-- the state behind a `:`, where an address can still come
abbrev pub colon_at : Place → Six → Option Six
colon_at Start s = Some (record s { place = Colon })
colon_at Colon s = Some (record s { place = Gap })
colon_at Group s = if nat_lt (s.count + s.last_count) 7 then Some (record s { place = Next; count = s.count + 1; value = s.value * 65536 + s.number }) else None
colon_at Next s = Some (record s { place = Gap })
colon_at Gap s = None
colon_at LastGroup s = if nat_lt (s.count + s.last_count) 6 then Some (record s { place = LastNext; last_count = s.last_count + 1; last_value = s.last_value * 65536 + s.number }) else None
colon_at LastNext s = None

abbrev pub by_digit6 : Six → ℕ → Option ℕ → Option Six
by_digit6 s b None = if b == 58 then colon_at s.place s else None
by_digit6 s b (Some d) = digit_at s.place s d

-- the state behind a further byte, where an address can still come
abbrev pub step6 : Six → ℕ → Option Six
step6 s b = by_digit6 s b (hex_of b)

-- the address that was read, where it is whole
abbrev pub final_at : Place → Six → Option ℕ
final_at Start s = None
final_at Colon s = None
final_at Group s = if s.count == 7 then Some (s.value * 65536 + s.number) else None
final_at Next s = None
final_at Gap s = Some (s.value * 65536 ^ (8 - s.count) + s.last_value)
final_at LastGroup s = Some (s.value * 65536 ^ (8 - s.count) + (s.last_value * 65536 + s.number))
final_at LastNext s = None

abbrev pub final6 : Six → Option ℕ
final6 s = final_at s.place s
