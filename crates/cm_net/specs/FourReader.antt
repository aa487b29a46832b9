-- Reading an IPv4 address, byte by byte.
use Rattle.std.specs.Prelude.{ℕ, ◌+◌, ◌-◌, ◌*◌, nat_lt, ◌==◌, length, Option, Some, None, if◌then◌else◌}
use Rattle.cm_base.specs.Names.{is_digit}
use Rattle.cm_net.specs.Numbers.{number4}
use Rattle.cm_net.specs.declared.four_reader.FourReader.{FourReader}

-- how many parts are read, the number that they make, and the part that is begun
pub record Four : Type 0 where
  pub count : ℕ
  pub value : ℕ
  pub part : Option ℕ

abbrev pub four_of : FourReader → Four
four_of reader = record { count = length reader.parts.items; value = number4 reader.parts.items; part = reader.part }

-- nothing was read
abbrev pub start4 : Four
start4 = record { count = 0; value = 0; part = None }

-- a part with a further digit, where there is such a part
abbrev pub longer_part : Option ℕ → ℕ → Option ℕ
longer_part None d = Some d
longer_part (Some p) d = if p == 0 then None else if nat_lt (p * 10 + d) 256 then Some (p * 10 + d) else None

-- the same state with another part, where there is one
abbrev pub with_part : Four → Option ℕ → Option Four
with_part s None = None
with_part s (Some p) = Some (record { count = s.count; value = s.value; part = Some p })

-- a dot behind it
abbrev pub next_part : Four → Option ℕ → Option Four
next_part s None = None
next_part s (Some p) = if nat_lt s.count 3 then Some (record { count = s.count + 1; value = s.value * 256 + p; part = None }) else None

-- the state behind a further byte, where an address can still come
abbrev pub step4 : Four → ℕ → Option Four
step4 s b =
    if is_digit b then with_part s (longer_part s.part (b - 48))
    else if b == 46 then next_part s s.part
    else None

-- the address that was read, where it is whole
abbrev pub whole4 : ℕ → ℕ → Option ℕ → Option ℕ
whole4 count value None = None
whole4 count value (Some p) = if count == 3 then Some (value * 256 + p) else None

abbrev pub final4 : Four → Option ℕ
final4 s = whole4 s.count s.value s.part

-- the part that is begun, where no whole part is before it
abbrev pub lone4 : Four → Option ℕ
lone4 s = if s.count == 0 then s.part else None
