-- The numbers that texts are: decimal digits without sign and without leading zeros.
use Rattle.std.specs.Prelude.{ℕ, ◌^◌, ◌-◌, ◌&&◌, nat_le, if◌then◌else◌, List, Option, None, Some}
use Rattle.std.specs.Fmt.{decimal}
use Rattle.std.specs.Str.{bytes_eq}
use Rattle.std.specs.Str.Parse.{digits_value}

-- the number from least to most whose decimal digits the text is
abbrev pub number_within : ℕ → ℕ → List ℕ → Option ℕ
number_within least most text = let number = digits_value 10 text in
    if nat_le least number && nat_le number most && bytes_eq text (decimal number) then Some number else None

-- the number of a job, from 1 to 2^64 - 1
abbrev pub job_of : List ℕ → Option ℕ
job_of text = number_within 1 (2 ^ 64 - 1) text

-- the number of a version, from 1 to 2^32 - 1
abbrev pub version_of : List ℕ → Option ℕ
version_of text = number_within 1 (2 ^ 32 - 1) text
