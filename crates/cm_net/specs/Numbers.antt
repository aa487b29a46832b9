-- Numbers made of parts.
use Rattle.std.specs.Prelude.{ℕ, ◌+◌, ◌*◌, List, fold}

-- the number that the parts of an IPv4 address make, the first one highest
abbrev pub number4 : List ℕ → ℕ
number4 parts = fold (λ n part. n * 256 + part) 0 parts

-- the number that the groups of an IPv6 address make, the first one highest
abbrev pub number6 : List ℕ → ℕ
number6 groups = fold (λ n group. n * 65536 + group) 0 groups
