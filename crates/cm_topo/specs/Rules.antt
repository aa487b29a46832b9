-- The rules of a topology by their numbers, and how many entries there may be.
use Rattle.std.specs.Prelude.{ℕ}

abbrev pub bad_address : ℕ
bad_address = 1

abbrev pub same_name : ℕ
same_name = 6

abbrev pub no_such_group : ℕ
no_such_group = 7

abbrev pub no_such_boundary : ℕ
no_such_boundary = 8

abbrev pub self_relation : ℕ
self_relation = 9

abbrev pub same_relation : ℕ
same_relation = 10

abbrev pub too_long_fallback : ℕ
too_long_fallback = 11

abbrev pub no_such_point : ℕ
no_such_point = 12

abbrev pub pull_from_itself : ℕ
pull_from_itself = 13

abbrev pub no_pull_source : ℕ
no_pull_source = 14

abbrev pub too_many : ℕ
too_many = 15

abbrev pub bad_name : ℕ
bad_name = 16

-- how many relations a group may have
abbrev pub most_relations : ℕ
most_relations = 64

-- how many minutes a relation may have
abbrev pub most_minutes : ℕ
most_minutes = 10000
