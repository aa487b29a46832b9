-- A worked example: the folder of `a.txt` (`abc`), `bin/empty` (nothing) and `readme` (`hello`), added as PS100001 to a new library.
-- The bytes were computed by another program.
use Rattle.std.specs.Prelude.{ℕ, List, [], ◌∷◌, ◌++◌, codes}
use Rattle.cm_log.specs.Records.{spelled as spelled_records}
use Rattle.cm_pkglib.specs.declared.change.Change.{Change}
use Rattle.cm_pkglib.specs.declared.change.Change.TheVariants.{Opened, Done}
use Rattle.cm_pkglib.specs.Changes.{spelled}
use Rattle.cm_tree.specs.declared.entry.Entry.{Entry}

-- the SHA-256 of `abc`, of nothing and of `hello`
abbrev pub hash_of_abc : List ℕ
hash_of_abc = 186 ∷ 120 ∷ 22 ∷ 191 ∷ 143 ∷ 1 ∷ 207 ∷ 234 ∷ 65 ∷ 65 ∷ 64 ∷ 222 ∷ 93 ∷ 174 ∷ 34 ∷ 35 ∷ 176 ∷ 3 ∷ 97 ∷ 163 ∷ 150 ∷ 23 ∷ 122 ∷ 156 ∷ 180 ∷ 16 ∷ 255 ∷ 97 ∷ 242 ∷ 0 ∷ 21 ∷ 173 ∷ []

abbrev pub hash_of_nothing : List ℕ
hash_of_nothing = 227 ∷ 176 ∷ 196 ∷ 66 ∷ 152 ∷ 252 ∷ 28 ∷ 20 ∷ 154 ∷ 251 ∷ 244 ∷ 200 ∷ 153 ∷ 111 ∷ 185 ∷ 36 ∷ 39 ∷ 174 ∷ 65 ∷ 228 ∷ 100 ∷ 155 ∷ 147 ∷ 76 ∷ 164 ∷ 149 ∷ 153 ∷ 27 ∷ 120 ∷ 82 ∷ 184 ∷ 85 ∷ []

abbrev pub hash_of_hello : List ℕ
hash_of_hello = 44 ∷ 242 ∷ 77 ∷ 186 ∷ 95 ∷ 176 ∷ 163 ∷ 14 ∷ 38 ∷ 232 ∷ 59 ∷ 42 ∷ 197 ∷ 185 ∷ 226 ∷ 158 ∷ 27 ∷ 22 ∷ 30 ∷ 92 ∷ 31 ∷ 167 ∷ 66 ∷ 94 ∷ 115 ∷ 4 ∷ 51 ∷ 98 ∷ 147 ∷ 139 ∷ 152 ∷ 36 ∷ []

-- the manifest of the three files
abbrev pub three_entries : List Entry
three_entries =
    record { path = codes "a.txt"; size = 3; hash = record { 0 = hash_of_abc } } ∷
    record { path = codes "bin/empty"; size = 0; hash = record { 0 = hash_of_nothing } } ∷
    record { path = codes "readme"; size = 5; hash = record { 0 = hash_of_hello } } ∷ []

-- its 140 bytes
abbrev pub three_manifest : List ℕ
three_manifest = 67 ∷ 77 ∷ 68 ∷ 76 ∷ 1 ∷ 3 ∷ 0 ∷ 0 ∷ 0 ∷ 5 ∷ 97 ∷ 46 ∷ 116 ∷ 120 ∷ 116 ∷ 3 ∷ 0 ∷ 0 ∷ 0 ∷ 186 ∷ 120 ∷ 22 ∷ 191 ∷ 143 ∷ 1 ∷ 207 ∷ 234 ∷ 65 ∷ 65 ∷ 64 ∷ 222 ∷ 93 ∷ 174 ∷ 34 ∷ 35 ∷ 176 ∷ 3 ∷ 97 ∷ 163 ∷ 150 ∷ 23 ∷ 122 ∷ 156 ∷ 180 ∷ 16 ∷ 255 ∷ 97 ∷ 242 ∷ 0 ∷ 21 ∷ 173 ∷ 9 ∷ 98 ∷ 105 ∷ 110 ∷ 47 ∷ 101 ∷ 109 ∷ 112 ∷ 116 ∷ 121 ∷ 0 ∷ 0 ∷ 0 ∷ 0 ∷ 227 ∷ 176 ∷ 196 ∷ 66 ∷ 152 ∷ 252 ∷ 28 ∷ 20 ∷ 154 ∷ 251 ∷ 244 ∷ 200 ∷ 153 ∷ 111 ∷ 185 ∷ 36 ∷ 39 ∷ 174 ∷ 65 ∷ 228 ∷ 100 ∷ 155 ∷ 147 ∷ 76 ∷ 164 ∷ 149 ∷ 153 ∷ 27 ∷ 120 ∷ 82 ∷ 184 ∷ 85 ∷ 6 ∷ 114 ∷ 101 ∷ 97 ∷ 100 ∷ 109 ∷ 101 ∷ 5 ∷ 0 ∷ 0 ∷ 0 ∷ 44 ∷ 242 ∷ 77 ∷ 186 ∷ 95 ∷ 176 ∷ 163 ∷ 14 ∷ 38 ∷ 232 ∷ 59 ∷ 42 ∷ 197 ∷ 185 ∷ 226 ∷ 158 ∷ 27 ∷ 22 ∷ 30 ∷ 92 ∷ 31 ∷ 167 ∷ 66 ∷ 94 ∷ 115 ∷ 4 ∷ 51 ∷ 98 ∷ 147 ∷ 139 ∷ 152 ∷ 36 ∷ []

-- the SHA-256 of these
abbrev pub three_hash : List ℕ
three_hash = 6 ∷ 18 ∷ 59 ∷ 39 ∷ 247 ∷ 255 ∷ 190 ∷ 79 ∷ 200 ∷ 57 ∷ 211 ∷ 151 ∷ 253 ∷ 178 ∷ 161 ∷ 119 ∷ 138 ∷ 76 ∷ 111 ∷ 111 ∷ 21 ∷ 66 ∷ 191 ∷ 17 ∷ 236 ∷ 185 ∷ 245 ∷ 4 ∷ 12 ∷ 119 ∷ 103 ∷ 67 ∷ []

-- the two records of the library's log
abbrev pub three_opened : Change
three_opened = Opened 1 (codes "PS100001") 1 3 140 (record { 0 = three_hash })

abbrev pub three_done : Change
three_done = Done 1

-- the head of a live log of generation 1
abbrev pub live_head : List ℕ
live_head = 1 ∷ 1 ∷ 1 ∷ 0 ∷ 0 ∷ 0 ∷ 0 ∷ 0 ∷ 0 ∷ 0 ∷ []

-- the log as its grammar spells it, and its 91 bytes
abbrev pub spelled_log : List ℕ
spelled_log = live_head ++ (spelled_records (spelled three_opened ∷ spelled three_done ∷ []) ++ 0 ∷ [])

abbrev pub three_log : List ℕ
three_log = 1 ∷ 1 ∷ 1 ∷ 0 ∷ 0 ∷ 0 ∷ 0 ∷ 0 ∷ 0 ∷ 0 ∷ 1 ∷ 61 ∷ 0 ∷ 0 ∷ 0 ∷ 1 ∷ 1 ∷ 0 ∷ 0 ∷ 0 ∷ 0 ∷ 0 ∷ 0 ∷ 0 ∷ 80 ∷ 83 ∷ 49 ∷ 48 ∷ 48 ∷ 48 ∷ 48 ∷ 49 ∷ 1 ∷ 0 ∷ 0 ∷ 0 ∷ 3 ∷ 0 ∷ 0 ∷ 0 ∷ 140 ∷ 0 ∷ 0 ∷ 0 ∷ 6 ∷ 18 ∷ 59 ∷ 39 ∷ 247 ∷ 255 ∷ 190 ∷ 79 ∷ 200 ∷ 57 ∷ 211 ∷ 151 ∷ 253 ∷ 178 ∷ 161 ∷ 119 ∷ 138 ∷ 76 ∷ 111 ∷ 111 ∷ 21 ∷ 66 ∷ 191 ∷ 17 ∷ 236 ∷ 185 ∷ 245 ∷ 4 ∷ 12 ∷ 119 ∷ 103 ∷ 67 ∷ 1 ∷ 9 ∷ 0 ∷ 0 ∷ 0 ∷ 2 ∷ 1 ∷ 0 ∷ 0 ∷ 0 ∷ 0 ∷ 0 ∷ 0 ∷ 0 ∷ 0 ∷ []
