-- The numbers of the first entries of hashes.
use Rattle.std.specs.Prelude.{◌≡◌, ℕ, List, Option, None, Some, option_map}
use Rattle.std.specs.BTreeMap.{get}
use Rattle.cm_base.specs.declared.hash.Hash.{Hash}
use Rattle.cm_pkglib.specs.Counts.{hash_cmp}
use Rattle.cm_tree.specs.declared.entry.Entry.{Entry}
use Rattle.cm_intake.specs.Readings.{first_with}
use Rattle.cm_intake.specs.declared.firsts.Firsts.{Firsts}

-- the number of the first entry that has a hash, of entries of which the first has number n
abbrev pub number_in : Hash → ℕ → List Entry → Option ℕ
number_in hash n entries = option_map (λ (numbered : ℕ × Entry). numbered.0) (first_with hash n entries)

-- the number that a hash had, or that of its first entry
abbrev pub found_number : Option ℕ → Hash → ℕ → List Entry → Option ℕ
found_number (Some number) hash n entries = Some number
found_number None hash n entries = number_in hash n entries

-- the number that is kept of a hash
abbrev pub number_of : Firsts → Hash → Option ℕ
number_of firsts hash = get hash_cmp firsts.numbers hash

-- each hash has the number of its first entry
abbrev pub AreFirsts : Firsts → List Entry → Type 0
AreFirsts firsts entries = (hash : Hash) → number_of firsts hash ≡ number_in hash 0 entries
