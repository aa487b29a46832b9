-- How often hashes are named, and which of them are sealed.
use Rattle.std.specs.Prelude.{◌≡◌, ℕ, ◌+◌, ◌==◌, cond, List, Option, None, Some, count_by, sum_by, map}
use Rattle.std.specs.BTreeMap.{get, is_at}
use Rattle.std.specs.Map.{lookup}
use Rattle.std.specs.Cmp.Lexicographic.{slice_cmp}
use Rattle.std.specs.Ordering.{nat_cmp}
use Rattle.std.specs.declared.cmp.Ordering.{Ordering}
use Rattle.std.specs.Str.{bytes_eq}
use Rattle.cm_base.specs.declared.hash.Hash.{Hash}
use Rattle.cm_tree.specs.declared.entry.Entry.{Entry}
use Rattle.cm_pkglib.specs.declared.counts.Seal.{Seal}
use Rattle.cm_pkglib.specs.declared.counts.Named.{Named}
use Rattle.cm_pkglib.specs.declared.counts.Counts.{Counts}

-- the order of hashes
abbrev pub hash_cmp : Hash → Hash → Ordering
hash_cmp a b = slice_cmp nat_cmp a.0 b.0

abbrev pub count_in : Option Named → ℕ
count_in None = 0
count_in (Some named) = named.count

abbrev pub seal_in : Option Named → Option Seal
seal_in None = None
seal_in (Some named) = named.sealed

-- how often a hash is named
abbrev pub count_of : Counts → Hash → ℕ
count_of counts hash = count_in (get hash_cmp counts.hashes hash)

-- the seal of a hash, none where it is not sealed
abbrev pub sealed_of : Counts → Hash → Option Seal
sealed_of counts hash = seal_in (get hash_cmp counts.hashes hash)

-- how many entries of a manifest name a hash
abbrev pub times : Hash → List Entry → ℕ
times hash entries = count_by (λ (entry : Entry). bytes_eq entry.hash.0 hash.0) entries

-- each count is that over all manifests, counted from scratch
abbrev pub CountsAll : Counts → List (List Entry) → Type 0
CountsAll counts manifests = (hash : Hash) → count_of counts hash ≡ sum_by (times hash) manifests

-- the seal of a hash that is named so often: none where it is named no more
abbrev pub seal_kept : ℕ → Option Seal → Option Seal
seal_kept count seal = cond (count == 0) None seal

-- the hashes that are named, each with its seal
abbrev pub seals_in : Counts → List (Hash × Option Seal)
seals_in counts = map (λ (e : Hash × Named). (e.0, e.1.sealed)) counts.hashes.entries

abbrev pub seal_there : Option (Option Seal) → Option Seal
seal_there None = None
seal_there (Some seal) = seal

-- the seal of a hash in such a list
abbrev pub seal_at : List (Hash × Option Seal) → Hash → Option Seal
seal_at seals hash = seal_there (lookup (is_at (hash_cmp hash)) seals)
