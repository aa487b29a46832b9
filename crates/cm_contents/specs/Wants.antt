-- The files that a job wants.
use Rattle.std.specs.Prelude.{◌≡◌, ◌⊎◌, ℕ, Bool, true, false, not, is_some, ◌&&◌, List, Option, None, Some, option_map, find}
use Rattle.std.specs.List.{AllByRecursion}
use Rattle.std.specs.BTreeMap.{get}
use Rattle.std.specs.Cmp.Lexicographic.{slice_cmp}
use Rattle.std.specs.Ordering.{nat_cmp}
use Rattle.std.specs.Str.{bytes_eq}
use Rattle.std.specs.declared.cmp.Ordering.TheVariants.{Less}
use Rattle.std.specs.declared.ops.Bound.{Bound}
use Rattle.std.specs.declared.ops.Bound.TheVariants.{Excluded, Unbounded}
use Rattle.cm_base.specs.declared.hash.Hash.{Hash}
use Rattle.cm_disk.specs.Disk.{is_above}
use Rattle.cm_pkglib.specs.Counts.{hash_cmp}
use Rattle.cm_pkglib.specs.declared.counts.Seal.{Seal}
use Rattle.cm_tree.specs.declared.entry.Entry.{Entry}
use Rattle.cm_contents.specs.Seals.{is_stored}
use Rattle.cm_contents.specs.declared.wants.Wants.{Wants}

-- the size of the first entry of a manifest that has this hash
abbrev pub size_in : Hash → List Entry → Option ℕ
size_in hash manifest = option_map (λ (entry : Entry). entry.size) (find (λ (entry : Entry). bytes_eq entry.hash.0 hash.0) manifest)

-- the size that is wanted of a hash, none where it is not wanted
abbrev pub size_of : Wants → Hash → Option ℕ
size_of wants hash = get hash_cmp wants.sizes hash

-- the size of a hash that had one, or that of the first entry
abbrev pub found_size : Option ℕ → Hash → List Entry → Option ℕ
found_size (Some size) hash entries = Some size
found_size None hash entries = size_in hash entries

-- the size that is wanted of a hash by what is found for a job, none where nothing is found
abbrev pub size_for : Option Wants → Hash → Option ℕ
size_for None hash = None
size_for (Some wants) hash = size_of wants hash

-- what is found for a job has each hash of its manifest, and no other
abbrev pub HasHashes : Option Wants → List Entry → Type 0
HasHashes found manifest = (hash : Hash) → size_for found hash ≡ size_in hash manifest

-- where the hashes above another begin
abbrev pub bound_above : Option Hash → Bound Hash
bound_above None = Unbounded
bound_above (Some after) = Excluded after

-- a hash is above another in byte order, or there is no other
abbrev pub is_hash_above : Option Hash → Hash → Bool
is_hash_above after hash = is_above (option_map (λ (h : Hash). h.0) after) hash.0

-- the hash of an entry is above another, and not sealed
abbrev pub is_wanted : (Hash → Option Seal) → Option Hash → Entry → Bool
is_wanted seals after entry = is_hash_above after entry.hash && not (is_some (seals entry.hash))

-- the least hash of a manifest that is above another and not sealed, and the size of its first entry
pub record IsLeastWanted (seals : Hash → Option Seal) (manifest : List Entry) (after : Option Hash) (hash : Hash) (size : ℕ) : Type 0 where
  pub sized : size_in hash manifest ≡ Some size
  pub above : is_hash_above after hash ≡ true
  pub unsealed : seals hash ≡ None
  pub least : AllByRecursion (λ (entry : Entry). is_wanted seals after entry ≡ true → (entry.hash ≡ hash) ⊎ (slice_cmp nat_cmp hash.0 entry.hash.0 ≡ Less)) manifest

-- that hash with its size, none where no entry is wanted
abbrev pub IsNextWanted : (Hash → Option Seal) → List Entry → Option Hash → Option (Hash × ℕ) → Type 0
IsNextWanted seals manifest after None = AllByRecursion (λ (entry : Entry). is_wanted seals after entry ≡ false) manifest
IsNextWanted seals manifest after (Some next) = IsLeastWanted seals manifest after next.0 next.1

-- an entry's size is that of the first entry of its hash, and the one with which the hash is sealed if it is
pub record HasOneSize (seals : Hash → Option Seal) (manifest : List Entry) (entry : Entry) : Type 0 where
  pub first : size_in entry.hash manifest ≡ Some entry.size
  pub sealed : (seals entry.hash ≡ None) ⊎ (is_stored seals entry ≡ true)

-- each hash has one size, among the entries and where it is sealed
abbrev pub HaveOneSize : (Hash → Option Seal) → List Entry → Type 0
HaveOneSize seals manifest = AllByRecursion (HasOneSize seals manifest) manifest
