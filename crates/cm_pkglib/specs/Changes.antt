-- The records of a library's log: a change and its bytes.
use Rattle.std.specs.Prelude.{◌≡◌, ℕ, ◌<◌, ◌≤◌, ◌^◌, ◌==◌, ◌&&◌, nat_le, if◌then◌else◌, cond, true, List, [], ◌∷◌, ◌++◌, length, take, drop, slice_index, Option, None, Some}
use Rattle.std.specs.Int.{w32, w64, to_le_bytes, from_le_bytes}
use Rattle.cm_base.specs.Names.{is_package_id, text_if}
use Rattle.cm_base.specs.declared.hash.Hash.{Hash}
use Rattle.cm_pkglib.specs.declared.change.Change.{Change}
use Rattle.cm_pkglib.specs.declared.change.Change.TheVariants.{Opened, Done, Dropped, Removed}

-- the one spelling of a change: its kind, and its fields, numbers little-endian
abbrev pub spelled : Change → List ℕ
spelled (Opened job id version entries size hash) = 1 ∷ to_le_bytes w64 job ++ id ++ to_le_bytes w32 version ++ to_le_bytes w32 entries ++ to_le_bytes w32 size ++ hash.0
spelled (Done job) = 2 ∷ to_le_bytes w64 job
spelled (Dropped job) = 3 ∷ to_le_bytes w64 job
spelled (Removed id version) = 4 ∷ id ++ to_le_bytes w32 version

-- a number of a job: eight bytes, at least 1
abbrev pub IsJob : ℕ → Type 0
IsJob job = (1 ≤ job) × (job < 2 ^ 64)

-- a version: four bytes, at least 1
abbrev pub IsVersion : ℕ → Type 0
IsVersion version = (1 ≤ version) × (version < 2 ^ 32)

-- the fields of a change are in their ranges
abbrev pub IsChange : Change → Type 0
IsChange (Opened job id version entries size hash) = IsJob job × (is_package_id id ≡ true) × IsVersion version × (entries < 2 ^ 32) × (size < 2 ^ 32) × (length hash.0 ≡ 32)
IsChange (Done job) = IsJob job
IsChange (Dropped job) = IsJob job
IsChange (Removed id version) = (is_package_id id ≡ true) × IsVersion version

-- each number is a byte
abbrev pub AreBytes : List ℕ → Type 0
AreBytes bytes = (i : ℕ) → slice_index bytes i < 2 ^ 8

-- these bytes are the record of that change
pub record IsRecord (change : Change) (bytes : List ℕ) : Type 0 where
  pub ranges : IsChange change
  pub spelling : bytes ≡ spelled change

-- the number in the four or eight bytes from a place on
abbrev pub number_4 : ℕ → List ℕ → ℕ
number_4 at bytes = from_le_bytes w32 (take 4 (drop at bytes))

abbrev pub number_8 : ℕ → List ℕ → ℕ
number_8 at bytes = from_le_bytes w64 (take 8 (drop at bytes))

-- the number of a job in the eight bytes from a place on
abbrev pub job_at : ℕ → List ℕ → Option ℕ
job_at at bytes = cond (nat_le 1 (number_8 at bytes)) (Some (number_8 at bytes)) None

-- the version in the four bytes from a place on
abbrev pub version_at : ℕ → List ℕ → Option ℕ
version_at at bytes = cond (nat_le 1 (number_4 at bytes)) (Some (number_4 at bytes)) None

-- the package id in the eight bytes from a place on
unfoldable pub package_at : ℕ → List ℕ → Option (List ℕ)
package_at at bytes = text_if (is_package_id (take 8 (drop at bytes))) (take 8 (drop at bytes))

-- the hash in the 32 bytes from a place on
abbrev pub hash_at : ℕ → List ℕ → Hash
hash_at at bytes = record { 0 = take 32 (drop at bytes) }

-- a change of its fields, none where one of them is off its form
abbrev pub opened : Option ℕ → Option (List ℕ) → Option ℕ → ℕ → ℕ → Hash → Option Change
opened (Some job) (Some id) (Some version) entries size hash = Some (Opened job id version entries size hash)
opened (Some job) (Some id) None entries size hash = None
opened (Some job) None version entries size hash = None
opened None id version entries size hash = None

abbrev pub done : Option ℕ → Option Change
done (Some job) = Some (Done job)
done None = None

abbrev pub dropped : Option ℕ → Option Change
dropped (Some job) = Some (Dropped job)
dropped None = None

abbrev pub removed : Option (List ℕ) → Option ℕ → Option Change
removed (Some id) (Some version) = Some (Removed id version)
removed (Some id) None = None
removed None version = None

-- the fields behind kind 1
abbrev pub read_opened : List ℕ → Option Change
read_opened fields = opened (job_at 0 fields) (package_at 8 fields) (version_at 16 fields) (number_4 20 fields) (number_4 24 fields) (hash_at 28 fields)

-- the change that a record's bytes say, none where they are off the grammar
abbrev pub read_change : List ℕ → Option Change
read_change [] = None
read_change (kind ∷ fields) =
    if kind == 1 && length fields == 60 then read_opened fields
    else (if kind == 2 && length fields == 8 then done (job_at 0 fields)
    else (if kind == 3 && length fields == 8 then dropped (job_at 0 fields)
    else (if kind == 4 && length fields == 12 then removed (package_at 0 fields) (version_at 8 fields)
    else None)))
