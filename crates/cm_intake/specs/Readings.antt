-- A folder that is read twice.
use Rattle.std.specs.Prelude.{◌≡◌, ℕ, ◌+◌, ◌<◌, ◌&&◌, not, Bool, false, if◌then◌else◌, List, [], ◌∷◌, length, take, Option, None, Some, IfSome, option_map}
use Rattle.std.specs.Option.{ForSome, option_and_then}
use Rattle.std.specs.Cmp.Lexicographic.{slice_cmp}
use Rattle.std.specs.Ordering.{nat_cmp, is_lt}
use Rattle.std.specs.Str.{bytes_eq}
use Rattle.sha2.specs.Sha256.{sha256}
use Rattle.cm_base.specs.Causes.{Rose}
use Rattle.cm_base.specs.declared.hash.Hash.{Hash}
use Rattle.cm_filelib.specs.Stored.{is_named as is_file_named}
use Rattle.cm_state.specs.Needed.{is_named}
use Rattle.cm_state.specs.State.{State}
use Rattle.cm_tree.specs.Folders.{Shown, Agrees}
use Rattle.cm_tree.specs.Trees.{File}
use Rattle.cm_tree.specs.declared.entry.Entry.{Entry}
use Rattle.cm_intake.specs.declared.fault.IntakeFault.{IntakeFault}
use Rattle.cm_intake.specs.declared.fault.IntakeFault.TheVariants.{Changed}

-- The readings of a folder: its files as they are first read, and by the number of a file, from 0, the bytes that it has when it is read
-- again. Each is none where the folder fails in it.
pub record Readings : Type 0 where
  pub first : Option (List File)
  pub second : Option (ℕ → List ℕ)

-- The readings agree with all that the folder shows: the bytes that reads give now, and those that they give once a file was read to its
-- end. A reading is none only if the folder's count of faults rose.
pub record AreReadings (shown : Shown) (from to : ℕ) (readings : Readings) : Type 0 where
  pub first : IfSome readings.first (Agrees shown)
  pub second : IfSome readings.second (λ again. (k : ℕ) → k < length shown.paths → ForSome (shown.later k) (λ bytes. again k ≡ bytes))
  pub first_failed : readings.first ≡ None → Rose from to
  pub second_failed : readings.second ≡ None → Rose from to

-- the first entry that has a hash, with its number, of entries of which the first has number n
abbrev pub first_with : Hash → ℕ → List Entry → Option (ℕ × Entry)
first_with hash n [] = None
first_with hash n (entry ∷ rest) = if bytes_eq entry.hash.0 hash.0 then Some (n, entry) else first_with hash (n + 1) rest

-- the bytes of an entry's file as it is read again, up to the entry's size
abbrev pub reread : (ℕ → List ℕ) → ℕ × Entry → List ℕ
reread second numbered = take numbered.1.size (second numbered.0)

-- these are not the bytes of the entry's size and hash
abbrev pub differs : (ℕ → List ℕ) → Option (ℕ × Entry) → Bool
differs second None = false
differs second (Some numbered) = not (is_file_named numbered.1.hash.0 numbered.1.size (reread second numbered))

-- A hash is read again if no version names it, from its first entry. It has changed if that differs.
abbrev pub is_changed : State → List Entry → (ℕ → List ℕ) → Hash → Bool
is_changed state manifest second hash = not (is_named hash.0 state) && differs second (first_with hash 0 manifest)

-- the lesser of two hashes in byte order
abbrev pub lesser : Option Hash → Option Hash → Option Hash
lesser None other = other
lesser (Some hash) None = Some hash
lesser (Some hash) (Some other) = if is_lt (slice_cmp nat_cmp other.0 hash.0) then Some other else Some hash

-- the least hash of a manifest for which a test holds
abbrev pub least_hash : (Hash → Bool) → List Entry → Option Hash
least_hash test [] = None
least_hash test (entry ∷ rest) = lesser (if test entry.hash then Some entry.hash else None) (least_hash test rest)

-- what is told of an entry whose file has other bytes when it is read again
abbrev pub change_of : (ℕ → List ℕ) → ℕ × Entry → IntakeFault
change_of second numbered = Changed numbered.1.path numbered.1.hash numbered.1.size (record { 0 = sha256 (reread second numbered) }) (length (reread second numbered))

-- the first change that is met where the hashes are read again in rising order
abbrev pub first_change : State → List Entry → (ℕ → List ℕ) → Option IntakeFault
first_change state manifest second = option_and_then (λ (hash : Hash). option_map (change_of second) (first_with hash 0 manifest)) (least_hash (is_changed state manifest second) manifest)
