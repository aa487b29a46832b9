-- What a library tells of the file of an entry.
use Rattle.std.specs.Prelude.{◌≡◌, ◌⊎◌, ℕ, is_some, if◌then◌else◌, nat_le, List, length, find, slice_get, Option, None, Some, IfSome, Result, Ok, Err, IfOk, IfErr}
use Rattle.std.specs.Option.{ForSome}
use Rattle.cm_base.specs.declared.hash.Hash.{Hash}
use Rattle.cm_disk.specs.Disk.{File, Files, Reads}
use Rattle.cm_filelib.specs.Places.{file_place}
use Rattle.cm_pkglib.specs.Rows.{is_of}
use Rattle.cm_state.specs.declared.fault.LibFault.{LibFault}
use Rattle.cm_state.specs.declared.fault.LibFault.TheVariants.{NoVersion, NoEntry, Gone, Disk}
use Rattle.cm_state.specs.State.{Held, State}
use Rattle.cm_contents.specs.Seals.{version_manifest, first_fault}
use Rattle.cm_tree.specs.declared.entry.Entry.{Entry}
use Rattle.cm_library.specs.Filing.{KeepsRows}
use Rattle.cm_library.specs.Kept.{Seen}

-- the version is not there
abbrev pub no_version : List ℕ → ℕ → State → Option LibFault
no_version id version state = if is_some (find (λ (held : Held). is_of id version held.row) state.versions) then None else Some NoVersion

-- its manifest has no entry of this number, from 0
abbrev pub no_entry : ℕ → List Entry → Option LibFault
no_entry entry manifest = if nat_le (length manifest) entry then Some (NoEntry entry) else None

-- why an entry is not looked at, whatever the disk: the first cause that holds
abbrev pub entry_fault : State → List ℕ → ℕ → ℕ → Option LibFault
entry_fault state id version entry = first_fault (no_version id version state) (no_entry entry (version_manifest id version state))

-- what is told of the file of a hash: its size; or that it is gone; or the disk failed
abbrev pub SizeOf : File → Hash → Result ℕ LibFault → Type 0
SizeOf None hash result = (result ≡ Err (Gone hash)) ⊎ (result ≡ Err Disk)
SizeOf (Some bytes) hash result = (result ≡ Ok (length bytes)) ⊎ (result ≡ Err Disk)

-- the same of its bytes from an offset on
abbrev pub ReadOf : File → Hash → ℕ → List ℕ → Result ℕ LibFault → Type 0
ReadOf None hash offset buffer result = (result ≡ Err (Gone hash)) ⊎ (result ≡ Err Disk)
ReadOf (Some bytes) hash offset buffer result = IfOk result (Reads (Some bytes) offset buffer) × IfErr result (λ fault. fault ≡ Disk)

-- The file of an entry is looked at on a settled library, and told as `Tells` says. Nothing is written.
pub record TellsEntry {D : Type 0} (reads : D → Option Files) (id : List ℕ) (version entry : ℕ) (Tells : File → Hash → Type 0) (old new : Seen D) (result : Result ℕ LibFault) : Type 0 where
  pub refused : IfSome (entry_fault old.state id version entry) (λ fault. (result ≡ Err fault) × (new ≡ old))
  pub told : entry_fault old.state id version entry ≡ None → ForSome (slice_get (version_manifest id version old.state) entry) (λ (e : Entry). ForSome (reads old.disk) (λ files. Tells (files (file_place e.hash.0)) e.hash))
  pub kinds : entry_fault old.state id version entry ≡ None → IfErr result (λ fault. (fault ≡ Disk) ⊎ ((e : Entry) × (slice_get (version_manifest id version old.state) entry ≡ Some e) × (fault ≡ Gone e.hash)))
  pub rows : KeepsRows old new
  pub seals : new.seals ≡ old.seals
  pub started : new.started ≡ old.started
  pub same : reads new.disk ≡ reads old.disk
