-- What contracts see of a folder in memory.
use Rattle.std.specs.Prelude.{◌≡◌, ℕ, List, Result, OnOk, OnErr}
use Rattle.std.specs.Result.{is_err}
use Rattle.cm_base.specs.InMemory.{raised}
use Rattle.cm_base.specs.Listed.{is_listed}
use Rattle.cm_tree.specs.declared.mem_folder.MemFolder.{MemFolder}
use Rattle.cm_tree.specs.Folders.{Shown}
use Rattle.cm_tree.specs.MemFolders.{kept_shown}

-- what it shows
abbrev pub shown_by : MemFolder → Shown
shown_by folder = kept_shown folder.files.items

-- the numbers of the calls that fail
abbrev pub fails_at : MemFolder → List ℕ
fails_at folder = folder.fail.items

-- how many calls there were, which is the number of the next
abbrev pub calls_of : MemFolder → ℕ
calls_of folder = folder.number

-- how many of them failed
abbrev pub faults_of : MemFolder → ℕ
faults_of folder = folder.faults

-- a call is counted, and fails exactly where its number is listed; a failure is counted, and nothing else is
pub record FailsExactly {T E : Type 0} (old new : MemFolder) (result : Result T E) : Type 0 where
  pub calls : calls_of new ≡ raised (calls_of old)
  pub fail : fails_at new ≡ fails_at old
  pub listed : is_err result ≡ is_listed (fails_at old) (calls_of old)
  pub ok : OnOk result (faults_of new ≡ faults_of old)
  pub err : OnErr result (faults_of new ≡ raised (faults_of old))
