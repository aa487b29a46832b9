-- What each status of a run tells: its cause.
use Rattle.std.specs.Prelude.{◌≡◌, ◌⊎◌, ℕ, List, Option, Ok, Err}
use Rattle.cm_base.specs.Causes.{Rose}
use Rattle.cm_base.specs.declared.hash.Hash.{Hash}
use Rattle.cm_disk.specs.Disk.{File, Files}
use Rattle.cm_site.specs.Runs.{Outside, RoseAt, Steps}
use Rattle.cm_site.specs.declared.bay.Bay.{Bay}
use Rattle.cm_site.specs.declared.reply.Reply.TheVariants.{Changed}
use Rattle.cm_top.specs.Runs.{Sunk, step}
use Rattle.cm_top.specs.Words.{read_line}
use Rattle.cm_top.specs.declared.fault.WordsFault.{WordsFault}
use Rattle.cm_top.specs.declared.line.Line.{Line}

-- a file of the folder had other bytes when it was read again, as the site's step says
pub record TellsChange {D : Type 0} (reads : D → Option Files) (may_leave : D → List ℕ → File → Type 0) (moment : D → ℕ) (left_since : D → ℕ → Files → Type 0) (words : List (List ℕ)) (from to : Outside) (minute : ℕ) (old new : List (Bay D)) : Type 0 where
  pub line : Line
  pub read : read_line words ≡ Ok line
  pub path : List ℕ
  pub first : Hash
  pub first_size : ℕ
  pub second : Hash
  pub second_size : ℕ
  pub steps : Steps reads may_leave moment left_since (step line) from to minute old new (Changed path first first_size second second_size)

-- Status 2 only where the words are refused; 3 only where the folder's or the input's count rose, or two readings of a file differ; 4 only
-- where the sink's count rose; 5 only where the count of a bay's disk did.
pub record HasCauses {D : Type 0} (reads : D → Option Files) (may_leave : D → List ℕ → File → Type 0) (moment : D → ℕ) (left_since : D → ℕ → Files → Type 0) (faults : D → ℕ) (words : List (List ℕ)) (from to : Outside) (minute : ℕ) (old new : List (Bay D)) (out out' : Sunk) (result : ℕ) : Type 0 where
  pub two : result ≡ 2 → (fault : WordsFault) × (read_line words ≡ Err fault)
  pub three : result ≡ 3
      → Rose from.folder.faults to.folder.faults ⊎ Rose from.input.faults to.input.faults ⊎ TellsChange reads may_leave moment left_since words from to minute old new
  pub four : result ≡ 4 → Rose out.faults out'.faults
  pub five : result ≡ 5 → (bay : List ℕ) × RoseAt faults bay old new
