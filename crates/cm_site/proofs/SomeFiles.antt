-- There are always readings that agree with what a folder shows, and findings that agree with what a disk tells.
use Rattle.std.proofs.Common.{◌≡◌, ℕ, ◌+◌, zero, suc, List, [], ◌∷◌, Option, None, Some, slice_get, sym, ◌∙◌, ap, subst, arith, refl}
use Rattle.std.specs.Option.{ForSome}
use Rattle.std.proofs.lemmas.Option.{none-some, same_Some}
use Rattle.cm_check.specs.Findings.{findings}
use Rattle.cm_check.specs.declared.finding.Finding.{Finding}
use Rattle.cm_disk.specs.Disk.{Files}
use Rattle.cm_intake.specs.Readings.{Readings, AreReadings}
use Rattle.cm_tree.specs.Folders.{Shown, Agrees}
use Rattle.cm_tree.specs.Trees.{File, file_paths}
use Rattle.cm_tree.specs.declared.entry.Entry.{Entry}
use Rattle.cm_site.specs.OneEnds.{StartsOne}
use Rattle.cm_site.specs.OneLibrary.{Given}
use Rattle.cm_site.specs.Runs.{Sourced}

abbrev or_none : Option (List ℕ) → List ℕ
or_none None = []
or_none (Some bytes) = bytes

-- the files of these paths, of which the first has that number
abbrev files_from : ℕ → (ℕ → Option (List ℕ)) → List (List ℕ) → List File
files_from n now [] = []
files_from n now (path ∷ paths) = record { path = path; bytes = or_none (now n) } ∷ files_from (n + 1) now paths

paths_from : (n : ℕ) (now : ℕ → Option (List ℕ)) (paths : List (List ℕ)) → file_paths (files_from n now paths) ≡ paths
paths_from n now [] = refl
paths_from n now (path ∷ paths) = ap (λ (rest : List (List ℕ)). path ∷ rest) (paths_from (n + 1) now paths)

or_none_told : (o : Option (List ℕ)) → ForSome o (λ bytes. or_none o ≡ bytes)
or_none_told None bytes is = absurd (none-some bytes is)
or_none_told (Some told) bytes is = same_Some told bytes is

bytes_from : (n : ℕ) (now : ℕ → Option (List ℕ)) (paths : List (List ℕ)) (k : ℕ) (file : File) → slice_get (files_from n now paths) k ≡ Some file → ForSome (now (n + k)) (λ bytes. file.bytes ≡ bytes)
bytes_from n now [] k file is bytes told = absurd (none-some file is)
bytes_from n now (path ∷ paths) zero file is bytes told =
    let here : now n ≡ Some bytes = subst (λ (i : ℕ). now i ≡ Some bytes) (omega arith) told in
    ap (λ (f : File). f.bytes) (sym (same_Some _ file is)) ∙ or_none_told (now n) bytes here
bytes_from n now (path ∷ paths) (suc k) file is bytes told =
    bytes_from (n + 1) now paths k file is bytes (subst (λ (i : ℕ). now i ≡ Some bytes) (omega arith) told)

some_files : Shown → List File
some_files shown = files_from 0 shown.now shown.paths

some_agree : (shown : Shown) → Agrees shown (some_files shown)
unfolding some_files
some_agree shown = record {
  paths = paths_from 0 shown.now shown.paths;
  bytes = λ k file is bytes told. bytes_from 0 shown.now shown.paths k file is bytes (subst (λ (i : ℕ). shown.now i ≡ Some bytes) (omega arith) told);
}

pub some_readings : Shown → Readings
some_readings shown = record { first = Some (some_files shown); second = Some (λ (k : ℕ). or_none (shown.later k)) }

pub some_are : (shown : Shown) (from to : ℕ) → AreReadings shown from to (some_readings shown)
unfolding some_readings
some_are shown from to = record {
  first = some_agree shown;
  second = λ k within bytes told. or_none_told (shown.later k) bytes told;
  first_failed = λ failed. absurd (cc);
  second_failed = λ failed. absurd (cc);
}

-- what is amiss with the files of a manifest, where the disk tells that
abbrev pub amiss_or : Option Files → List Entry → List Finding
amiss_or None manifest = []
amiss_or (Some files) manifest = findings files manifest

pub amiss_told : (reads : Option Files) → ForSome reads (λ files. (manifest : List Entry) → amiss_or reads manifest ≡ findings files manifest)
amiss_told None files told = absurd (none-some files told)
amiss_told (Some was) files told = λ manifest. ap (λ (f : Files). findings f manifest) (same_Some was files told)

-- what a step may be given, where a folder shows this, the log's closed gate is there, this is found amiss, and these places are not needed
abbrev pub given_at : Shown → ℕ → (List Entry → List Finding) → List (List ℕ) → Given
given_at shown gate amiss loose = record { readings = some_readings shown; gate = gate; amiss = amiss; loose = loose }

-- a step may start from it
pub starts_at : (from to : Sourced) (reads : Option Files) (gate : ℕ) (amiss : List Entry → List Finding) (loose : List (List ℕ)) → ForSome reads (λ files. (manifest : List Entry) → amiss manifest ≡ findings files manifest)
    → StartsOne from to reads (given_at from.shown gate amiss loose)
starts_at from to reads gate amiss loose found = record { readings = some_are from.shown from.faults to.faults; amiss = found }

-- what a step may be given that asks for nothing
abbrev pub some_given : Shown → Option Files → ℕ → Given
some_given shown reads gate = given_at shown gate (amiss_or reads) []

pub starts : (from to : Sourced) (reads : Option Files) (gate : ℕ) → StartsOne from to reads (some_given from.shown reads gate)
starts from to reads gate = starts_at from to reads gate (amiss_or reads) [] (amiss_told reads)
