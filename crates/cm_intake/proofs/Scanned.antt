-- The first reading of a folder, and an intake by it.
use Rattle.std.proofs.Common.{◌≡◌, inl, ℕ, zero, suc, ◌+◌, ◌<◌, ◌≤◌, List, [], ◌∷◌, length, refl, sym, ◌∙◌, ap, subst, arith}
use Rattle.std.specs.Prelude.{Option, None, Some, IfSome, unwrap_or, slice_get, Result, Err}
use Rattle.std.specs.Option.{ForSome}
use Rattle.std.proofs.lemmas.List.{length-map}
use Rattle.std.proofs.lemmas.Option.{none-some, same_Some}
use Rattle.cm_base.specs.Causes.{Rose}
use Rattle.cm_disk.specs.Disk.{File as Bytes, Files, IsImage}
use Rattle.cm_state.specs.Changes.{StateChange}
use Rattle.cm_state.specs.Opens.{OpensOr, EachOpensSome}
use Rattle.cm_state.specs.Faults.{limit_fault}
use Rattle.cm_state.specs.declared.fault.LibFault.{LibFault}
use Rattle.cm_tree.specs.Folders.{Shown, Agrees, WasRead}
use Rattle.cm_tree.specs.Scans.{HasFault, Scans, first_fault}
use Rattle.cm_tree.specs.Trees.{File, entry_of, manifest_of, file_paths}
use Rattle.cm_tree.specs.declared.entry.Entry.{Entry}
use Rattle.cm_tree.specs.declared.scan_fault.ScanFault.{ScanFault}
use Rattle.cm_tree.specs.declared.scan_fault.ScanFault.TheVariants.{Folder as FolderFails, TooManyFiles as ManyFiles, BadPath as PathOff, SamePath as PathTwice, FileTooLong as LongFile, Memory as ScanMemory}
use Rattle.cm_library.specs.Kept.{Seen}
use Rattle.cm_intake.specs.Ending.{TakesScanned}
use Rattle.cm_intake.specs.Filling.{IsSecond}
use Rattle.cm_intake.specs.Intake.{of_scan, refused, intake, scanned, read_again, within_limits, Rests, EndsAs, TakesIn}
use Rattle.cm_intake.specs.Readings.{Readings, AreReadings}
use Rattle.cm_intake.specs.declared.fault.IntakeFault.{IntakeFault}
use Rattle.cm_intake.specs.declared.fault.IntakeFault.TheVariants.{TooManyFiles, BadPath, SamePath, FileTooLong}
use Rattle.cm_intake.specs.declared.taken.Taken.{Taken}
use Rattle.cm_intake.proofs.Filled.{as_shown, shown_so}
use Rattle.cm_intake.proofs.Going.{goes_none}

-- files that agree with all that is shown
files_from : (ℕ → Option (List ℕ)) → ℕ → List (List ℕ) → List File
files_from now n [] = []
files_from now n (path ∷ paths) = record { path = path; bytes = unwrap_or (now n) [] } ∷ files_from now (suc n) paths

paths_from : (now : ℕ → Option (List ℕ)) (n : ℕ) (paths : List (List ℕ)) → file_paths (files_from now n paths) ≡ paths
unfolding files_from
paths_from now n [] = refl
paths_from now n (path ∷ paths) = ap (λ (rest : List (List ℕ)). path ∷ rest) (paths_from now (suc n) paths)

bytes_from : (now : ℕ → Option (List ℕ)) (n : ℕ) (paths : List (List ℕ)) (k : ℕ) (file : File) → slice_get (files_from now n paths) k ≡ Some file → ForSome (now (n + k)) (λ bytes. file.bytes ≡ bytes)
unfolding files_from
bytes_from now n [] k file there = absurd (none-some file there)
bytes_from now n (path ∷ paths) zero file there = λ bytes told.
    let first : File = record { path = path; bytes = unwrap_or (now n) [] } in
    let same : n + 0 ≡ n = omega arith in
    ap (λ (f : File). f.bytes) (sym (same_Some first file there)) ∙ ap (λ (o : Option (List ℕ)). unwrap_or o []) (sym (ap now same) ∙ told)
bytes_from now n (path ∷ paths) (suc k) file there = λ bytes told.
    let same : suc n + k ≡ n + suc k = omega arith in
    bytes_from now (suc n) paths k file there bytes (ap now same ∙ told)

pub agreeing : (shown : Shown) → (files : List File) × Agrees shown files
agreeing shown = (
  files_from shown.now 0 shown.paths,
  record {
    paths = paths_from shown.now 0 shown.paths;
    bytes = λ k file there bytes told. bytes_from shown.now 0 shown.paths k file there bytes (let same : 0 + k ≡ k = omega arith in ap shown.now same ∙ told);
  },
)

-- what is not read again is what the folder shows
pub second_shown : (shown : Shown) (from to : ℕ) → IsSecond shown from to (Some (as_shown shown))
second_shown shown from to = record {
  agrees = λ k lt. shown_so shown k;
  failed = λ none. absurd (none-some (as_shown shown) (sym none));
}

-- a count that rose since a later moment
rose_before : (a b c : ℕ) → a ≤ b → Rose b c → Rose a c
rose_before a b c le rose = omega (arith, le, rose)

module _ {D : Type 0} (reads : D → Option Files) (may_leave : D → List ℕ → Bytes → Type 0) (moment : D → ℕ) (left_since : D → ℕ → Files → Type 0) (id : List ℕ) (version : ℕ) where
  -- the first reading gives no manifest
  module _ (shown : Shown) (from to : ℕ) (old : Seen D) (rests : Rests reads may_leave moment left_since 0 [] old old) where
    with_files : (files : List File) → Agrees shown files → AreReadings shown from to (record { first = Some files; second = Some (as_shown shown) })
    with_files files agrees = record {
      first = agrees;
      second = λ k lt. shown_so shown k;
      first_failed = λ none. absurd (none-some files (sym none));
      second_failed = λ none. absurd (none-some (as_shown shown) (sym none));
    }

    -- by its first fault
    by_fault : (files : List File) (fault : ScanFault) (result : Result Taken IntakeFault) → Agrees shown files → first_fault 20000 4294967295 files ≡ Some fault
        → ((readings : Readings) → EndsAs reads may_leave moment left_since readings (refused (of_scan fault)) old old result) → TakesIn reads may_leave moment left_since id version shown from to old old result
    by_fault files fault result agrees is ends = record {
      readings = record { first = Some files; second = Some (as_shown shown) };
      are = with_files files agrees;
      ends = subst (λ (o : Option ScanFault). EndsAs reads may_leave moment left_since (record { first = Some files; second = Some (as_shown shown) }) (scanned id version old.end files old.state (Some (as_shown shown)) o) old old result) (sym is)
          (ends (record { first = Some files; second = Some (as_shown shown) }));
    }

    pub unscanned : (fault : ScanFault) → HasFault 20000 4294967295 shown fault → (fault ≡ FolderFails → Rose from to) → Rests reads may_leave moment left_since 0 (intake id version old.end (record { first = Some (agreeing shown).0; second = Some (as_shown shown) }) old.state).changes old old
        → TakesIn reads may_leave moment left_since id version shown from to old old (Err (of_scan fault))
    unscanned FolderFails has rose unmade = record {
      readings = record { first = None; second = Some (as_shown shown) };
      are = record {
        first = tt;
        second = λ k lt. shown_so shown k;
        first_failed = λ none. rose refl;
        second_failed = λ none. absurd (none-some (as_shown shown) (sym none));
      };
      ends = (refl, rests);
    }
    unscanned ManyFiles has rose unmade = by_fault has.0 ManyFiles (Err TooManyFiles) has.1 has.2 (λ readings. (refl, rests))
    unscanned (PathOff entry) has rose unmade = by_fault has.0 (PathOff entry) (Err (BadPath entry)) has.1 has.2 (λ readings. (refl, rests))
    unscanned (PathTwice entry) has rose unmade = by_fault has.0 (PathTwice entry) (Err (SamePath entry)) has.1 has.2 (λ readings. (refl, rests))
    unscanned (LongFile entry) has rose unmade = by_fault has.0 (LongFile entry) (Err (FileTooLong entry)) has.1 has.2 (λ readings. (refl, rests))
    unscanned ScanMemory has rose unmade = record {
      readings = record { first = Some (agreeing shown).0; second = Some (as_shown shown) };
      are = with_files (agreeing shown).0 (agreeing shown).1;
      ends = (0, unmade, inl refl);
    }

  -- the manifest in place of the files
  pub by_files : (manifest : List Entry) (files : List File) (readings : Readings) (old new : Seen D) (result : Result Taken IntakeFault) → manifest ≡ manifest_of files
      → EndsAs reads may_leave moment left_since readings (within_limits id version manifest old.state readings.second (limit_fault old.state old.end (length manifest))) old new result
      → EndsAs reads may_leave moment left_since readings (within_limits id version (manifest_of files) old.state readings.second (limit_fault old.state old.end (length files))) old new result
  by_files manifest files readings old new result is ends =
      subst (λ (n : ℕ). EndsAs reads may_leave moment left_since readings (within_limits id version (manifest_of files) old.state readings.second (limit_fault old.state old.end n)) old new result) (length-map files entry_of)
      (subst (λ (es : List Entry). EndsAs reads may_leave moment left_since readings (within_limits id version es old.state readings.second (limit_fault old.state old.end (length es))) old new result) is ends)

  -- no limit is reached
  pub by_job : (manifest : List Entry) (files : List File) (readings : Readings) (old new : Seen D) (result : Result Taken IntakeFault) → limit_fault old.state old.end (length manifest) ≡ None → manifest ≡ manifest_of files
      → EndsAs reads may_leave moment left_since readings (read_again id version manifest old.state readings.second) old new result
      → EndsAs reads may_leave moment left_since readings (within_limits id version (manifest_of files) old.state readings.second (limit_fault old.state old.end (length files))) old new result
  by_job manifest files readings old new result free is ends =
      by_files manifest files readings old new result is
      (subst (λ (o : Option LibFault). EndsAs reads may_leave moment left_since readings (within_limits id version manifest old.state readings.second o) old new result) (sym free) ends)

  -- the first reading gave a manifest
  pub takes_scanned : (shown shows : Shown) (from mid to : ℕ) (entries : List Entry) (old new : Seen D) (result : Result Taken IntakeFault) → (scans : Scans 20000 4294967295 shown entries) → WasRead shown shows → from ≤ mid
      → TakesScanned reads may_leave moment left_since id version shows mid to scans.tree old new result → TakesIn reads may_leave moment left_since id version shown from to old new result
  takes_scanned shown shows from mid to entries old new result scans read le takes =
      let files = scans.tree in
      record {
        readings = record { first = Some files; second = takes.second };
        are = record {
          first = scans.gathers.agrees;
          second = agrees takes.second takes.is_second.agrees;
          first_failed = λ none. absurd (none-some files (sym none));
          second_failed = λ none. rose_before from mid to le (takes.is_second.failed none);
        };
        ends = subst (λ (o : Option ScanFault). EndsAs reads may_leave moment left_since (record { first = Some files; second = takes.second }) (scanned id version old.end files old.state takes.second o) old new result) (sym scans.gathers.clean) takes.ends;
      }
    where
      agrees : (second : Option (ℕ → List ℕ)) → IfSome second (λ again. (k : ℕ) → k < length shows.paths → ForSome (shows.later k) (λ bytes. again k ≡ bytes))
          → IfSome second (λ again. (k : ℕ) → k < length shown.paths → ForSome (shown.later k) (λ bytes. again k ≡ bytes))
      agrees None all = tt
      agrees (Some again) all = λ k lt bytes told. all k (subst (λ (ps : List (List ℕ)). k < length ps) (sym read.paths) lt) bytes (read.later k ∙ told)

-- nothing was done
pub rests_still : {D : Type 0} (reads : D → Option Files) (may_leave : D → List ℕ → Bytes → Type 0) (moment : D → ℕ) (left_since : D → ℕ → Files → Type 0) → ((disk : D) (files : Files) → left_since disk (moment disk) files → IsImage (may_leave disk) files)
    → (changes : List StateChange) (old : Seen D) → old.pending ≡ None → (EachOpensSome (may_leave old.start) → ForSome (reads old.disk) (λ _. (image : Files) → IsImage (may_leave old.disk) image → OpensOr old.state old.pending image)) → Rests reads may_leave moment left_since 0 changes old old
rests_still reads may_leave moment left_since only_now changes old settled tells = record {
  goes = goes_none reads may_leave moment left_since only_now changes old old settled tells refl refl refl;
  idle = settled;
  same = λ none. refl;
}
