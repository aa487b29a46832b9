-- What the type keeps where a job works on a file.
use Rattle.std.proofs.Common.{◌≡◌, ℕ, List, length, false, refl, sym, ◌∙◌, ap, subst}
use Rattle.std.specs.Prelude.{◌≢◌, ◌==◌, not, Option, None, Some, Result, Ok, Err}
use Rattle.std.specs.Option.{ForSome}
use Rattle.std.specs.List.{AllByRecursion}
use Rattle.hex.specs.Hex.{IsBytes}
use Rattle.cm_base.specs.declared.hash.Hash.{Hash}
use Rattle.cm_disk.specs.Disk.{File, Files, Does, IsImage, LeavesOnly, put}
use Rattle.cm_disk.proofs.Moments.{weaker}
use Rattle.cm_disk.proofs.Puts.{put_there}
use Rattle.cm_pkglib.specs.declared.counts.Seal.{Seal}
use Rattle.cm_filelib.specs.declared.writing.Writing.{Writing}
use Rattle.cm_filelib.specs.Places.{file_place}
use Rattle.cm_filelib.specs.Writings.{hash_of, size_of, is_spent, IsWriting}
use Rattle.cm_state.specs.Adding.{Told}
use Rattle.cm_state.specs.State.{State}
use Rattle.cm_state.proofs.Committed.{all_through}
use Rattle.cm_contents.specs.Seals.{job_manifest}
use Rattle.cm_contents.specs.Wants.{size_in}
use Rattle.cm_library.specs.Filing.{SameBut}
use Rattle.cm_library.specs.Started.{without_file, with_file, AreStarted}
use Rattle.cm_library.proofs.StartedFiles.{files_fewer, files_more, others_kept}

-- work at one place leaves the others
pub told_but : {T E : Type 0} (old new : Option Files) (place : List ℕ) (work : File → File) (result : Result T E) → Does old new place work result → Told (SameBut place) old new
told_but old new place work (Ok x) does = λ files told. (put files place (work (files place)), does.ok files told, λ q ne. put_there files place (work (files place)) q ne)
told_but old new place work (Err e) does = λ files told.
    let partly = does.err files told in
    (put files place partly.0, partly.1, λ q ne. put_there files place partly.0 q ne)

pub told_done : {T E : Type 0} (old new : Option Files) (place : List ℕ) (work : File → File) (x : T) → (let r : Result T E = Ok x in Does old new place work r) → Told (λ files now. now ≡ put files place (work (files place))) old new
told_done old new place work x does = λ files told. (put files place (work (files place)), does.ok files told, refl)

-- where all read the same
pub told_same : (old new : Option Files) (place : List ℕ) → new ≡ old → Told (SameBut place) old new
told_same old new place same = λ files told. (files, same ∙ told, λ q ne. refl)

-- each other started file is of another hash
abbrev pub AreOthers : ℕ → Hash → List (ℕ × Writing) → Type 0
AreOthers job hash started = AllByRecursion (λ (file : ℕ × Writing). (file.0 ≢ job) × ((hash_of file.1).0 ≢ hash.0)) started

pub other_hashes : (job : ℕ) (hash : Hash) (started : List (ℕ × Writing)) → AreOthers job hash started → AllByRecursion (λ (file : ℕ × Writing). (hash_of file.1).0 ≢ hash.0) started
other_hashes job hash started others = all_through (λ (file : ℕ × Writing). (file.0 ≢ job) × ((hash_of file.1).0 ≢ hash.0)) (λ (file : ℕ × Writing). (hash_of file.1).0 ≢ hash.0) (λ file both. both.1) started others

-- the place of a hash was worked on
module _ (old new : Option Files) (s : State) (seals : Hash → Option Seal) (job : ℕ) (hash : Hash) (started : List (ℕ × Writing)) (files : AreStarted old s seals None started)
    (bytes : IsBytes hash.0) (long : length hash.0 ≡ 32) (but : Told (SameBut (file_place hash.0)) old new) (silent : old ≡ None → new ≡ None) where
  -- the job has given up its file
  pub files_left : AreOthers job hash (without_file job started) → AreStarted new s seals None (without_file job started)
  files_left others =
      others_kept old new s seals (without_file job started) hash.0 bytes (other_hashes job hash (without_file job started) others) but silent
      (files_fewer old s seals (λ (file : ℕ × Writing). not (file.0 == job)) started files)

  -- and has a file of this hash now
  pub files_with : (writing : Writing) → AreOthers job hash (without_file job started) → size_in hash (job_manifest job s) ≡ Some (size_of writing) → seals hash ≡ None → hash_of writing ≡ hash → is_spent writing ≡ false
      → ForSome new (λ files. IsWriting files writing) → AreStarted new s seals None (with_file job writing started)
  files_with writing others wanted unsealed named idle stands =
      files_more new s seals job writing (without_file job started) (record {
        bytes = subst (λ (h : Hash). IsBytes h.0) (sym named) bytes;
        long = ap (λ (h : Hash). length h.0) named ∙ long;
        wanted = ap (λ (h : Hash). size_in h (job_manifest job s)) named ∙ wanted;
        unsealed = ap seals named ∙ unsealed;
        idle = idle;
      }) (subst (λ (h : Hash). AreOthers job h (without_file job started)) (sym named) others) stands (files_left others)

-- the moments of a call that reads and syncs alone
pub run_alone : {D : Type 0} (moment : D → ℕ) (left_since : D → ℕ → Files → Type 0) (old new : D) (may_leave : List ℕ → File → Type 0) (place : List ℕ)
    → LeavesOnly moment left_since old new (IsImage may_leave) → LeavesOnly moment left_since old new (λ (left : Files). (q : List ℕ) → q ≢ place → may_leave q (left q))
run_alone moment left_since old new may_leave place run = weaker moment left_since old new (IsImage may_leave) (λ (left : Files). (q : List ℕ) → q ≢ place → may_leave q (left q)) run (λ left image q ne. image q)
