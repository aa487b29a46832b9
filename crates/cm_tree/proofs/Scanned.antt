-- A scan of a folder so far.
use Rattle.std.proofs.Common.{◌≡◌, ℕ, ◌+◌, ◌<◌, ◌≤◌, ◌^◌, true, List, [], ◌∷◌, ◌++◌, length, take, get_or, Option, Some, option_map, Result, Ok, Err, refl, sym, ap, ◌∙◌, subst, arith}
use Rattle.std.specs.Prelude.{IfOk, IfErr}
use Rattle.std.specs.List.{slice_get, AllByRecursion}
use Rattle.std.proofs.lemmas.List.{map-append}
use Rattle.sha2.specs.Sha256.{sha256}
use Rattle.sha2.proofs.Facts256.{length-sha256}
use Rattle.cm_tree.specs.declared.entry.Entry.{Entry}
use Rattle.cm_tree.specs.declared.scan_fault.ScanFault.{ScanFault}
use Rattle.cm_tree.specs.declared.taken.Taken.{Taken}
use Rattle.cm_tree.specs.Paths.{is_rising, is_apart}
use Rattle.cm_tree.specs.Manifests.{paths_of, IsEntry, IsManifest}
use Rattle.cm_tree.specs.Trees.{File, file_paths, IsFile, IsTree, entry_of, manifest_of}
use Rattle.cm_tree.specs.Folders.{Shown, Stays, Turns, Tells}
use Rattle.cm_tree.specs.Scans.{Scans, HasFault, Answers, scanned}
use Rattle.cm_tree.specs.Taking.{HasTaken}
use Rattle.cm_tree.specs.Walks.{JoinsTaken, IsHashOf}
use Rattle.cm_tree.proofs.Kept.{get_here, each_at}
use Rattle.cm_tree.proofs.Told.{told_answer}
use Rattle.cm_tree.proofs.Walked.{Walked, walked_push, walked_stays, walked_agrees, walked_clean, walked_tree, length-push, file_paths-push, length_paths, file_good}

manifest_paths : (files : List File) → paths_of (manifest_of files) ≡ file_paths files
manifest_paths [] = refl
manifest_paths (f ∷ files) = ap (λ (ps : List (List ℕ)). f.path ∷ ps) (manifest_paths files)

manifest_length : (files : List File) → length (manifest_of files) ≡ length files
manifest_length [] = refl
manifest_length (f ∷ files) = omega (arith, manifest_length files)

each_entry : (files : List File) → AllByRecursion IsFile files → AllByRecursion IsEntry (manifest_of files)
each_entry [] all = tt
each_entry (f ∷ files) all = (record { path = all.0.path; size = all.0.size; hash = length-sha256 f.bytes }, each_entry files all.1)

-- the manifest of a tree
pub tree_manifest : (files : List File) → IsTree files → IsManifest (manifest_of files)
tree_manifest files tree = record {
  few = omega (arith, manifest_length files, tree.few);
  each = each_entry files tree.each;
  rising = ap is_rising (manifest_paths files) ∙ tree.rising;
  apart = ap is_apart (manifest_paths files) ∙ tree.apart;
}

-- the entries are those of the files that were read
pub record Scanned (most : ℕ) (first cur : Shown) (entries : List Entry) (taken : Taken) (n : ℕ) : Type 0 where
  pub files : List File
  pub walked : Walked most first cur files
  pub entries_are : entries ≡ manifest_of files
  pub taken_are : HasTaken taken (file_paths files)
  pub number : length files ≡ n

same_entry : (file : File) (size : ℕ) (hash : List ℕ) → size ≡ length file.bytes → hash ≡ sha256 file.bytes → (entry : Entry) → entry ≡ record { path = file.path; size = size; hash = record { 0 = hash } } → entry ≡ entry_of file
same_entry file size hash s h entry is = is ∙ (λ i. record { path = file.path; size = s i; hash = record { 0 = h i } })

-- one file more
pub scanned_push : (most : ℕ) (first cur new : Shown) (old entries : List Entry) (taken then_taken : Taken) (n : ℕ) (path : List ℕ) (size : ℕ) (hash : List ℕ) → (s : Scanned most first cur old taken n)
    → slice_get cur.paths n ≡ Some path → JoinsTaken taken n path (Ok path) → ((before : List (List ℕ)) → HasTaken taken before → HasTaken then_taken (before ++ path ∷ []))
    → IsHashOf (cur.now n) most size hash → Turns n true cur new → entries ≡ old ++ record { path = path; size = size; hash = record { 0 = hash } } ∷ []
    → Scanned most first new entries then_taken (n + 1)
scanned_push most first cur new old entries taken then_taken n path size hash s at joins takes h turns items =
    let file : File = record { path = path; bytes = h.bytes } in
    let good = joins.is (file_paths s.files) s.taken_are (length_paths s.files ∙ s.number) in
    let told = subst (λ o. (all : List ℕ) → o ≡ Some all → h.bytes ≡ all) (s.walked.unread n (omega (arith, s.number))) h.told_so in
    record {
      files = s.files ++ file ∷ [];
      walked = walked_push most first cur new s.files file n s.walked (sym s.number) (ap (λ (ps : List (List ℕ)). slice_get ps n) (sym s.walked.paths) ∙ at) told turns
          (file_good most (file_paths s.files) file good.0 h.few);
      entries_are =
          items
          ∙ (ap (λ (es : List Entry). es ++ record { path = path; size = size; hash = record { 0 = hash } } ∷ []) s.entries_are
          ∙ (ap (λ (e : Entry). manifest_of s.files ++ e ∷ []) (same_entry file size hash h.size_is h.hash_is (record { path = path; size = size; hash = record { 0 = hash } }) refl)
          ∙ sym (map-append entry_of s.files (file ∷ []))));
      taken_are = subst (λ (ps : List (List ℕ)). HasTaken then_taken ps) (sym (file_paths-push s.files file)) (takes (file_paths s.files) s.taken_are);
      number = omega (arith, length-push s.files file, s.number);
    }

pub scanned_manifest : (most : ℕ) (first cur : Shown) (entries : List Entry) (taken : Taken) (n : ℕ) → Scanned most first cur entries taken n → is_rising first.paths ≡ true → n ≤ 20000 → most < 2 ^ 32 → IsManifest entries
scanned_manifest most first cur entries taken n s up few fits =
    subst (λ (es : List Entry). IsManifest es) (sym s.entries_are) (tree_manifest s.files (walked_tree most first cur s.files s.walked up (omega (arith, s.number)) fits))

-- after a call that changed nothing
pub stays_scanned : (most : ℕ) (first cur new : Shown) (entries : List Entry) (taken : Taken) (n : ℕ) → Scanned most first cur entries taken n → Stays cur new → Scanned most first new entries taken n
stays_scanned most first cur new entries taken n s same =
    record { files = s.files; walked = walked_stays most first cur new s.files s.walked same; entries_are = s.entries_are; taken_are = s.taken_are; number = s.number }

-- all of the files were scanned
pub scans_all : (most_files most : ℕ) (first cur : Shown) (entries : List Entry) (taken : Taken) (n : ℕ) → (s : Scanned most first cur entries taken n) → is_rising first.paths ≡ true → n ≤ 20000 → most < 2 ^ 32
    → length first.paths ≤ length s.files → length first.paths ≤ most_files → Scans most_files most first entries
scans_all most_files most first cur entries taken n s up few fits le room = record {
  tree = s.files;
  gathers = record {
    tree_is = walked_tree most first cur s.files s.walked up (omega (arith, s.number)) fits;
    agrees = walked_agrees most first cur s.files s.walked le;
    clean = walked_clean most_files most first cur s.files s.walked le room;
  };
  entries_are = s.entries_are;
}

-- the answer of the files that are told
pub scans_told : (most_files most : ℕ) (shown : Shown) (r : Result (List Entry) ScanFault) → IfOk r (λ entries. Scans most_files most shown entries) → IfErr r (HasFault most_files most shown)
    → (files : List File) → Tells shown files → Answers (λ entries. entries) r (scanned most_files most files)
scans_told most_files most shown (Ok entries) ok err files t = told_answer most_files most shown manifest_of (Ok entries) (ok.tree, ok.entries_are, ok.gathers.agrees, ok.gathers.clean) tt files t
scans_told most_files most shown (Err e) ok err files t = told_answer most_files most shown manifest_of (Err e) tt err files t
