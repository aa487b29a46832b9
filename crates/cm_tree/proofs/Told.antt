-- Files that agree with a folder that tells all of them.
use Rattle.std.proofs.Common.{◌≡◌, ℕ, suc, List, [], ◌∷◌, Option, None, Some, Result, Ok, Err, refl, sym, ap, ◌∙◌}
use Rattle.std.specs.Prelude.{IfOk, IfErr}
use Rattle.std.specs.List.{slice_get}
use Rattle.cm_tree.specs.declared.scan_fault.ScanFault.{ScanFault}
use Rattle.cm_tree.specs.declared.scan_fault.ScanFault.TheVariants.{Folder, TooManyFiles, BadPath, SamePath, FileTooLong, Memory}
use Rattle.cm_tree.specs.Trees.{File, file_paths}
use Rattle.cm_tree.specs.Folders.{Shown, Agrees, Tells}
use Rattle.cm_tree.specs.Scans.{first_fault, unless_fault, HasFault, Answers}
use Rattle.cm_tree.specs.Walks.{AreBytes}

same_files : (xs ys : List File) (now : ℕ → Option (List ℕ)) → file_paths xs ≡ file_paths ys
    → ((k : ℕ) (f : File) → slice_get xs k ≡ Some f → AreBytes (now k) f.bytes) → ((k : ℕ) (f : File) → slice_get ys k ≡ Some f → now k ≡ Some f.bytes) → xs ≡ ys
same_files [] [] now paths a b = refl
same_files [] (y ∷ ys) now paths a b = absurd cc
same_files (x ∷ xs) [] now paths a b = absurd cc
same_files (x ∷ xs) (y ∷ ys) now paths a b =
    let path : x.path ≡ y.path = cc in
    let rest : file_paths xs ≡ file_paths ys = cc in
    let bytes : x.bytes ≡ y.bytes = a 0 x refl y.bytes (b 0 y refl) in
    let one : x ≡ y = λ i. record { path = path i; bytes = bytes i } in
    let more : xs ≡ ys = same_files xs ys (λ k. now (suc k)) rest (λ k f at. a (suc k) f at) (λ k f at. b (suc k) f at) in
    λ i. one i ∷ more i

pub agrees_is : (shown : Shown) (xs ys : List File) → Agrees shown xs → Tells shown ys → xs ≡ ys
agrees_is shown xs ys a t = same_files xs ys shown.now (a.paths ∙ sym t.paths) a.bytes t.bytes

pub first_is : (most_files most : ℕ) (shown : Shown) (files : List File) → Tells shown files → (o : Option ScanFault) → (all : List File) × Agrees shown all × (first_fault most_files most all ≡ o) → first_fault most_files most files ≡ o
first_is most_files most shown files t o h = ap (first_fault most_files most) (sym (agrees_is shown h.0 files h.1 t)) ∙ h.2

abbrev made : {A : Type 0} → A → Result A ScanFault
made x = Ok x

-- the answer of the files that are told
pub told_answer : {A : Type 0} (most_files most : ℕ) (shown : Shown) (given : List File → A) (result : Result A ScanFault)
    → IfOk result (λ x. (tree : List File) × (x ≡ given tree) × Agrees shown tree × (first_fault most_files most tree ≡ None)) → IfErr result (HasFault most_files most shown)
    → (files : List File) → Tells shown files → Answers (λ x. x) result (unless_fault (first_fault most_files most files) (given files))
told_answer most_files most shown given (Ok x) ok err files t =
    let same = agrees_is shown ok.0 files ok.2 t in
    ap (λ o. unless_fault o (given files)) (ap (first_fault most_files most) (sym same) ∙ ok.3) ∙ ap (λ (tree : List File). made (given tree)) (sym same) ∙ ap made (sym ok.1)
told_answer most_files most shown given (Err Folder) ok err files t = tt
told_answer most_files most shown given (Err TooManyFiles) ok err files t = ap (λ o. unless_fault o (given files)) (first_is most_files most shown files t (Some TooManyFiles) err)
told_answer most_files most shown given (Err (BadPath k)) ok err files t = ap (λ o. unless_fault o (given files)) (first_is most_files most shown files t (Some (BadPath k)) err)
told_answer most_files most shown given (Err (SamePath k)) ok err files t = ap (λ o. unless_fault o (given files)) (first_is most_files most shown files t (Some (SamePath k)) err)
told_answer most_files most shown given (Err (FileTooLong k)) ok err files t = ap (λ o. unless_fault o (given files)) (first_is most_files most shown files t (Some (FileTooLong k)) err)
told_answer most_files most shown given (Err Memory) ok err files t = tt
