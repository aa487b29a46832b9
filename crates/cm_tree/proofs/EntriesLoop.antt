-- The loop over the entries of a manifest.
use Rattle.std.proofs.Common.{◌≡◌, ℕ, suc, ◌+◌, ◌-◌, ◌<◌, ◌≤◌, List, [], ◌∷◌, ◌++◌, Result, Ok, Err, refl, sym, ◌∙◌, subst, arith}
use Rattle.std.proofs.lemmas.List.{map-append}
use Rattle.cm_tree.specs.declared.entry.Entry.{Entry}
use Rattle.cm_tree.specs.declared.taken.Taken.{Taken}
use Rattle.cm_tree.specs.declared.tree_fault.TreeFault.{TreeFault}
use Rattle.cm_tree.specs.declared.tree_fault.TreeFault.TheVariants.{BadForm, BadPath, Unsorted, SamePath, TooManyFiles, Memory}
use Rattle.cm_tree.specs.Manifests.{paths_of}
use Rattle.cm_tree.specs.Taking.{HasTaken}
use Rattle.cm_tree.specs.Reading.{Fails, entry_at, entries_at}

-- one entry more
pub goes_on : (count i total : ℕ) (before : List Entry) (bytes : List ℕ) (entry : Entry) (after : List ℕ) (whole : Result (List Entry × List ℕ) TreeFault)
    → i < count → entry_at before total bytes ≡ Ok (entry, after) → entries_at (count - i) total before bytes ≡ whole
    → entries_at (count - (i + 1)) total (before ++ entry ∷ []) after ≡ whole
unfolding entries_at
goes_on count i total before bytes entry after whole lt h so_far =
    let k : count - i ≡ suc (count - (i + 1)) = omega arith in
    let one : entries_at (count - i) total before bytes ≡ entries_at (count - (i + 1)) total (before ++ entry ∷ []) after = rw (k, h) refl in
    sym one ∙ so_far

stops : (e : TreeFault) (count i total : ℕ) (before : List Entry) (bytes : List ℕ) (whole : Result (List Entry × List ℕ) TreeFault)
    → i < count → entry_at before total bytes ≡ Err e → entries_at (count - i) total before bytes ≡ whole → whole ≡ Err e
unfolding entries_at
stops e count i total before bytes whole lt h so_far =
    let k : count - i ≡ suc (count - (i + 1)) = omega arith in
    let one : entries_at (count - i) total before bytes ≡ Err e = rw (k, h) refl in
    sym so_far ∙ one

-- a fault of an entry is the fault of them all
pub ends : (e : TreeFault) (count i total : ℕ) (before : List Entry) (bytes : List ℕ) (whole : Result (List Entry × List ℕ) TreeFault)
    → i < count → Fails e (entry_at before total bytes) → entries_at (count - i) total before bytes ≡ whole → Fails e whole
ends Memory count i total before bytes whole lt h so_far = tt
ends (BadForm at) count i total before bytes whole lt h so_far = stops (BadForm at) count i total before bytes whole lt h so_far
ends (BadPath entry) count i total before bytes whole lt h so_far = stops (BadPath entry) count i total before bytes whole lt h so_far
ends (Unsorted entry) count i total before bytes whole lt h so_far = stops (Unsorted entry) count i total before bytes whole lt h so_far
ends (SamePath entry) count i total before bytes whole lt h so_far = stops (SamePath entry) count i total before bytes whole lt h so_far
ends TooManyFiles count i total before bytes whole lt h so_far = stops TooManyFiles count i total before bytes whole lt h so_far

pub is_done : (count i total : ℕ) (before : List Entry) (bytes : List ℕ) (whole : Result (List Entry × List ℕ) TreeFault)
    → count ≤ i → entries_at (count - i) total before bytes ≡ whole → whole ≡ Ok (before, bytes)
unfolding entries_at
is_done count i total before bytes whole le so_far =
    let k : count - i ≡ 0 = omega arith in
    let one : entries_at (count - i) total before bytes ≡ Ok (before, bytes) = rw k refl in
    sym so_far ∙ one

pub paths_of-push : (before : List Entry) (entry : Entry) → paths_of (before ++ entry ∷ []) ≡ paths_of before ++ entry.path ∷ []
paths_of-push before entry = map-append (λ (e : Entry). e.path) before (entry ∷ [])

-- the paths taken, with one more
pub taken_more : (taken : Taken) (before : List Entry) (entry : Entry) → HasTaken taken (paths_of before ++ entry.path ∷ []) → HasTaken taken (paths_of (before ++ entry ∷ []))
taken_more taken before entry h = subst (λ (paths : List (List ℕ)). HasTaken taken paths) (sym (paths_of-push before entry)) h
