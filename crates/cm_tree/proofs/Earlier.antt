-- What holds of what a folder shows holds of what it showed before a call that changed nothing.
use Rattle.std.proofs.Common.{◌≡◌, ◌⊎◌, ℕ, ◌<◌, List, length, Option, Some, sym, ◌∙◌, subst, inl, inr}
use Rattle.cm_tree.specs.declared.entry.Entry.{Entry}
use Rattle.cm_tree.specs.declared.scan_fault.ScanFault.{ScanFault}
use Rattle.cm_tree.specs.declared.scan_fault.ScanFault.TheVariants.{Folder, TooManyFiles, BadPath, SamePath, FileTooLong, Memory}
use Rattle.cm_tree.specs.Trees.{File}
use Rattle.cm_tree.specs.Folders.{Shown, Stays, Agrees, WasRead, MayBeRead}
use Rattle.cm_tree.specs.Scans.{first_fault, Gathers, Scans, HasFault}
use Rattle.cm_tree.specs.Walks.{AreBytes}

module _ (first mid : Shown) (s : Stays first mid) where
  pub agrees_earlier : (files : List File) → Agrees mid files → Agrees first files
  agrees_earlier files a = record { paths = a.paths ∙ s.paths; bytes = λ k f at. subst (λ o. AreBytes o f.bytes) (s.now k) (a.bytes k f at) }

  pub gathers_earlier : (most_files most : ℕ) (tree : List File) → Gathers most_files most mid tree → Gathers most_files most first tree
  gathers_earlier most_files most tree h = record { tree_is = h.tree_is; agrees = agrees_earlier tree h.agrees; clean = h.clean }

  pub scans_earlier : (most_files most : ℕ) (entries : List Entry) → Scans most_files most mid entries → Scans most_files most first entries
  scans_earlier most_files most entries h = record { tree = h.tree; gathers = gathers_earlier most_files most h.tree h.gathers; entries_are = h.entries_are }

  found_earlier : (most_files most : ℕ) (o : Option ScanFault) → (files : List File) × Agrees mid files × (first_fault most_files most files ≡ o)
      → (files : List File) × Agrees first files × (first_fault most_files most files ≡ o)
  found_earlier most_files most o h = (h.0, agrees_earlier h.0 h.1, h.2)

  pub fault_earlier : (most_files most : ℕ) (e : ScanFault) → HasFault most_files most mid e → HasFault most_files most first e
  fault_earlier most_files most Folder h = tt
  fault_earlier most_files most TooManyFiles h = found_earlier most_files most (Some TooManyFiles) h
  fault_earlier most_files most (BadPath k) h = found_earlier most_files most (Some (BadPath k)) h
  fault_earlier most_files most (SamePath k) h = found_earlier most_files most (Some (SamePath k)) h
  fault_earlier most_files most (FileTooLong k) h = found_earlier most_files most (Some (FileTooLong k)) h
  fault_earlier most_files most Memory h = tt

  pub read_earlier : (new : Shown) → WasRead mid new → WasRead first new
  read_earlier new r = record {
    paths = r.paths ∙ s.paths;
    now = λ k lt. r.now k (subst (λ (ps : List (List ℕ)). k < length ps) (sym s.paths) lt) ∙ s.later k;
    later = λ k. r.later k ∙ s.later k;
  }

  pub may_earlier : (new : Shown) → MayBeRead mid new → MayBeRead first new
  may_earlier new m = record { paths = m.paths ∙ s.paths; now = λ k. both k (m.now k); later = λ k. m.later k ∙ s.later k }
    where
      both : (k : ℕ) → (new.now k ≡ mid.now k) ⊎ (new.now k ≡ mid.later k) → (new.now k ≡ first.now k) ⊎ (new.now k ≡ first.later k)
      both k (inl a) = inl (a ∙ s.now k)
      both k (inr a) = inr (a ∙ s.later k)
