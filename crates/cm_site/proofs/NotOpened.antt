-- Why a bay is not opened, by what its disk reads as.
use Rattle.std.proofs.Common.{◌≡◌, ℕ, Bool, true, false, if◌then◌else◌, List, Option, refl, sym, ◌∙◌, ap}
use Rattle.std.specs.Option.{ForSome}
use Rattle.std.specs.Str.{bytes_eq}
use Rattle.cm_base.specs.Causes.{Rose}
use Rattle.cm_disk.specs.Disk.{File, Files}
use Rattle.cm_register.specs.Look.{Register, Missing as NoRecords, Unreadable as UnreadableRecords, look as look_records}
use Rattle.cm_state.specs.Look.{Library, Missing, Unreadable, look}
use Rattle.cm_state.specs.declared.fault.OpenFault.{OpenFault}
use Rattle.cm_state.specs.declared.fault.OpenFault.TheVariants as fault
use Rattle.cm_site.specs.Contents.{Content, OfLibrary, OfRecords, content_in, is_records, records_bay}
use Rattle.cm_site.specs.Openings.{site_fault}
use Rattle.cm_site.specs.Unopened.{IsFaultOf, none_in, unreadable_in}

-- what comparing the bytes of a name with those of the records tells
pub compared : (bytes name word : List ℕ) (test value : Bool) → bytes ≡ name → word ≡ records_bay → test ≡ bytes_eq bytes word → test ≡ value → is_records name ≡ value
compared bytes name word test value is records tests told =
    ap (λ (n : List ℕ). bytes_eq n records_bay) (sym is) ∙ (ap (λ (w : List ℕ). bytes_eq bytes w) (sym records) ∙ (sym tests ∙ told))

-- a content by its kind
abbrev either : Bool → Register → Library → Content
either b register library = if b then OfRecords register else OfLibrary library

same_records : (name : List ℕ) (files : Files) (register : Register) (library : Library) → is_records name ≡ true → look_records files ≡ register → content_in name files ≡ either (is_records name) register library
same_records name files register library is so =
    ap (λ (b : Bool). either b (look_records files) (look files)) is ∙ (ap OfRecords so ∙ ap (λ (b : Bool). either b register library) (sym is))

same_library : (name : List ℕ) (files : Files) (register : Register) (library : Library) → is_records name ≡ false → look files ≡ library → content_in name files ≡ either (is_records name) register library
same_library name files register library is so =
    ap (λ (b : Bool). either b (look_records files) (look files)) is ∙ (ap OfLibrary so ∙ ap (λ (b : Bool). either b register library) (sym is))

module _ {D : Type 0} (reads : D → Option Files) (faults : D → ℕ) (name : List ℕ) (old new : D) where
  -- the records were not opened
  pub records_fault : is_records name ≡ true → (f : OpenFault) → (f ≡ fault.NoLibrary → ForSome (reads old) (λ files. look_records files ≡ NoRecords))
      → ((place : List ℕ) (at : ℕ) → f ≡ fault.Unreadable place at → ForSome (reads old) (λ files. look_records files ≡ UnreadableRecords place at))
      → (f ≡ fault.Disk → Rose (faults old) (faults new)) → IsFaultOf reads faults name old new (site_fault name f)
  records_fault is fault.Disk none bytes cause = (refl, cause refl)
  records_fault is fault.NoLibrary none bytes cause = (refl, λ files told. same_records name files NoRecords Missing is (none refl files told))
  records_fault is (fault.Unreadable place at) none bytes cause = (refl, λ files told. same_records name files (UnreadableRecords place at) (Unreadable place at) is (bytes place at refl files told))
  records_fault is fault.Memory none bytes cause = tt

  -- the library was not
  pub library_fault : is_records name ≡ false → (f : OpenFault) → (f ≡ fault.NoLibrary → ForSome (reads old) (λ files. look files ≡ Missing))
      → ((place : List ℕ) (at : ℕ) → f ≡ fault.Unreadable place at → ForSome (reads old) (λ files. look files ≡ Unreadable place at))
      → (f ≡ fault.Disk → Rose (faults old) (faults new)) → IsFaultOf reads faults name old new (site_fault name f)
  library_fault is fault.Disk none bytes cause = (refl, cause refl)
  library_fault is fault.NoLibrary none bytes cause = (refl, λ files told. same_library name files NoRecords Missing is (none refl files told))
  library_fault is (fault.Unreadable place at) none bytes cause = (refl, λ files told. same_library name files (UnreadableRecords place at) (Unreadable place at) is (bytes place at refl files told))
  library_fault is fault.Memory none bytes cause = tt
