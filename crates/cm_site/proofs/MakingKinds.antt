-- The making of a library and of records, as what is done to a bay.
use Rattle.std.proofs.Common.{◌≡◌, ◌≢◌, ◌⊎◌, ℕ, ◌≤◌, Bool, true, false, List, Option, inl, inr, refl, sym, ◌∙◌, ap}
use Rattle.std.specs.Prelude.{cond}
use Rattle.std.specs.Option.{ForSome}
use Rattle.std.proofs.lemmas.Bool.{false≢true}
use Rattle.cm_base.specs.Causes.{Rose}
use Rattle.cm_disk.specs.Disk.{File, Files, IsImage, LeavesOnly}
use Rattle.cm_disk.proofs.Moments.{weaker}
use Rattle.cm_library.specs.Placing.{KeepsPlaces}
use Rattle.cm_records.specs.Placing.{KeepsPlaces as KeepsRecordsPlaces}
use Rattle.cm_register.specs.Look.{Register, Missing as NoRecords, Opened as OpenedRecords, Unreadable as UnreadableRecords, look as look_records}
use Rattle.cm_register.specs.Opens.{Makes as MakesRecords, MakesOrNot as MakesRecordsOrNot, IsMade as AreMade, IsMadeOrNot as AreMadeOrNot}
use Rattle.cm_register.specs.Records.{no_records}
use Rattle.cm_state.specs.Adding.{Told}
use Rattle.cm_state.specs.Becomes.{Makes, MakesOrNot, IsMade, IsMadeOrNot}
use Rattle.cm_state.specs.Look.{Library, Missing, Opened, Unreadable, look}
use Rattle.cm_state.specs.State.{empty}
use Rattle.cm_site.specs.Contents.{Content, OfLibrary, OfRecords, Made, content_after, content_in, is_records, ReadsAs, OpensTo}
use Rattle.cm_site.specs.Machine.{is_empty}
use Rattle.cm_site.specs.Making.{HasMade, StopsMaking}
use Rattle.cm_site.specs.Runs.{HasKind, KeepsBy}
use Rattle.cm_site.proofs.MakingOne.{has_made, was_there, stops_making}

same_library : {a b : Library} → OfLibrary a ≡ OfLibrary b → a ≡ b
same_library e = cc

same_register : {a b : Register} → OfRecords a ≡ OfRecords b → a ≡ b
same_register e = cc

full_library : (library : Library) → library ≢ Missing → is_empty (OfLibrary library) ≡ false
full_library Missing there = absurd (there refl)
full_library (Opened state) there = refl
full_library (Unreadable place at) there = refl

full_register : (register : Register) → register ≢ NoRecords → is_empty (OfRecords register) ≡ false
full_register NoRecords there = absurd (there refl)
full_register (OpenedRecords records) there = refl
full_register (UnreadableRecords place at) there = refl

module _ {D : Type 0} (reads : D → Option Files) (may_leave : D → List ℕ → File → Type 0) (moment : D → ℕ) (left_since : D → ℕ → Files → Type 0) (name : List ℕ) (old new : D) where
  module _ (kind : is_records name ≡ false) (places : Told KeepsPlaces (reads old) (reads new)) (run : ForSome (reads old) (λ files. LeavesOnly moment left_since old new (IsMadeOrNot files (may_leave old)))) where
    in_library : (files : Files) → content_in name files ≡ OfLibrary (look files)
    in_library files = ap (λ (b : Bool). cond b (OfRecords (look_records files)) (OfLibrary (look files))) kind

    is_missing : (files : Files) → look files ≡ Missing → content_in name files ≡ OfLibrary Missing
    is_missing files is = in_library files ∙ ap OfLibrary is

    not_missing : (files : Files) → content_in name files ≢ OfLibrary Missing → is_empty (content_in name files) ≡ false
    not_missing files there = ap is_empty (in_library files) ∙ full_library (look files) (λ is. there (is_missing files is))

    library_places : (content : Content) → HasKind name content → Told (KeepsBy false content) (reads old) (reads new)
    library_places (OfLibrary library) of_kind = places
    library_places (OfRecords register) of_kind = absurd (false≢true (sym kind ∙ of_kind))

    library_opens : (left : Files) → (look left ≡ Missing) ⊎ IsMade left → OpensTo (OfLibrary Missing) left ⊎ OpensTo (content_after Made (OfLibrary Missing)) left
    library_opens left (inl missing) = inl missing
    library_opens left (inr made) = inr (record { stands = made; whole = tt })

    library_run : ForSome (reads old) (λ files. LeavesOnly moment left_since old new
        (λ (left : Files). IsImage (may_leave old) left ⊎ ((content_in name files ≡ OfLibrary Missing) × (OpensTo (OfLibrary Missing) left ⊎ OpensTo (content_after Made (OfLibrary Missing)) left))))
    library_run files told = weaker moment left_since old new (IsMadeOrNot files (may_leave old))
        (λ (left : Files). IsImage (may_leave old) left ⊎ ((content_in name files ≡ OfLibrary Missing) × (OpensTo (OfLibrary Missing) left ⊎ OpensTo (content_after Made (OfLibrary Missing)) left)))
        (run files told) (λ left was. elim was [ inl image ↦ inl image | inr other ↦ inr (is_missing files other.0, library_opens left other.1) ])

    -- an empty library was made
    pub makes_library : Makes (reads old) (reads new) → ForSome (reads old) (λ _. (left : Files) → IsImage (may_leave new) left → IsMade left) → HasMade reads may_leave moment left_since true name old new
    makes_library made durable =
        has_made reads may_leave moment left_since name (OfLibrary Missing) kind refl old new library_places library_run
        (λ files told. is_missing files (made.0 files told)) made.1 (λ files told image left. record { stands = durable files told image left; whole = tt })

    module _ (counts : (t : ℕ) (files : Files) → t ≤ moment new → IsImage (may_leave new) files → left_since new t files) where
      -- there was a library
      pub library_there : ForSome (reads old) (λ files. look files ≢ Missing) → reads new ≡ reads old → HasMade reads may_leave moment left_since false name old new
      library_there there same =
          was_there reads may_leave moment left_since name (OfLibrary Missing) kind refl old new library_places library_run counts
          (OfLibrary (Opened empty)) kind refl not_missing (λ files told is. there files told (same_library (sym (in_library files) ∙ is))) same

      -- the disk failed
      pub library_stops : MakesOrNot (reads old) (reads new) → (faults : D → ℕ) → Rose (faults old) (faults new) → StopsMaking reads may_leave moment left_since faults name name old new
      library_stops failed =
          stops_making reads may_leave moment left_since name (OfLibrary Missing) kind refl old new library_places library_run counts
          (λ files told. ((failed files told).0, (failed files told).1, elim (failed files told).2 [ inl same ↦ inl same | inr other ↦ inr (is_missing files other.0, reads_either (failed files told).0 other.1) ]))
        where
          reads_either : (now : Files) → (look now ≡ Missing) ⊎ IsMade now → ReadsAs (OfLibrary Missing) now ⊎ ReadsAs (content_after Made (OfLibrary Missing)) now
          reads_either now (inl missing) = inl missing
          reads_either now (inr made) = inr made

  module _ (kind : is_records name ≡ true) (places : Told KeepsRecordsPlaces (reads old) (reads new)) (run : ForSome (reads old) (λ files. LeavesOnly moment left_since old new (AreMadeOrNot files (may_leave old)))) where
    in_records : (files : Files) → content_in name files ≡ OfRecords (look_records files)
    in_records files = ap (λ (b : Bool). cond b (OfRecords (look_records files)) (OfLibrary (look files))) kind

    are_missing : (files : Files) → look_records files ≡ NoRecords → content_in name files ≡ OfRecords NoRecords
    are_missing files is = in_records files ∙ ap OfRecords is

    records_full : (files : Files) → content_in name files ≢ OfRecords NoRecords → is_empty (content_in name files) ≡ false
    records_full files there = ap is_empty (in_records files) ∙ full_register (look_records files) (λ is. there (are_missing files is))

    records_places : (content : Content) → HasKind name content → Told (KeepsBy false content) (reads old) (reads new)
    records_places (OfLibrary library) of_kind = absurd (false≢true (sym of_kind ∙ kind))
    records_places (OfRecords register) of_kind = places

    records_open : (left : Files) → (look_records left ≡ NoRecords) ⊎ AreMade left → OpensTo (OfRecords NoRecords) left ⊎ OpensTo (content_after Made (OfRecords NoRecords)) left
    records_open left (inl missing) = inl missing
    records_open left (inr made) = inr made

    records_run : ForSome (reads old) (λ files. LeavesOnly moment left_since old new
        (λ (left : Files). IsImage (may_leave old) left ⊎ ((content_in name files ≡ OfRecords NoRecords) × (OpensTo (OfRecords NoRecords) left ⊎ OpensTo (content_after Made (OfRecords NoRecords)) left))))
    records_run files told = weaker moment left_since old new (AreMadeOrNot files (may_leave old))
        (λ (left : Files). IsImage (may_leave old) left ⊎ ((content_in name files ≡ OfRecords NoRecords) × (OpensTo (OfRecords NoRecords) left ⊎ OpensTo (content_after Made (OfRecords NoRecords)) left)))
        (run files told) (λ left was. elim was [ inl image ↦ inl image | inr other ↦ inr (are_missing files other.0, records_open left other.1) ])

    -- new records were made
    pub makes_records : MakesRecords (reads old) (reads new) → ForSome (reads old) (λ _. (left : Files) → IsImage (may_leave new) left → AreMade left) → HasMade reads may_leave moment left_since true name old new
    makes_records made durable =
        has_made reads may_leave moment left_since name (OfRecords NoRecords) kind refl old new records_places records_run
        (λ files told. are_missing files (made.0 files told)) made.1 durable

    module _ (counts : (t : ℕ) (files : Files) → t ≤ moment new → IsImage (may_leave new) files → left_since new t files) where
      -- there were some
      pub records_there : ForSome (reads old) (λ files. look_records files ≢ NoRecords) → reads new ≡ reads old → HasMade reads may_leave moment left_since false name old new
      records_there there same =
          was_there reads may_leave moment left_since name (OfRecords NoRecords) kind refl old new records_places records_run counts
          (OfRecords (OpenedRecords no_records)) kind refl records_full (λ files told is. there files told (same_register (sym (in_records files) ∙ is))) same

      -- the disk failed
      pub records_stop : MakesRecordsOrNot (reads old) (reads new) → (faults : D → ℕ) → Rose (faults old) (faults new) → StopsMaking reads may_leave moment left_since faults name name old new
      records_stop failed =
          stops_making reads may_leave moment left_since name (OfRecords NoRecords) kind refl old new records_places records_run counts
          (λ files told. ((failed files told).0, (failed files told).1, elim (failed files told).2 [ inl same ↦ inl same | inr other ↦ inr (are_missing files other.0, reads_either (failed files told).0 other.1) ]))
        where
          reads_either : (now : Files) → (look_records now ≡ NoRecords) ⊎ AreMade now → ReadsAs (OfRecords NoRecords) now ⊎ ReadsAs (content_after Made (OfRecords NoRecords)) now
          reads_either now (inl missing) = inl missing
          reads_either now (inr made) = inr made
