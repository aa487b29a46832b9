-- Where the library of a bay, and the records, stand among the members of a site.
use Rattle.std.specs.Prelude.{◌≡◌, ℕ, zero, suc, false, List, [], ◌∷◌}
use Rattle.std.specs.Str.{bytes_eq}
use Rattle.cm_library.specs.Kept.{Seen}
use Rattle.cm_records.specs.Seen.{Seen as SeenRecords}
use Rattle.cm_site.specs.declared.member.Hold.TheVariants as hold
use Rattle.cm_site.specs.declared.member.Member.{Member}

-- the first member of the name stands there, and it is a library
abbrev pub IsLibraryAt : {D : Type 0} → List ℕ → ℕ → List (Member D) → Type 0
IsLibraryAt bay n [] = ⊥
IsLibraryAt {D = D} bay zero (member ∷ members) = (member.name ≡ bay) × ((library : Seen D) × (member.hold ≡ hold.Library library))
IsLibraryAt bay (suc n) (member ∷ members) = (bytes_eq member.name bay ≡ false) × IsLibraryAt bay n members

-- the first member of the name stands there, and it is the records
abbrev pub IsRecordsAt : {D : Type 0} → List ℕ → ℕ → List (Member D) → Type 0
IsRecordsAt bay n [] = ⊥
IsRecordsAt {D = D} bay zero (member ∷ members) = (member.name ≡ bay) × ((records : SeenRecords D) × (member.hold ≡ hold.Records records))
IsRecordsAt bay (suc n) (member ∷ members) = (bytes_eq member.name bay ≡ false) × IsRecordsAt bay n members
