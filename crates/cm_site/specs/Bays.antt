-- The disks that are handed in, by their names.
use Rattle.std.specs.Prelude.{◌≡◌, ◌⊎◌, ℕ, ◌≤◌, false, List, [], ◌∷◌, map, length}
use Rattle.cm_groups.specs.Names.{is_among}
use Rattle.cm_site.specs.Contents.{site, records_bay}
use Rattle.cm_site.specs.declared.bay.Bay.{Bay}

-- the names differ
abbrev pub AreDistinct : List (List ℕ) → Type 0
AreDistinct [] = Unit {0}
AreDistinct (name ∷ names) = (is_among names name ≡ false) × AreDistinct names

-- the first is the site's; the records' is the second or none
abbrev pub AreInOrder : List (List ℕ) → Type 0
AreInOrder [] = ⊥
AreInOrder (first ∷ []) = first ≡ site
AreInOrder (first ∷ second ∷ others) = (first ≡ site) × (is_among others records_bay ≡ false)

pub record AreNames (names : List (List ℕ)) : Type 0 where
  pub ordered : AreInOrder names
  pub distinct : AreDistinct names
  pub most : length names ≤ 66

abbrev pub names_of : {D : Type 0} → List (Bay D) → List (List ℕ)
names_of {D = D} bays = map (λ (bay : Bay D). bay.name) bays

-- the bays that a site may be made of
abbrev pub AreBays : {D : Type 0} → List (Bay D) → Type 0
AreBays bays = AreNames (names_of bays)
