-- The names of the bays of a base folder.
use Rattle.std.specs.Prelude.{◌≡◌, ◌⊎◌, ℕ, if◌then◌else◌, not, ◌&&◌, true, Bool, length, List, [], ◌∷◌, ◌++◌, filter, fold, take, codes, Option, None, Some}
use Rattle.std.specs.BTreeSet.{insert_key}
use Rattle.std.specs.Cmp.Lexicographic.{slice_cmp}
use Rattle.std.specs.List.{AllByRecursion}
use Rattle.std.specs.List.Sorted.{IsStrictlySortedBy}
use Rattle.std.specs.Ordering.{nat_cmp}
use Rattle.std.specs.Str.{bytes_eq}
use Rattle.std.specs.declared.cmp.Ordering.TheVariants.{Less}
use Rattle.cm_base.specs.Names.{name_of}
use Rattle.cm_groups.specs.Names.{is_among}
use Rattle.cm_site.specs.Contents.{site, records_bay}

abbrev pub if_same : List ℕ → Option (List ℕ) → Option (List ℕ)
if_same text None = None
if_same text (Some name) = if bytes_eq name text then Some name else None

-- the name that a text gives, where that is the text itself
abbrev pub own_name : List ℕ → Option (List ℕ)
own_name text = if_same text (name_of text)

-- a bay beside the site's and the records': neither the base folder itself nor the folder above it
abbrev pub is_other : List ℕ → Bool
is_other name = not (bytes_eq name site) && not (bytes_eq name records_bay) && not (bytes_eq name (codes ".")) && not (bytes_eq name (codes ".."))

-- the names in byte order, each once
abbrev pub in_order : List (List ℕ) → List (List ℕ)
in_order names = fold (insert_key (slice_cmp nat_cmp)) [] names

-- the first 64 other ones in byte order
abbrev pub others_of : List (List ℕ) → List (List ℕ)
others_of names = take 64 (in_order (filter is_other names))

abbrev pub records_of : List (List ℕ) → List (List ℕ)
records_of names = if is_among names records_bay then records_bay ∷ [] else []

-- the bays of a base folder in which these names are there
abbrev pub bays_of : List (List ℕ) → List (List ℕ)
bays_of names = site ∷ (records_of names ++ others_of names)

-- The first 64 other ones of the names: they rise in byte order, each is one of the names, and one that is not among them stands behind 64.
pub record AreFirstOthers (names others : List (List ℕ)) : Type 0 where
  pub rising : IsStrictlySortedBy (slice_cmp nat_cmp) others
  pub there : AllByRecursion (λ name. (is_other name ≡ true) × (is_among names name ≡ true)) others
  pub least : (name : List ℕ) → is_other name ≡ true → is_among names name ≡ true
      → (is_among others name ≡ true) ⊎ ((length others ≡ 64) × AllByRecursion (λ other. slice_cmp nat_cmp other name ≡ Less) others)

-- the bays are the site's, the records' where they are there, and these others
pub record HasFirstOthers (names bays : List (List ℕ)) : Type 0 where
  pub others : List (List ℕ)
  pub is : bays ≡ site ∷ (records_of names ++ others)
  pub first : AreFirstOthers names others
