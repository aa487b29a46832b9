-- The changes of one bay among those of a step.
use Rattle.std.proofs.Common.{◌≡◌, ℕ, zero, suc, Bool, true, false, List, [], ◌∷◌, refl, sym, ◌∙◌, ap, subst}
use Rattle.std.specs.Prelude.{take, map, cond, filter}
use Rattle.std.specs.Str.{bytes_eq}
use Rattle.cm_state.specs.Changes.{StateChange}
use Rattle.cm_site.specs.Contents.{Change, InLibrary}
use Rattle.cm_site.specs.Worlds.{Placed, at, own}

abbrev is_own : List ℕ → Placed → Bool
is_own name placed = bytes_eq placed.bay name

abbrev change_of : Placed → Change
change_of placed = placed.change

-- a bay of which nothing changes has no change among the first ones either
pub none_of_first : (name : List ℕ) (n : ℕ) (changes : List Placed) → own name changes ≡ [] → own name (take n changes) ≡ []
none_of_first name zero changes none = refl
none_of_first name (suc n) [] none = refl
none_of_first name (suc n) (placed ∷ changes) none = by (bytes_eq placed.bay name) (none_of_first name n changes) none
  where
    by : (b : Bool) → (own name changes ≡ [] → own name (take n changes) ≡ []) → map change_of (cond b (placed ∷ filter (is_own name) changes) (filter (is_own name) changes)) ≡ []
        → map change_of (cond b (placed ∷ filter (is_own name) (take n changes)) (filter (is_own name) (take n changes))) ≡ []
    by true rest some = absurd (cc)
    by false rest others = rest others

-- the changes of another bay's library
pub none_of_other : (bay name : List ℕ) (changes : List StateChange) → bytes_eq bay name ≡ false → own name (map (λ (change : StateChange). at bay (InLibrary change)) changes) ≡ []
none_of_other bay name [] other = refl
none_of_other bay name (change ∷ changes) other = rw other (none_of_other bay name changes other)

-- a change of another bay
pub none_of_one : (bay name : List ℕ) (change : Change) → bytes_eq bay name ≡ false → own name (at bay change ∷ []) ≡ []
none_of_one bay name change other = rw other refl
