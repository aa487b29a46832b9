-- What `init` does to a bay, and to all bays.
use Rattle.std.specs.Prelude.{◌≡◌, ◌⊎◌, ℕ, ◌++◌, Bool, true, false, List, ◌∷◌, length, Option}
use Rattle.std.specs.Option.{ForSome}
use Rattle.cm_base.specs.Causes.{Rose}
use Rattle.cm_disk.specs.Disk.{File, Files, IsImage, LeavesOnly}
use Rattle.cm_state.specs.Adding.{Told}
use Rattle.cm_site.specs.Contents.{Content, Made, content_after, content_in, gate_of, OpensTo}
use Rattle.cm_site.specs.Machine.{is_empty, is_made, makings}
use Rattle.cm_site.specs.Runs.{AllBays, Becomes, HasKind, KeepsBy}
use Rattle.cm_site.specs.Worlds.{World, Part}
use Rattle.cm_site.specs.declared.bay.Bay.{Bay}

-- a disk is this part
pub record IsAsPart {D : Type 0} (reads : D → Option Files) (part : Part) (disk : D) : Type 0 where
  pub kind : HasKind part.name part.content
  pub content : ForSome (reads disk) (λ files. content_in part.name files ≡ part.content)
  pub gate : ForSome (reads disk) (λ files. gate_of part.name files ≡ part.gate)

-- what a bay holds after it was made, or was not
abbrev pub made_of : Bool → Content → Content
made_of true content = content_after Made content
made_of false content = content

-- An image opens to what a bay held before it was made, or to what it holds then. There is none of a bay that is not to be made.
abbrev pub OpensEither : Bool → Content → Files → Type 0
OpensEither true content image = OpensTo content image ⊎ OpensTo (content_after Made content) image
OpensEither false content image = ⊥

-- an image of a bay that was made opens to what was made; of another it was one at the entry
abbrev pub OpensMade : Bool → Content → (List ℕ → File → Type 0) → Files → Type 0
OpensMade true content may_leave image = OpensTo (content_after Made content) image
OpensMade false content may_leave image = IsImage may_leave image

-- What holds of a bay, finished or not: it is to be made, or not.
pub record Makes {D : Type 0} (reads : D → Option Files) (may_leave : D → List ℕ → File → Type 0) (moment : D → ℕ) (left_since : D → ℕ → Files → Type 0) (made : Bool) (part : Part) (old new : D) : Type 0 where
  pub is : IsAsPart reads part old
  pub places : Told (KeepsBy false part.content) (reads old) (reads new)
  pub same : made ≡ false → reads new ≡ reads old
  pub moments : ForSome (reads old) (λ _. LeavesOnly moment left_since old new (λ image. IsImage (may_leave old) image ⊎ OpensEither made part.content image))

-- It is done.
pub record MakesWhole {D : Type 0} (reads : D → Option Files) (may_leave : D → List ℕ → File → Type 0) (moment : D → ℕ) (left_since : D → ℕ → Files → Type 0) (made : Bool) (part : Part) (old new : D) : Type 0 where
  pub makes : Makes reads may_leave moment left_since made part old new
  pub becomes : Becomes (reads old) (reads new) (made_of made part.content)
  pub leaves : ForSome (reads old) (λ _. (image : Files) → IsImage (may_leave new) image → OpensMade made part.content (may_leave old) image)

-- The disk failed: it is done or not.
pub record MakesOrNot {D : Type 0} (reads : D → Option Files) (may_leave : D → List ℕ → File → Type 0) (moment : D → ℕ) (left_since : D → ℕ → Files → Type 0) (made : Bool) (part : Part) (old new : D) : Type 0 where
  pub makes : Makes reads may_leave moment left_since made part old new
  pub becomes : Becomes (reads old) (reads new) part.content ⊎ ((made ≡ true) × Becomes (reads old) (reads new) (content_after Made part.content))
  pub images : ForSome (reads old) (λ _. (image : Files) → IsImage (may_leave new) image → IsImage (may_leave old) image ⊎ OpensEither made part.content image)

module _ {D : Type 0} (reads : D → Option Files) (may_leave : D → List ℕ → File → Type 0) (moment : D → ℕ) (left_since : D → ℕ → Files → Type 0) where
  -- a bay that has nothing was made
  pub record HasMade (made : Bool) (name : List ℕ) (old new : D) : Type 0 where
    pub part : Part
    pub named : name ≡ part.name
    pub is_so : is_empty part.content ≡ made
    pub whole : MakesWhole reads may_leave moment left_since made part old new

  -- a bay that is meant and has nothing was made
  pub record HasMadeMeant (names : List (List ℕ)) (made : Bool) (name : List ℕ) (old new : D) : Type 0 where
    pub part : Part
    pub named : name ≡ part.name
    pub is_so : is_made names part ≡ made
    pub whole : MakesWhole reads may_leave moment left_since made part old new

  -- all bays that are meant and had nothing were made, so many
  pub record HasMadeAll (names : List (List ℕ)) (count : ℕ) (old new : List (Bay D)) : Type 0 where
    pub world : World
    pub each : AllBays (λ part. MakesWhole reads may_leave moment left_since (is_made names part) part) world old new
    pub count_is : length (makings names world) ≡ count

  module _ (faults : D → ℕ) where
    -- the disk of a bay failed, which is told by its name
    pub record StopsMaking (told name : List ℕ) (old new : D) : Type 0 where
      pub part : Part
      pub named : name ≡ part.name
      pub told_is : told ≡ name
      pub rose : Rose (faults old) (faults new)
      pub stopped : MakesOrNot reads may_leave moment left_since (is_empty part.content) part old new

    pub record StopsMakingMeant (names : List (List ℕ)) (told name : List ℕ) (old new : D) : Type 0 where
      pub part : Part
      pub named : name ≡ part.name
      pub told_is : told ≡ name
      pub rose : Rose (faults old) (faults new)
      pub stopped : MakesOrNot reads may_leave moment left_since (is_made names part) part old new

    -- The bays before one were made; its disk failed; those behind it are as they were.
    pub record StopsMakingAt (names : List (List ℕ)) (told : List ℕ) (old new : List (Bay D)) : Type 0 where
      pub olds : List (Bay D)
      pub news : List (Bay D)
      pub count : ℕ
      pub made : HasMadeAll names count olds news
      pub bay : Bay D
      pub now : Bay D
      pub named : now.name ≡ bay.name
      pub stopped : StopsMakingMeant names told bay.name bay.disk now.disk
      pub rest : List (Bay D)
      pub before : old ≡ olds ++ bay ∷ rest
      pub after : new ≡ news ++ now ∷ rest
