-- Runs: calls, disk faults, crashes and openings, one after another.
use Rattle.std.specs.Prelude.{◌≡◌, ◌⊎◌, ℕ, suc, Bool, true, false, List, [], ◌∷◌, ◌++◌, take, Option, None, Some, slice_get, Contains}
use Rattle.std.specs.Option.{option_and_then}

-- One call, from its start until the next row begins: the state before it, its one change or none, whether it was answered Ok, the
-- state after its change, and images that a crash left or might have left, at any of its moments and once it was answered.
pub record Row (State Change Image : Type 0) : Type 0 where
  pub before : State
  pub change : Option Change
  pub ok : Bool
  pub after : State
  pub images : List Image
  pub images_then : List Image

-- the change of a row, where it is committed
abbrev pub with_change : {Change : Type 0} → Option Change → List Change → List Change
with_change None changes = changes
with_change (Some change) changes = change ∷ changes

-- the committed changes of rows, by which of them were found committed
abbrev pub committed : {State Change Image : Type 0} → List Bool → List (Row State Change Image) → List Change
committed [] rows = []
committed (there ∷ told) [] = []
committed (true ∷ told) (row ∷ rows) = with_change row.change (committed told rows)
committed (false ∷ told) (row ∷ rows) = committed told rows

-- an acknowledged change is committed, and of each row it is told
abbrev pub Keeps : {State Change Image : Type 0} → List (Row State Change Image) → List Bool → Type 0
Keeps [] [] = Unit {0}
Keeps [] (there ∷ told) = ⊥
Keeps (row ∷ rows) [] = ⊥
Keeps (row ∷ rows) (there ∷ told) = (row.ok ≡ true → there ≡ true) × Keeps rows told

module _ {State Change Image : Type 0} (apply : Change → State → Option State) (Opens : Image → State → Type 0) where
  abbrev pub then_replay : List Change → Option State → Option State
  then_replay [] state = state
  then_replay (change ∷ changes) state = then_replay changes (option_and_then (apply change) state)

  -- the state after several changes in their order, none where one is not allowed
  abbrev pub replay : List Change → State → Option State
  replay changes state = then_replay changes (Some state)

  -- the change leads from one state to the other
  abbrev pub Leads : Option Change → State → State → Type 0
  Leads None before after = after ≡ before
  Leads (Some change) before after = apply change before ≡ Some after

  -- what one call promises of a crash: at any of its moments, and once it was answered Ok
  pub record IsStep (row : Row State Change Image) : Type 0 where
    pub effect : Leads row.change row.before row.after
    pub each : (image : Image) → Contains row.images image → Opens image row.before ⊎ Opens image row.after
    pub answered : row.ok ≡ true → (image : Image) → Contains row.images_then image → Opens image row.after

  -- the next row begins where this one ended; or, after a crash or a disk fault, at a state to which an image of this one opens
  abbrev pub Follows : Row State Change Image → State → Type 0
  Follows row next =
      (((row.ok ≡ true) ⊎ (row.change ≡ None)) × (next ≡ row.after))
      ⊎ (((row.ok ≡ true) × ((image : Image) × Contains row.images_then image × Opens image next))
      ⊎ ((row.ok ≡ false) × ((image : Image) × Contains row.images image × Opens image next)))

  -- rows from a state on
  abbrev pub AreRows : State → List (Row State Change Image) → Type 0
  AreRows start [] = Unit {0}
  AreRows start (row ∷ rows) = (row.before ≡ start) × IsStep row × ((next : State) × Follows row next × AreRows next rows)

  -- an image opens to the replay of these changes
  abbrev pub OpensTo : State → Image → List Change → Type 0
  OpensTo start image changes = (state : State) × (replay changes start ≡ Some state) × Opens image state

  -- One list of committed changes has each acknowledged one. An image of a row opens to the replay of the changes that were committed
  -- before it, or of these and its own; an image once the row was answered Ok, to that of all so far.
  pub record IsPrefixed (start : State) (rows : List (Row State Change Image)) : Type 0 where
    pub told : List Bool
    pub keeps : Keeps rows told
    pub each : (k : ℕ) (row : Row State Change Image) (image : Image) → slice_get rows k ≡ Some row → Contains row.images image
        → OpensTo start image (committed (take k told) (take k rows)) ⊎ OpensTo start image (committed (take k told) (take k rows) ++ with_change row.change [])
    pub answered : (k : ℕ) (row : Row State Change Image) (image : Image) → slice_get rows k ≡ Some row → row.ok ≡ true → Contains row.images_then image
        → OpensTo start image (committed (take (suc k) told) (take (suc k) rows))

  -- an image opens to one state
  abbrev pub OpensToOne : Type 0
  OpensToOne = (image : Image) (a b : State) → Opens image a → Opens image b → a ≡ b

  abbrev pub RunsArePrefixed : Type 0
  RunsArePrefixed = (start : State) (rows : List (Row State Change Image)) → AreRows start rows → IsPrefixed start rows
