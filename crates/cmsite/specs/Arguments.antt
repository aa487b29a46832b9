-- What the arguments behind the program's name say.
use Rattle.std.specs.Prelude.{◌≡◌, ℕ, true, List, [], ◌∷◌, ◌++◌, drop, map, codes, Result, Ok, Err}
use Rattle.std.specs.Prelude.{String, string_bytes}
use Rattle.std.specs.List.{list_all}
use Rattle.cm_groups.specs.Names.{is_among}
use Rattle.cm_top.specs.declared.fault.WordsFault.{WordsFault}
use Rattle.cm_top.specs.declared.line.Line.{Line}
use Rattle.cm_top.specs.declared.line.Line.TheVariants.{Init}
use Rattle.cm_top.specs.Words.{read_line}
use Rattle.cmsite.specs.BayNames.{bays_of}

-- the bytes of each argument
abbrev pub texts : {A : Type 0} → List (String A) → List (List ℕ)
texts arguments = map (λ word. string_bytes word) arguments

-- the base folder, where there are two arguments or more, else this folder
abbrev pub base_in : List (List ℕ) → List ℕ
base_in [] = codes "."
base_in (only ∷ []) = codes "."
base_in (base ∷ folder ∷ words) = base

-- the folder that a package is added from, else none
abbrev pub folder_in : List (List ℕ) → List ℕ
folder_in [] = codes "-"
folder_in (only ∷ []) = codes "-"
folder_in (base ∷ folder ∷ words) = folder

-- the words, else none
abbrev pub words_in : {A : Type 0} → List A → List A
words_in arguments = drop 2 arguments

-- the folder of a bay's disk
abbrev pub bay_in : List ℕ → List ℕ → List ℕ
bay_in base name = base ++ codes "/" ++ name

-- the names that an `init` gives; other words give none
abbrev pub names_of_line : Result Line WordsFault → List (List ℕ)
names_of_line (Ok (Init names)) = names
names_of_line (Ok line) = []
names_of_line (Err fault) = []

abbrev pub names_in : List (List ℕ) → List (List ℕ)
names_in words = names_of_line (read_line words)

-- The words say `init`, and each bay that they name is one of a base folder without subfolders: so it is not refused where there is no base
-- folder.
abbrev pub MakesBase : List (List ℕ) → Type 0
MakesBase words = (names : List (List ℕ)) × (read_line words ≡ Ok (Init names)) × (list_all (is_among (bays_of names)) names ≡ true)
