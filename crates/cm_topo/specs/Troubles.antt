-- What is wrong with values, where it stands, and values read in order.
use Rattle.std.specs.Prelude.{ℕ, ◌+◌, ◌++◌, Bool, List, [], ◌∷◌, map, Option, Some, None, Result, Ok, Err, if◌then◌else◌}
use Rattle.cm_topo.specs.declared.fault.TopoFault.{TopoFault}
use Rattle.cm_topo.specs.declared.fault.TopoFault.TheVariants as fault
use Rattle.cm_topo.specs.declared.trouble.Placed.{Placed}
use Rattle.cm_topo.specs.declared.trouble.Trouble.{Trouble}
use Rattle.cm_topo.specs.declared.trouble.Trouble.TheVariants.{Shape, Broken, Memory}

-- the first of a list
abbrev pub first : {X : Type 0} → List X → Option X
first [] = None
first (x ∷ xs) = Some x

-- the same with the value changed, and with what is wrong changed
abbrev pub result_map : {X Y E : Type 0} → (X → Y) → Result X E → Result Y E
result_map f (Ok x) = Ok (f x)
result_map f (Err e) = Err e

abbrev pub result_map_err : {X E F : Type 0} → (E → F) → Result X E → Result X F
result_map_err f (Ok x) = Ok x
result_map_err f (Err e) = Err (f e)

-- what comes of a value, or what is wrong with it
abbrev pub result_and_then : {X Y E : Type 0} → Result X E → (X → Result Y E) → Result Y E
result_and_then (Ok x) f = f x
result_and_then (Err e) f = Err e

-- what is made of values in order; the first that is wrong is the answer
abbrev pub in_order2 : {A B X E : Type 0} → (A → B → X) → Result A E → Result B E → Result X E
in_order2 f (Ok a) b = result_map (f a) b
in_order2 f (Err e) b = Err e

abbrev pub in_order3 : {A B C X E : Type 0} → (A → B → C → X) → Result A E → Result B E → Result C E → Result X E
in_order3 f (Ok a) b c = in_order2 (f a) b c
in_order3 f (Err e) b c = Err e

abbrev pub in_order4 : {A B C D X E : Type 0} → (A → B → C → D → X) → Result A E → Result B E → Result C E → Result D E → Result X E
in_order4 f (Ok a) b c d = in_order3 (f a) b c d
in_order4 f (Err e) b c d = Err e

-- a trouble at the entry of a part
abbrev pub fault_at : ℕ → ℕ → Trouble → Placed
fault_at part entry trouble = record { trouble = trouble; part = part; entry = entry }

-- the fault that a trouble is
abbrev pub fault_from : Trouble → ℕ → ℕ → TopoFault
fault_from Shape part entry = fault.WrongShape part entry
fault_from (Broken rule) part entry = fault.Rule rule part entry
fault_from Memory part entry = fault.Memory

abbrev pub fault_of : Placed → TopoFault
fault_of placed = fault_from placed.trouble placed.part placed.entry

-- a rule that is broken where a test holds
abbrev pub broken_if : Bool → ℕ → List Trouble
broken_if test rule = if test then Broken rule ∷ [] else []

-- a rule that is broken where a test does not hold
abbrev pub broken_unless : Bool → ℕ → List Trouble
broken_unless test rule = if test then [] else Broken rule ∷ []

-- what is wrong with the rows of a part, of which the first has this number
abbrev pub each_entry : {X : Type 0} → ℕ → (ℕ → X → List Trouble) → ℕ → List X → List Placed
each_entry part troubles entry [] = []
each_entry part troubles entry (x ∷ xs) = map (fault_at part entry) (troubles entry x) ++ each_entry part troubles (entry + 1) xs

-- the same where all stands in one entry
abbrev pub numbered : {X : Type 0} → (ℕ → X → List Trouble) → ℕ → List X → List Trouble
numbered troubles number [] = []
numbered troubles number (x ∷ xs) = troubles number x ++ numbered troubles (number + 1) xs
