-- What is wrong with the texts of groups: the first fault.
use Rattle.std.specs.Prelude.{◌≡◌, ℕ, ◌+◌, ◌==◌, ◌||◌, nat_lt, not, Bool, List, [], ◌∷◌, length, map, Option, Some, None, if◌then◌else◌}
use Rattle.std.specs.List.{list_any}
use Rattle.std.specs.Option.{option_or}
use Rattle.std.specs.Str.{bytes_eq}
use Rattle.cm_net.specs.declared.boundary.Boundary.{Boundary}
use Rattle.cm_groups.specs.declared.fault.GroupsFault.{GroupsFault}
use Rattle.cm_groups.specs.declared.fault.GroupsFault.TheVariants.{SameName, NoSuchGroup, NoSuchBoundary, SelfRelation, SameRelation, TooLongFallback, TooMany, Memory}
use Rattle.cm_groups.specs.declared.group_text.GroupText.{GroupText}
use Rattle.cm_groups.specs.Names.{is_among, is_before}
use Rattle.cm_groups.specs.Texts.{names_of_rows, group_names, has_repeat, is_too_long}

-- of the entries that begin with this number, the fault of the first one that has a fault
abbrev pub first_of : {X : Type 0} → (ℕ → X → Option GroupsFault) → ℕ → List X → Option GroupsFault
first_of fault entry [] = None
first_of fault entry (x ∷ xs) = option_or (fault entry x) (first_of fault (entry + 1) xs)

-- the least fault of a boundary: its name stands before, or 2,000 boundaries do
abbrev pub boundary_fault : List (List ℕ) → ℕ → List ℕ → Option GroupsFault
boundary_fault names entry name =
    (if is_before names entry name then Some (SameName 0 entry) else
    (if entry == 2000 then Some (TooMany 0 entry) else None))

-- a group of a lower number has the name: the default group has number 0, the first entry number 1
abbrev pub is_taken : List (List ℕ) → ℕ → GroupText → Bool
is_taken groups entry text = is_before groups (entry + 1) text.name

-- a relation leads to a name that no group has
abbrev pub leads_nowhere : List (List ℕ) → GroupText → Bool
leads_nowhere groups text = list_any (λ relation. not (is_among groups relation.0)) text.relations

-- a name of a boundary is that of none
abbrev pub lacks_boundary : List (List ℕ) → GroupText → Bool
lacks_boundary boundaries text = list_any (λ name. not (is_among boundaries name)) text.boundaries

-- a relation leads to the group itself
abbrev pub leads_to_itself : GroupText → Bool
leads_to_itself text = list_any (λ relation. bytes_eq relation.0 text.name) text.relations

-- two relations lead to one group
abbrev pub leads_twice : GroupText → Bool
leads_twice text = has_repeat (map (λ relation. relation.0) text.relations)

-- a relation has more minutes than there may be
abbrev pub has_too_long : GroupText → Bool
has_too_long text = list_any (λ relation. is_too_long relation.1) text.relations

-- 500 groups stand before, or the group has more than 64 relations
abbrev pub is_too_many : ℕ → GroupText → Bool
is_too_many entry text = entry == 500 || nat_lt 64 (length text.relations)

-- the least fault of a group, by the names of the boundaries and of all groups
abbrev pub group_fault : List (List ℕ) → List (List ℕ) → ℕ → GroupText → Option GroupsFault
group_fault boundaries groups entry text =
    (if is_taken groups entry text then Some (SameName 1 entry) else
    (if leads_nowhere groups text then Some (NoSuchGroup 1 entry) else
    (if lacks_boundary boundaries text then Some (NoSuchBoundary 1 entry) else
    (if leads_to_itself text then Some (SelfRelation 1 entry) else
    (if leads_twice text then Some (SameRelation 1 entry) else
    (if has_too_long text then Some (TooLongFallback 1 entry) else
    (if is_too_many entry text then Some (TooMany 1 entry) else None)))))))

-- the first fault of the boundaries
abbrev pub boundary_faults : List (List ℕ) → Option GroupsFault
boundary_faults names = first_of (boundary_fault names) 0 names

-- the first fault of the groups
abbrev pub group_faults : List (List ℕ) → List (List ℕ) → List GroupText → Option GroupsFault
group_faults boundaries groups texts = first_of (group_fault boundaries groups) 0 texts

-- the first fault of all: the boundaries stand before the groups
abbrev pub first_fault : List ℕ → List (List ℕ × Boundary) → List GroupText → Option GroupsFault
first_fault code rows texts = option_or (boundary_faults (names_of_rows rows)) (group_faults (names_of_rows rows) (group_names code texts) texts)

-- it is the first fault, or want of memory, which may come at any time
abbrev pub IsFirst : Option GroupsFault → GroupsFault → Type 0
IsFirst first (SameName part entry) = first ≡ Some (SameName part entry)
IsFirst first (NoSuchGroup part entry) = first ≡ Some (NoSuchGroup part entry)
IsFirst first (NoSuchBoundary part entry) = first ≡ Some (NoSuchBoundary part entry)
IsFirst first (SelfRelation part entry) = first ≡ Some (SelfRelation part entry)
IsFirst first (SameRelation part entry) = first ≡ Some (SameRelation part entry)
IsFirst first (TooLongFallback part entry) = first ≡ Some (TooLongFallback part entry)
IsFirst first (TooMany part entry) = first ≡ Some (TooMany part entry)
IsFirst first Memory = Unit {0}
