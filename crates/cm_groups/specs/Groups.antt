-- The groups that texts describe.
use Rattle.std.specs.Prelude.{ℕ, List, [], ◌∷◌, map, Option, option_map, true, false}
use Rattle.std.specs.List.{find, filter_map}
use Rattle.std.specs.Str.{bytes_eq}
use Rattle.cm_net.specs.declared.boundary.Boundary.{Boundary}
use Rattle.cm_groups.specs.declared.fallback.Fallback.{Fallback}
use Rattle.cm_groups.specs.declared.group.Group.{Group}
use Rattle.cm_groups.specs.declared.group_text.GroupText.{GroupText}
use Rattle.cm_groups.specs.Names.{place_of}
use Rattle.cm_groups.specs.Texts.{group_names}

-- the boundary of that name
abbrev pub boundary_of : List (List ℕ × Boundary) → List ℕ → Option Boundary
boundary_of rows name = option_map (λ row. row.1) (find (λ row. bytes_eq row.0 name) rows)

-- a relation to a name as one to the number of the group that has it
abbrev pub relation_of : List (List ℕ) → List ℕ × Fallback → Option (ℕ × Fallback)
relation_of names relation = option_map (λ number. (number, relation.1)) (place_of names relation.0)

-- the boundaries that a text names
abbrev pub held_by : List (List ℕ × Boundary) → GroupText → List Boundary
held_by rows text = filter_map (boundary_of rows) text.boundaries

-- the relations that a text names, by the numbers of groups
abbrev pub leads_by : List (List ℕ) → GroupText → List (ℕ × Fallback)
leads_by names text = filter_map (relation_of names) text.relations

-- the group that a text describes, with these boundaries and relations
abbrev pub group_with : GroupText → List Boundary → List (ℕ × Fallback) → Group
group_with text held leads = record { options = text.options; boundaries = held; points = text.points; relations = leads }

-- the group that a text describes
abbrev pub group_of : List (List ℕ) → List (List ℕ × Boundary) → GroupText → Group
group_of names rows text = group_with text (held_by rows text) (leads_by names text)

-- the default group: it has points, and neither boundaries nor relations
abbrev pub default_group : List (List ℕ) → Group
default_group points = record {
  options = record { peers = true; same_subnet_only = false; prefer_points = false };
  boundaries = [];
  points = points;
  relations = [];
}

-- all groups by their numbers: the default group, and those of the texts in order
abbrev pub groups_of : List ℕ → List (List ℕ × Boundary) → List GroupText → List (List ℕ) → List Group
groups_of code rows texts points = default_group points ∷ map (group_of (group_names code texts) rows) texts
