-- What bytes say, and what rows come to.
use Rattle.std.proofs.Common.{◌≡◌, ◌≢◌, ◌<◌, ◌≤◌, ◌∙◌, ℕ, List, [], ◌∷◌, get_or, length, map, Option, Some, None, Result, Ok, Err, refl, ap, sym, subst, arith}
use Rattle.std.specs.List.{zip}
use Rattle.std.specs.Str.{IsUtf8, is_utf8}
use Rattle.std.proofs.lemmas.Bool.{cond-true, cond_both}
use Rattle.std.proofs.lemmas.List.{get_or-map, length-map}
use Rattle.std.proofs.lemmas.Str.{IsUtf8-from_is_utf8, is_utf8-from_IsUtf8}
use Rattle.cm_groups.specs.declared.fallback.Fallback.{Fallback}
use Rattle.cm_groups.specs.declared.group_text.GroupText.{GroupText}
use Rattle.cm_groups.specs.declared.group.Group.{Group}
use Rattle.cm_groups.specs.Groups.{groups_of, held_by}
use Rattle.cm_net.specs.declared.boundary.Boundary.{Boundary}
use Rattle.toml.specs.Data.{Members}
use Rattle.toml.specs.Parse.{parse_document}
use Rattle.cm_topo.specs.declared.fault.TopoFault.{TopoFault}
use Rattle.cm_topo.specs.declared.fault.TopoFault.TheVariants as fault
use Rattle.cm_topo.specs.declared.fault.TopoFault.TheVariants.{NotToml}
use Rattle.cm_topo.specs.declared.known.Known.{Known}
use Rattle.cm_topo.specs.declared.trouble.Placed.{Placed}
use Rattle.cm_topo.specs.declared.topology.Topology.{Topology}
use Rattle.cm_topo.specs.declared.topology_text.TopologyText.{TopologyText}
use Rattle.cm_topo.specs.declared.trouble.Trouble.{Trouble}
use Rattle.cm_topo.specs.declared.trouble.Trouble.TheVariants.{Shape, Broken, Memory}
use Rattle.cm_topo.specs.Outcomes.{both_passes, checked, document_of, outcome_or, topology_in, topology_of, unless_faulty}
use Rattle.cm_topo.specs.Rows.{with_relations}
use Rattle.cm_topo.specs.SecondPass.{known_of, refers, second_pass}
use Rattle.cm_topo.specs.Troubles.{fault_from, fault_of, first, result_map_err}

-- the document that a text is
document_is : (bytes : List ℕ) (d : Members) → IsUtf8 bytes → parse_document bytes ≡ Some d → document_of bytes ≡ Some d
document_is bytes d text parsed = cond-true (is_utf8 bytes) (parse_document bytes) None (is_utf8-from_IsUtf8 bytes text) ∙ parsed

-- no document, where none is parsed from a text
pub no_topology : (bytes : List ℕ) → (IsUtf8 bytes → parse_document bytes ≡ None) → topology_in bytes ≡ Err NotToml
no_topology bytes none =
    let no_document : document_of bytes ≡ None = cond_both (is_utf8 bytes) (parse_document bytes) None (λ found. found ≡ None) (λ text. none (IsUtf8-from_is_utf8 bytes text)) (λ _. refl) in
    ap outcome_or no_document

-- what both passes make of the document
pub topology_is_said : (bytes : List ℕ) (d : Members) (answer : Result Topology Placed) → IsUtf8 bytes → parse_document bytes ≡ Some d → both_passes d ≡ answer → topology_in bytes ≡ result_map_err fault_of answer
topology_is_said bytes d answer text parsed come = ap outcome_or (document_is bytes d text parsed) ∙ ap (λ (r : Result Topology Placed). result_map_err fault_of r) come

-- the fault of a place, unless there was no memory
fault_is_said : (trouble : Trouble) (part entry : ℕ) → fault_from trouble part entry ≢ fault.Memory → trouble ≢ Memory
fault_is_said trouble part entry other e = other (ap (λ (t : Trouble). fault_from t part entry) e)

pub placed_is_said : (placed : Placed) → fault_of placed ≢ fault.Memory → placed.trouble ≢ Memory
placed_is_said placed other = fault_is_said placed.trouble placed.part placed.entry other

-- the first of the faults, or none
faulty : (faults : List Placed) (topology : Topology) (fault : Placed) → first faults ≡ Some fault → unless_faulty faults topology ≡ Err fault
faulty [] topology fault e = absurd (cc)
faulty (other ∷ faults) topology fault e = cc

faultless : (faults : List Placed) (topology : Topology) → first faults ≡ None → unless_faulty faults topology ≡ Ok topology
faultless [] topology e = refl
faultless (other ∷ faults) topology e = absurd (cc)

by_names : (known : Known) (text : TopologyText) (found : Option Placed) → known ≡ known_of text → first (refers known text) ≡ found → first (second_pass text) ≡ found
by_names known text found are is = ap (λ (names : Known). first (refers names text)) (sym are) ∙ is

pub checked-fault : (known : Known) (text : TopologyText) (fault : Placed) → known ≡ known_of text → first (refers known text) ≡ Some fault → checked text ≡ Err fault
checked-fault known text fault are is = faulty (second_pass text) (topology_of text) fault (by_names known text (Some fault) are is)

pub checked-topology : (known : Known) (text : TopologyText) (topology : Topology) → known ≡ known_of text → first (refers known text) ≡ None → topology ≡ topology_of text → checked text ≡ Ok topology
checked-topology known text topology are is made = faultless (second_pass text) (topology_of text) (by_names known text None are is) ∙ ap (λ (t : Topology). Ok t) (sym made)

-- no more groups with relations than groups
zip_few : {X Y : Type 0} (xs : List X) (ys : List Y) → length (zip xs ys) ≤ length xs
zip_few [] ys = omega arith
zip_few (x ∷ xs) [] = omega arith
zip_few (x ∷ xs) (y ∷ ys) = omega (arith, zip_few xs ys)

pub few_texts : (texts : List GroupText) (groups : List GroupText) (relations : List (List (List ℕ × Fallback))) → texts ≡ map (λ row. with_relations row.0 row.1) (zip groups relations) → length texts ≤ length groups
few_texts texts groups relations e =
    let join : GroupText × List (List ℕ × Fallback) → GroupText = λ row. with_relations row.0 row.1 in
    omega (arith, ap length e, length-map (zip groups relations) join, zip_few groups relations)

-- what was found for the group of that number
pub found_at : (rows : List (List ℕ × Boundary)) (texts : List GroupText) (held : List (List Boundary)) (entry : ℕ) (text : GroupText) (own : List Boundary)
    → held ≡ map (λ each. held_by rows each) texts → entry < length texts → text ≡ get_or texts entry text → own ≡ get_or held entry own → own ≡ held_by rows text
found_at rows texts held entry text own are lt is found =
    let of : GroupText → List Boundary = λ each. held_by rows each in
    found ∙ ap (λ (xs : List (List Boundary)). get_or xs entry own) are ∙ get_or-map of texts entry text own lt ∙ ap of (sym is)

-- the topology of rows, by what their lists are
pub topology_is : (text : TopologyText) (rows : List (List ℕ × Boundary)) (near texts : List GroupText) (points : List (List ℕ)) (groups : List Group)
    → rows ≡ text.sites.boundaries → near ≡ text.sites.groups → texts ≡ text.sites.groups → points ≡ text.servers.default_points → groups ≡ groups_of text.sites.code rows texts points
    → record { code = text.sites.code; boundary_count = length rows; group_count = length near; groups = groups; points = text.servers.points; point_groups = text.servers.point_groups; peers = text.servers.peers } ≡ topology_of text
topology_is text rows near texts points groups rows_are near_are texts_are points_are made =
    let code = text.sites.code in
    let all : ℕ → ℕ → List Group → Topology = λ boundary_count group_count each.
    record { code = code; boundary_count = boundary_count; group_count = group_count; groups = each; points = text.servers.points; point_groups = text.servers.point_groups; peers = text.servers.peers } in
    let same : groups ≡ groups_of code text.sites.boundaries text.sites.groups text.servers.default_points =
    made
    ∙ ap (λ (each : List (List ℕ × Boundary)). groups_of code each texts points) rows_are
    ∙ ap (λ (each : List GroupText). groups_of code text.sites.boundaries each points) texts_are
    ∙ ap (λ (each : List (List ℕ)). groups_of code text.sites.boundaries text.sites.groups each) points_are in
    ap (λ (each : List (List ℕ × Boundary)). all (length each) (length near) groups) rows_are
    ∙ ap (λ (each : List GroupText). all (length text.sites.boundaries) (length each) groups) near_are
    ∙ ap (λ (each : List Group). all (length text.sites.boundaries) (length text.sites.groups) each) same
