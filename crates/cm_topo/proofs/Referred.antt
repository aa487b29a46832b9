-- What the second pass says: nothing for want of memory; and where it says nothing, names are distinct, and members are points.
use Rattle.std.proofs.Common.{◌≡◌, ◌≢◌, ◌≤◌, ◌<◌, ◌+◌, ◌++◌, ◌∙◌, ℕ, not, refl, ap, sym, subst, arith, All, Bool, true, false, List, [], ◌∷◌, cond, get_or, length, map, suc, take, zero}
use Rattle.std.specs.List.{AllPairs, IsDistinct, flat_map, list_any}
use Rattle.std.specs.Str.{bytes_eq}
use Rattle.std.proofs.lemmas.Bool.{false≢true, not-false, false_from_ne_true}
use Rattle.std.proofs.lemmas.List.{get_or-map, get_or-take, length-map, length-take}
use Rattle.std.proofs.lemmas.List.Elements.{All-append, All-cons, All-head, All-map, All-nil, All-weaker}
use Rattle.std.proofs.lemmas.List.Folds.{list_any_at}
use Rattle.std.proofs.lemmas.Map.Made.{IsDistinct-from_AllPairs}
use Rattle.std.proofs.lemmas.Slice.Eq.{bytes_eq-Decides}
use Rattle.cm_groups.specs.Faults.{lacks_boundary}
use Rattle.cm_groups.specs.Names.{is_among, is_before}
use Rattle.cm_groups.specs.declared.fallback.Fallback.{Fallback}
use Rattle.cm_groups.specs.declared.group_text.GroupText.{GroupText}
use Rattle.cm_net.specs.declared.boundary.Boundary.{Boundary}
use Rattle.cm_peer.specs.declared.peer.Peer.{Peer}
use Rattle.cm_points.specs.declared.point.Point.{Point}
use Rattle.cm_points.specs.declared.point.PointGroup.{PointGroup}
use Rattle.cm_points.specs.declared.point.PullSource.{PullSource}
use Rattle.cm_topo.specs.declared.known.Known.{Known}
use Rattle.cm_topo.specs.declared.trouble.Placed.{Placed}
use Rattle.cm_topo.specs.declared.topology_text.GroupsText.{GroupsText}
use Rattle.cm_topo.specs.declared.topology_text.ServersText.{ServersText}
use Rattle.cm_topo.specs.declared.topology_text.TopologyText.{TopologyText}
use Rattle.cm_topo.specs.declared.trouble.Trouble.{Trouble}
use Rattle.cm_topo.specs.declared.trouble.Trouble.TheVariants.{Broken, Memory}
use Rattle.cm_topo.specs.Rules.{no_such_boundary, no_such_group, no_such_point, pull_from_itself, same_name, same_relation, self_relation}
use Rattle.cm_topo.specs.SecondPass.{boundary_refers, group_refers, group_relations_refer, groups_refer, known_of, lacks, names_of_peers, names_of_point_groups, names_of_points, peer_refers, point_group_refers, point_refers, refers, relation_refers, relations_refer, repeated, second_pass, servers_refer, source_refers}
use Rattle.cm_topo.specs.Topologies.{ArePoints}
use Rattle.cm_topo.specs.Troubles.{broken_if, broken_unless, each_entry, fault_at, numbered}

-- what is wrong is no want of memory

abbrev AreFaults : List Trouble → Type 0
AreFaults troubles = All (λ trouble. trouble ≢ Memory) troubles

abbrev pub ArePlacedFaults : List Placed → Type 0
ArePlacedFaults faults = All (λ placed. placed.trouble ≢ Memory) faults

one : (rule : ℕ) → AreFaults (Broken rule ∷ [])
one rule = All-cons (λ trouble. trouble ≢ Memory) (Broken rule) [] (λ e. cc) (All-nil (λ trouble. trouble ≢ Memory))

none : AreFaults []
none = All-nil (λ trouble. trouble ≢ Memory)

both : (xs ys : List Trouble) → AreFaults xs → AreFaults ys → AreFaults (xs ++ ys)
both xs ys = All-append (λ trouble. trouble ≢ Memory) xs ys

if_faults : (test : Bool) (rule : ℕ) → AreFaults (broken_if test rule)
if_faults true rule = one rule
if_faults false rule = none

unless_faults : (test : Bool) (rule : ℕ) → AreFaults (broken_unless test rule)
unless_faults true rule = none
unless_faults false rule = one rule

placed_faults : (part entry : ℕ) (troubles : List Trouble) → AreFaults troubles → ArePlacedFaults (map (fault_at part entry) troubles)
placed_faults part entry troubles are = All-map (λ (placed : Placed). placed.trouble ≢ Memory) (fault_at part entry) troubles are

all_placed : (xs ys : List Placed) → ArePlacedFaults xs → ArePlacedFaults ys → ArePlacedFaults (xs ++ ys)
all_placed xs ys = All-append (λ (placed : Placed). placed.trouble ≢ Memory) xs ys

each_faults : {X : Type 0} (part : ℕ) (troubles : ℕ → X → List Trouble) → ((entry : ℕ) (x : X) → AreFaults (troubles entry x)) → (entry : ℕ) (xs : List X) → ArePlacedFaults (each_entry part troubles entry xs)
each_faults part troubles each entry [] = All-nil (λ (placed : Placed). placed.trouble ≢ Memory)
each_faults part troubles each entry (x ∷ xs) =
    all_placed (map (fault_at part entry) (troubles entry x)) (each_entry part troubles (entry + 1) xs) (placed_faults part entry (troubles entry x) (each entry x)) (each_faults part troubles each (entry + 1) xs)

numbered_faults : {X : Type 0} (troubles : ℕ → X → List Trouble) → ((number : ℕ) (x : X) → AreFaults (troubles number x)) → (number : ℕ) (xs : List X) → AreFaults (numbered troubles number xs)
numbered_faults troubles each number [] = none
numbered_faults troubles each number (x ∷ xs) = both (troubles number x) (numbered troubles (number + 1) xs) (each number x) (numbered_faults troubles each (number + 1) xs)

flat_faults : {X : Type 0} (troubles : X → List Trouble) → ((x : X) → AreFaults (troubles x)) → (xs : List X) → AreFaults (flat_map troubles xs)
flat_faults troubles each [] = none
flat_faults troubles each (x ∷ xs) = both (troubles x) (flat_map troubles xs) (each x) (flat_faults troubles each xs)

boundary_faults : (known : Known) (entry : ℕ) (row : List ℕ × Boundary) → AreFaults (boundary_refers known entry row)
boundary_faults known entry row = if_faults (is_before known.boundaries entry row.0) same_name

group_faults : (known : Known) (entry : ℕ) (text : GroupText) → AreFaults (group_refers known entry text)
group_faults known entry text =
    both (repeated known.groups (entry + 1) text.name ++ broken_if (lacks_boundary known.boundaries text) no_such_boundary) (broken_if (lacks known.points text.points) no_such_point)
    (both (repeated known.groups (entry + 1) text.name) (broken_if (lacks_boundary known.boundaries text) no_such_boundary) (if_faults (is_before known.groups (entry + 1) text.name) same_name) (if_faults (lacks_boundary known.boundaries text) no_such_boundary))
    (if_faults (lacks known.points text.points) no_such_point)

relation_faults : (known : Known) (name : List ℕ) (before : List (List ℕ × Fallback)) (to : List ℕ) → AreFaults (relation_refers known name before to)
relation_faults known name before to =
    both (broken_unless (is_among known.groups to) no_such_group ++ broken_if (bytes_eq to name) self_relation) (broken_if (list_any (λ relation. bytes_eq relation.0 to) before) same_relation)
    (both (broken_unless (is_among known.groups to) no_such_group) (broken_if (bytes_eq to name) self_relation) (unless_faults (is_among known.groups to) no_such_group) (if_faults (bytes_eq to name) self_relation))
    (if_faults (list_any (λ relation. bytes_eq relation.0 to) before) same_relation)

relations_faults : (known : Known) (entry : ℕ) (text : GroupText) → AreFaults (group_relations_refer known entry text)
relations_faults known entry text =
    numbered_faults (λ (number : ℕ) (relation : List ℕ × Fallback). relation_refers known text.name (take number text.relations) relation.0)
    (λ number relation. relation_faults known text.name (take number text.relations) relation.0) 0 text.relations

source_faults : (known : Known) (name : List ℕ) (source : PullSource) → AreFaults (source_refers known name source)
source_faults known name source =
    both (broken_unless (is_among known.points source.point) no_such_point) (broken_if (bytes_eq source.point name) pull_from_itself)
    (unless_faults (is_among known.points source.point) no_such_point) (if_faults (bytes_eq source.point name) pull_from_itself)

point_faults : (known : Known) (entry : ℕ) (point : Point) → AreFaults (point_refers known entry point)
point_faults known entry point =
    both (repeated known.points entry point.name) (flat_map (source_refers known point.name) point.sources)
    (if_faults (is_before known.points entry point.name) same_name) (flat_faults (source_refers known point.name) (source_faults known point.name) point.sources)

point_group_faults : (known : Known) (entry : ℕ) (group : PointGroup) → AreFaults (point_group_refers known entry group)
point_group_faults known entry group =
    both (repeated known.point_groups entry group.name) (broken_if (lacks known.points group.members) no_such_point)
    (if_faults (is_before known.point_groups entry group.name) same_name) (if_faults (lacks known.points group.members) no_such_point)

peer_faults : (known : Known) (entry : ℕ) (peer : Peer) → AreFaults (peer_refers known entry peer)
peer_faults known entry peer = if_faults (is_before known.peers entry peer.name) same_name

groups_faults : (known : Known) (text : GroupsText) → ArePlacedFaults (groups_refer known text)
groups_faults known text =
    all_placed (each_entry 1 (boundary_refers known) 0 text.boundaries ++ each_entry 2 (group_refers known) 0 text.groups) (each_entry 3 (group_relations_refer known) 0 text.groups)
    (all_placed (each_entry 1 (boundary_refers known) 0 text.boundaries) (each_entry 2 (group_refers known) 0 text.groups)
    (each_faults 1 (boundary_refers known) (boundary_faults known) 0 text.boundaries) (each_faults 2 (group_refers known) (group_faults known) 0 text.groups))
    (each_faults 3 (group_relations_refer known) (relations_faults known) 0 text.groups)

servers_faults : (known : Known) (text : ServersText) → ArePlacedFaults (servers_refer known text)
servers_faults known text =
    let points = each_entry 4 (point_refers known) 0 text.points in
    let groups = each_entry 5 (point_group_refers known) 0 text.point_groups in
    let peers = each_entry 6 (peer_refers known) 0 text.peers in
    let defaults = broken_if (lacks known.points text.default_points) no_such_point in
    all_placed (points ++ groups ++ peers) (map (fault_at 7 0) defaults)
    (all_placed (points ++ groups) peers
    (all_placed points groups (each_faults 4 (point_refers known) (point_faults known) 0 text.points) (each_faults 5 (point_group_refers known) (point_group_faults known) 0 text.point_groups))
    (each_faults 6 (peer_refers known) (peer_faults known) 0 text.peers))
    (placed_faults 7 0 defaults (if_faults (lacks known.points text.default_points) no_such_point))

pub second_faults : (text : TopologyText) → ArePlacedFaults (second_pass text)
second_faults text =
    all_placed (groups_refer (known_of text) text.sites) (servers_refer (known_of text) text.servers) (groups_faults (known_of text) text.sites) (servers_faults (known_of text) text.servers)

-- nothing is wrong

no_left : {X : Type 0} (xs ys : List X) → xs ++ ys ≡ [] → xs ≡ []
no_left [] ys e = refl
no_left (x ∷ xs) ys e = absurd (cc)

no_right : {X : Type 0} (xs ys : List X) → xs ++ ys ≡ [] → ys ≡ []
no_right [] ys e = e
no_right (x ∷ xs) ys e = absurd (cc)

none_mapped : {X Y : Type 0} (f : X → Y) (xs : List X) → map f xs ≡ [] → xs ≡ []
none_mapped f [] e = refl
none_mapped f (x ∷ xs) e = absurd (cc)

not_broken : (test : Bool) (rule : ℕ) → broken_if test rule ≡ [] → test ≡ false
not_broken true rule e = absurd (cc)
not_broken false rule e = refl

head_none : {X : Type 0} (part : ℕ) (troubles : ℕ → X → List Trouble) (entry : ℕ) (x : X) (xs : List X) → each_entry part troubles entry (x ∷ xs) ≡ [] → troubles entry x ≡ []
head_none part troubles entry x xs e = none_mapped (fault_at part entry) (troubles entry x) (no_left (map (fault_at part entry) (troubles entry x)) (each_entry part troubles (entry + 1) xs) e)

tail_none : {X : Type 0} (part : ℕ) (troubles : ℕ → X → List Trouble) (entry : ℕ) (x : X) (xs : List X) → each_entry part troubles entry (x ∷ xs) ≡ [] → each_entry part troubles (entry + 1) xs ≡ []
tail_none part troubles entry x xs e = no_right (map (fault_at part entry) (troubles entry x)) (each_entry part troubles (entry + 1) xs) e

-- what holds of rows with which nothing is wrong
all_right : {X : Type 0} (P : X → Type 0) (part : ℕ) (troubles : ℕ → X → List Trouble) → ((entry : ℕ) (x : X) → troubles entry x ≡ [] → P x) → (entry : ℕ) (xs : List X) → each_entry part troubles entry xs ≡ [] → All P xs
all_right P part troubles each entry [] e = All-nil P
all_right P part troubles each entry (x ∷ xs) e =
    All-cons P x xs (each entry x (head_none part troubles entry x xs e)) (all_right P part troubles each (entry + 1) xs (tail_none part troubles entry x xs e))

-- no name of such rows stands before
fresh_at : {X : Type 0} (part : ℕ) (troubles : ℕ → X → List Trouble) (name : X → List ℕ) (names : List (List ℕ)) → ((entry : ℕ) (x : X) → troubles entry x ≡ [] → is_before names entry (name x) ≡ false)
    → (entry : ℕ) (xs : List X) → each_entry part troubles entry xs ≡ [] → (k : ℕ) (d : List ℕ) → k < length xs → is_before names (entry + k) (get_or (map name xs) k d) ≡ false
fresh_at part troubles name names each entry [] e k d lt = absurd (omega arith)
fresh_at part troubles name names each entry (x ∷ xs) e zero d lt =
    let same : entry + 0 ≡ entry = omega arith in
    ap (λ (n : ℕ). is_before names n (name x)) same ∙ each entry x (head_none part troubles entry x xs e)
fresh_at part troubles name names each entry (x ∷ xs) e (suc k) d lt =
    let same : entry + suc k ≡ entry + 1 + k = omega arith in
    let below : k < length xs = omega arith in
    ap (λ (n : ℕ). is_before names n (get_or (map name xs) k d)) same ∙ fresh_at part troubles name names each (entry + 1) xs (tail_none part troubles entry x xs e) k d below

-- no element passes the test
none_passes : {X : Type 0} (p : X → Bool) (xs : List X) → list_any p xs ≡ false → (k : ℕ) (d : X) → k < length xs → p (get_or xs k d) ≡ false
none_passes p xs e k d lt = false_from_ne_true (p (get_or xs k d)) (λ t. false≢true (sym e ∙ list_any_at p xs k d lt t))

-- a name that does not stand before is not that of an earlier place
apart : (names : List (List ℕ)) (i j : ℕ) (d : List ℕ) → i < j → j < length names → is_before names j (get_or names j d) ≡ false → get_or names i d ≢ get_or names j d
apart names i j d lt below none e =
    let name = get_or names j d in
    let within : i < length (take j names) = omega (arith, length-take j names) in
    let other : bytes_eq (get_or (take j names) i d) name ≡ false = none_passes (λ (each : List ℕ). bytes_eq each name) (take j names) none i d within in
    false≢true (sym other ∙ (bytes_eq-Decides (get_or (take j names) i d) name).1 (get_or-take j names i d lt ∙ e))

-- the names of such rows are distinct
distinct : {X : Type 0} (part : ℕ) (troubles : ℕ → X → List Trouble) (name : X → List ℕ) (xs : List X) → ((entry : ℕ) (x : X) → troubles entry x ≡ [] → is_before (map name xs) entry (name x) ≡ false)
    → each_entry part troubles 0 xs ≡ [] → IsDistinct bytes_eq (map name xs)
distinct part troubles name xs each e =
    let names : List (List ℕ) = map name xs in
    IsDistinct-from_AllPairs bytes_eq-Decides names
    (λ i j d lt below.
    let within : j < length xs = omega (arith, length-map xs name) in
    let same : 0 + j ≡ j = omega arith in
    let fresh : is_before names j (get_or names j d) ≡ false = ap (λ (n : ℕ). is_before names n (get_or names j d)) (sym same) ∙ fresh_at part troubles name names each 0 xs e j d within in
    apart names i j d lt below fresh)

-- names that are not lacked are those of points
there : (points : List Point) (wanted : List (List ℕ)) → lacks (names_of_points points) wanted ≡ false → ArePoints points wanted
there points wanted e = λ k d lt. not-false (is_among (names_of_points points) (get_or wanted k d)) (none_passes (λ (name : List ℕ). not (is_among (names_of_points points) name)) wanted e k d lt)

-- what the second pass leaves of servers
pub record AreReferred (text : ServersText) : Type 0 where
  pub points : IsDistinct bytes_eq (names_of_points text.points)
  pub point_groups : IsDistinct bytes_eq (names_of_point_groups text.point_groups)
  pub peers : IsDistinct bytes_eq (names_of_peers text.peers)
  pub members : All (λ group. ArePoints text.points group.members) text.point_groups

servers_referred : (known : Known) (text : ServersText) → known.points ≡ names_of_points text.points → known.point_groups ≡ names_of_point_groups text.point_groups → known.peers ≡ names_of_peers text.peers
    → servers_refer known text ≡ [] → AreReferred text
servers_referred known text are_points are_groups are_peers e =
    let points = each_entry 4 (point_refers known) 0 text.points in
    let groups = each_entry 5 (point_group_refers known) 0 text.point_groups in
    let peers = each_entry 6 (peer_refers known) 0 text.peers in
    let defaults = map (fault_at 7 0) (broken_if (lacks known.points text.default_points) no_such_point) in
    let three : points ++ groups ++ peers ≡ [] = no_left (points ++ groups ++ peers) defaults e in
    let two : points ++ groups ≡ [] = no_left (points ++ groups) peers three in
    let no_peers : peers ≡ [] = no_right (points ++ groups) peers three in
    let no_points : points ≡ [] = no_left points groups two in
    let no_groups : groups ≡ [] = no_right points groups two in
    record {
      points = distinct 4 (point_refers known) (λ (point : Point). point.name) text.points
          (λ entry point none. ap (λ (names : List (List ℕ)). is_before names entry point.name) (sym are_points)
          ∙ not_broken (is_before known.points entry point.name) same_name (no_left (repeated known.points entry point.name) (flat_map (source_refers known point.name) point.sources) none)) no_points;
      point_groups = distinct 5 (point_group_refers known) (λ (group : PointGroup). group.name) text.point_groups
          (λ entry group none. ap (λ (names : List (List ℕ)). is_before names entry group.name) (sym are_groups)
          ∙ not_broken (is_before known.point_groups entry group.name) same_name (no_left (repeated known.point_groups entry group.name) (broken_if (lacks known.points group.members) no_such_point) none)) no_groups;
      peers = distinct 6 (peer_refers known) (λ (peer : Peer). peer.name) text.peers
          (λ entry peer none. ap (λ (names : List (List ℕ)). is_before names entry peer.name) (sym are_peers) ∙ not_broken (is_before known.peers entry peer.name) same_name none) no_peers;
      members = all_right (λ (group : PointGroup). ArePoints text.points group.members) 5 (point_group_refers known)
          (λ entry group none. there text.points group.members
          (ap (λ (names : List (List ℕ)). lacks names group.members) (sym are_points)
          ∙ not_broken (lacks known.points group.members) no_such_point (no_right (repeated known.point_groups entry group.name) (broken_if (lacks known.points group.members) no_such_point) none))) 0 text.point_groups no_groups;
    }

pub second_none : (text : TopologyText) → second_pass text ≡ [] → AreReferred text.servers
second_none text e =
    servers_referred (known_of text) text.servers refl refl refl (no_right (groups_refer (known_of text) text.sites) (servers_refer (known_of text) text.servers) e)
