-- What each value and each row says: names have their form, and nothing is wrong for want of memory.
use Rattle.std.proofs.Common.{◌≡◌, ◌≢◌, ◌≤◌, ◌∙◌, ◌&&◌, ℕ, ℤ, not, pos, negsuc, refl, ap, sym, subst, arith, All, Bool, true, false, cond, eqb, List, [], ◌∷◌, codes, length, map, Option, Some, None, Result, Ok, Err, leb}
use Rattle.std.specs.Option.{ok_or}
use Rattle.std.specs.List.{zip}
use Rattle.std.specs.Result.{MatchResult}
use Rattle.std.specs.Str.{bytes_eq}
use Rattle.std.proofs.lemmas.Bool.{cond_both, and_from}
use Rattle.std.proofs.lemmas.Result.{MatchResult-at_ok, MatchResult-weaker}
use Rattle.cm_base.specs.Names.{fold_byte, is_folded_name, is_label, name_of, text_if}
use Rattle.cm_groups.specs.declared.fallback.Fallback.{Fallback}
use Rattle.cm_groups.specs.declared.fallback.Fallback.TheVariants.{After, Never}
use Rattle.cm_groups.specs.declared.group_text.GroupText.{GroupText}
use Rattle.cm_groups.specs.declared.options.Options.{Options}
use Rattle.cm_net.specs.declared.address.Address.{Address}
use Rattle.cm_net.specs.declared.boundary.Boundary.{Boundary}
use Rattle.cm_net.specs.Readings.{address_in, boundary_in}
use Rattle.cm_peer.specs.declared.peer.Peer.{Peer}
use Rattle.cm_points.specs.declared.point.Point.{Point}
use Rattle.cm_points.specs.declared.point.PointGroup.{PointGroup}
use Rattle.cm_points.specs.declared.point.PullSource.{PullSource}
use Rattle.toml.specs.Data.{Data, Members, as_bool, as_integer, as_str, as_table, get_member}
use Rattle.cm_topo.specs.declared.trouble.Placed.{Placed}
use Rattle.cm_topo.specs.declared.topology_text.GroupsText.{GroupsText}
use Rattle.cm_topo.specs.declared.topology_text.ServersText.{ServersText}
use Rattle.cm_topo.specs.declared.topology_text.TopologyText.{TopologyText}
use Rattle.cm_topo.specs.declared.trouble.Trouble.{Trouble}
use Rattle.cm_topo.specs.declared.trouble.Trouble.TheVariants.{Shape, Broken, Memory}
use Rattle.cm_topo.specs.Entries.{list_said}
use Rattle.cm_topo.specs.Keys.{address_said, boundary_from, boundary_said, code_of, code_said, flag_said, is_reserved, label_of, label_said, minutes_by, minutes_said, name_said, needed, number_in, number_said, otherwise, perhaps, unless_broken, within}
use Rattle.cm_topo.specs.Rows.{alone, at_least_one, boundary_row, default_row, group_row, groups_read, groups_text, in_table, options_row, part_said, peer_row, point_group_row, point_name_said, point_row, relation_row, relations_row, servers_read, source_row, sources_said, table_said, text_read, unless_reserved, with_relations}
use Rattle.cm_topo.specs.Rules.{bad_address, bad_name, most_minutes, most_relations, no_pull_source, too_long_fallback}
use Rattle.cm_topo.specs.SecondPass.{AreFewGroups, AreFewServers}
use Rattle.cm_topo.specs.Topologies.{is_point_name}
use Rattle.cm_topo.proofs.Given.{few_texts}
use Rattle.cm_topo.proofs.InOrder.{Gives, GivesPlaced, IsAny, and_then, gives_alone, gives_formed, gives_list, gives_needed, gives_or, gives_otherwise, gives_part, gives_perhaps, mapped, order2, order3, order4}

-- what is wrong with a value is no want of memory
abbrev IsFault : Trouble → Type 0
IsFault trouble = trouble ≢ Memory

abbrev IsPlacedFault : Placed → Type 0
IsPlacedFault placed = placed.trouble ≢ Memory

abbrev pub IsLabel : List ℕ → Type 0
IsLabel name = is_label name ≡ true

abbrev pub IsName : List ℕ → Type 0
IsName name = is_folded_name name ≡ true

abbrev pub IsPointName : List ℕ → Type 0
IsPointName name = is_point_name name ≡ true

-- single values

formed_if : (good : Bool) (text name : List ℕ) → text_if good text ≡ Some name → (good ≡ true) × (text ≡ name)
formed_if true text name e = (refl, cc)
formed_if false text name e = absurd (cc)

label_form : (text name : List ℕ) → label_of text ≡ Some name → IsLabel name
label_form text name e =
    let parts = formed_if (is_label text) text name e in
    subst IsLabel parts.1 parts.0

name_form : (text name : List ℕ) → name_of text ≡ Some name → IsName name
name_form text name e =
    let parts = formed_if (is_folded_name (map fold_byte text)) (map fold_byte text) name e in
    subst IsName parts.1 parts.0

gives_label : (value : Data) → Gives IsLabel (label_said value)
gives_label value = gives_formed IsLabel bad_name label_of label_form (as_str value)

gives_name : (value : Data) → Gives IsName (name_said value)
gives_name value = gives_formed IsName bad_name name_of name_form (as_str value)

gives_code : (value : Data) → Gives IsAny (code_said value)
gives_code value = gives_formed IsAny bad_name code_of (λ text x e. tt) (as_str value)

gives_address : (value : Data) → Gives IsAny (address_said value)
gives_address value = gives_formed IsAny bad_address address_in (λ text x e. tt) (as_str value)

unless : (said : Result Boundary ℕ) → Gives IsAny (unless_broken said)
unless (Ok boundary) = tt
unless (Err rule) = λ e. cc

boundary : (text : Option (List ℕ)) → Gives IsAny (boundary_from text)
boundary None = λ e. cc
boundary (Some text) = unless (boundary_in text)

gives_boundary : (value : Data) → Gives IsAny (boundary_said value)
gives_boundary value = boundary (as_str value)

gives_flag : (value : Data) → Gives IsAny (flag_said value)
gives_flag value = gives_or IsAny (as_bool value) Shape (λ x e. tt) (λ e. cc)

number : (rule most : ℕ) (found : Option ℤ) → Gives IsAny (number_in rule most found)
number rule most None = λ e. cc
number rule most (Some z) = gives_or IsAny (within most z) (Broken rule) (λ x e. tt) (λ e. cc)

gives_number : (most : ℕ) (value : Data) → Gives IsAny (number_said most value)
gives_number most value = number bad_name most (as_integer value)

never_or : (never : Bool) → Gives IsAny (cond never (Ok Never) (Err (Broken too_long_fallback)))
never_or true = tt
never_or false = λ e. cc

minutes : (text : Option (List ℕ)) (found : Option ℤ) → Gives IsAny (minutes_by text found)
minutes None found = mapped IsAny IsAny IsFault After (number_in too_long_fallback most_minutes found) (λ x is. tt) (number too_long_fallback most_minutes found)
minutes (Some text) found = never_or (bytes_eq text (codes "never"))

gives_minutes : (value : Data) → Gives IsAny (minutes_said value)
gives_minutes value = minutes (as_str value) (as_integer value)

-- tables

in_any : {X : Type 0} (P : X → Type 0) (row : Members → Result X Trouble) → ((d : Members) → Gives P (row d)) → (table : Option Members) → Gives P (in_table row table)
in_any P row each None = λ e. cc
in_any P row each (Some d) = each d

gives_table : {X : Type 0} (P : X → Type 0) (row : Members → Result X Trouble) → ((d : Members) → Gives P (row d)) → (value : Data) → Gives P (table_said row value)
gives_table P row each value = in_any P row each (as_table value)

gives_boundary_row : (d : Members) → Gives IsAny (boundary_row d)
gives_boundary_row d =
    order2 IsLabel (IsAny {X = Boundary}) (IsAny {X = List ℕ × Boundary}) IsFault (λ name boundary. (name, boundary))
    (needed label_said (get_member (codes "name") d))
    (needed boundary_said (get_member (codes "at") d))
    (λ x y p q. tt)
    (gives_needed IsLabel label_said gives_label (get_member (codes "name") d))
    (gives_needed IsAny boundary_said gives_boundary (get_member (codes "at") d))

gives_options : (d : Members) → Gives IsAny (options_row d)
gives_options d =
    order3 (IsAny {X = Bool}) (IsAny {X = Bool}) (IsAny {X = Bool}) (IsAny {X = Options}) IsFault
    (λ peers same_subnet_only prefer_points. record { peers = peers; same_subnet_only = same_subnet_only; prefer_points = prefer_points })
    (otherwise true flag_said (get_member (codes "peers") d))
    (otherwise false flag_said (get_member (codes "same_subnet_only") d))
    (otherwise false flag_said (get_member (codes "prefer_points") d))
    (λ x y z p q s. tt)
    (gives_otherwise IsAny true flag_said tt gives_flag (get_member (codes "peers") d))
    (gives_otherwise IsAny false flag_said tt gives_flag (get_member (codes "same_subnet_only") d))
    (gives_otherwise IsAny false flag_said tt gives_flag (get_member (codes "prefer_points") d))

gives_group : (d : Members) → Gives IsAny (group_row d)
gives_group d =
    order4 IsLabel (IsAny {X = List (List ℕ)}) (IsAny {X = List (List ℕ)}) (IsAny {X = Options}) (IsAny {X = GroupText}) IsFault
    (λ name boundaries points options. record { name = name; options = options; boundaries = boundaries; points = points; relations = [] })
    (needed label_said (get_member (codes "name") d))
    (list_said label_said None (get_member (codes "boundaries") d))
    (list_said name_said None (get_member (codes "points") d))
    (options_row d)
    (λ x y z w p q s t. tt)
    (gives_needed IsLabel label_said gives_label (get_member (codes "name") d))
    (gives_list IsLabel label_said None gives_label (get_member (codes "boundaries") d))
    (gives_list IsName name_said None gives_name (get_member (codes "points") d))
    (gives_options d)

gives_relation : (d : Members) → Gives IsAny (relation_row d)
gives_relation d =
    order2 IsLabel (IsAny {X = Fallback}) (IsAny {X = List ℕ × Fallback}) IsFault (λ to minutes. (to, minutes))
    (needed label_said (get_member (codes "to") d))
    (otherwise (After 120) minutes_said (get_member (codes "minutes") d))
    (λ x y p q. tt)
    (gives_needed IsLabel label_said gives_label (get_member (codes "to") d))
    (gives_otherwise IsAny (After 120) minutes_said tt gives_minutes (get_member (codes "minutes") d))

gives_relations : (d : Members) → Gives IsAny (relations_row d)
gives_relations d = gives_list IsAny (table_said relation_row) (Some most_relations) (gives_table IsAny relation_row gives_relation) (get_member (codes "relation") d)

gives_source : (d : Members) → Gives IsAny (source_row d)
gives_source d =
    order2 IsName (IsAny {X = ℕ}) (IsAny {X = PullSource}) IsFault (λ point priority. record { point = point; priority = priority })
    (needed name_said (get_member (codes "from") d))
    (needed (number_said 255) (get_member (codes "priority") d))
    (λ x y p q. tt)
    (gives_needed IsName name_said gives_name (get_member (codes "from") d))
    (gives_needed IsAny (number_said 255) (gives_number 255) (get_member (codes "priority") d))

some_or : (none : Bool) (sources : List PullSource) → Gives IsAny (cond none (Err (Broken no_pull_source)) (Ok sources))
some_or true sources = λ e. cc
some_or false sources = tt

gives_sources : (value : Option Data) → Gives IsAny (sources_said value)
gives_sources None = tt
gives_sources (Some value) =
    and_then (IsAny {X = List PullSource}) (IsAny {X = List PullSource}) IsFault (list_said (table_said source_row) None (Some value)) at_least_one (λ sources is. some_or (eqb (length sources) 0) sources)
    (gives_list IsAny (table_said source_row) None (gives_table IsAny source_row gives_source) (Some value))

own : (reserved : Bool) (name : List ℕ) → is_folded_name name ≡ true → is_reserved name ≡ reserved → Gives IsPointName (cond reserved (Err (Broken bad_name)) (Ok name))
own true name is e = λ f. cc
own false name is e = and_from (is_folded_name name) (not (is_reserved name)) is (ap not e)

gives_point_name : (value : Option Data) → Gives IsPointName (point_name_said value)
gives_point_name value =
    and_then IsName IsPointName IsFault (needed name_said value) unless_reserved (λ name is. own (is_reserved name) name is refl) (gives_needed IsName name_said gives_name value)

abbrev pub IsPointRow : Point → Type 0
IsPointRow point = IsPointName point.name

gives_point : (d : Members) → Gives IsPointRow (point_row d)
gives_point d =
    order4 IsPointName (IsAny {X = Address}) (IsAny {X = Option (List ℕ)}) (IsAny {X = List PullSource}) IsPointRow IsFault
    (λ name address site sources. record { name = name; address = address; site = site; sources = sources })
    (point_name_said (get_member (codes "name") d))
    (needed address_said (get_member (codes "address") d))
    (perhaps name_said (get_member (codes "site") d))
    (sources_said (get_member (codes "sources") d))
    (λ x y z w p q s t. p)
    (gives_point_name (get_member (codes "name") d))
    (gives_needed IsAny address_said gives_address (get_member (codes "address") d))
    (gives_perhaps IsName name_said gives_name (get_member (codes "site") d))
    (gives_sources (get_member (codes "sources") d))

abbrev pub IsPointGroupRow : PointGroup → Type 0
IsPointGroupRow group = IsLabel group.name

gives_point_group : (d : Members) → Gives IsPointGroupRow (point_group_row d)
gives_point_group d =
    order2 IsLabel (IsAny {X = List (List ℕ)}) IsPointGroupRow IsFault (λ name members. record { name = name; members = members })
    (needed label_said (get_member (codes "name") d))
    (list_said name_said None (get_member (codes "members") d))
    (λ x y p q. p)
    (gives_needed IsLabel label_said gives_label (get_member (codes "name") d))
    (gives_list IsName name_said None gives_name (get_member (codes "members") d))

abbrev pub IsPeerRow : Peer → Type 0
IsPeerRow peer = IsName peer.name

gives_peer : (d : Members) → Gives IsPeerRow (peer_row d)
gives_peer d =
    order4 IsName (IsAny {X = Address}) (IsAny {X = Option (List ℕ)}) (IsAny {X = ℕ}) IsPeerRow IsFault
    (λ name address site connections. record { name = name; address = address; site = site; connections = connections })
    (needed name_said (get_member (codes "name") d))
    (needed address_said (get_member (codes "address") d))
    (perhaps name_said (get_member (codes "site") d))
    (needed (number_said 65535) (get_member (codes "connections") d))
    (λ x y z w p q s t. p)
    (gives_needed IsName name_said gives_name (get_member (codes "name") d))
    (gives_needed IsAny address_said gives_address (get_member (codes "address") d))
    (gives_perhaps IsName name_said gives_name (get_member (codes "site") d))
    (gives_needed IsAny (number_said 65535) (gives_number 65535) (get_member (codes "connections") d))

gives_default : (d : Members) → Gives IsAny (default_row d)
gives_default d = gives_list IsName name_said None gives_name (get_member (codes "points") d)

-- the first pass

few_groups : (code : List ℕ) (boundaries : List (List ℕ × Boundary)) (groups : List GroupText) (relations : List (List (List ℕ × Fallback)))
    → length boundaries ≤ 2000 → length groups ≤ 500 → AreFewGroups (groups_text code boundaries groups relations)
few_groups code boundaries groups relations few_boundaries few =
    record { boundaries = few_boundaries; groups = omega (arith, few_texts (map (λ row. with_relations row.0 row.1) (zip groups relations)) groups relations refl) }

-- rows that are fit, as many as there may be
abbrev Rows : {X : Type 0} → (X → Type 0) → ℕ → List X → Type 0
Rows P limit rows = All P rows × (length rows ≤ limit)

gives_sites : (d : Members) → GivesPlaced AreFewGroups (groups_read d)
gives_sites d =
    order4 (IsAny {X = List ℕ}) (Rows (IsAny {X = List ℕ × Boundary}) 2000) (Rows (IsAny {X = GroupText}) 500) (Rows (IsAny {X = List (List ℕ × Fallback)}) 500) AreFewGroups IsPlacedFault groups_text
    (alone 0 (needed code_said (get_member (codes "code") d)))
    (part_said (table_said boundary_row) 1 2000 (get_member (codes "boundary") d))
    (part_said (table_said group_row) 2 500 (get_member (codes "group") d))
    (part_said (table_said relations_row) 3 500 (get_member (codes "group") d))
    (λ code boundaries groups relations is p q s. few_groups code boundaries groups relations p.1 q.1)
    (gives_alone IsAny 0 (needed code_said (get_member (codes "code") d)) (gives_needed IsAny code_said gives_code (get_member (codes "code") d)))
    (gives_part IsAny (table_said boundary_row) 1 2000 (gives_table IsAny boundary_row gives_boundary_row) (get_member (codes "boundary") d))
    (gives_part IsAny (table_said group_row) 2 500 (gives_table IsAny group_row gives_group) (get_member (codes "group") d))
    (gives_part IsAny (table_said relations_row) 3 500 (gives_table IsAny relations_row gives_relations) (get_member (codes "group") d))

-- rows of points, point groups and peers, as many as there may be, each with a name of its form
pub record AreFormed (text : ServersText) : Type 0 where
  pub few : AreFewServers text
  pub points : All IsPointRow text.points
  pub point_groups : All IsPointGroupRow text.point_groups
  pub peers : All IsPeerRow text.peers

gives_servers : (d : Members) → GivesPlaced AreFormed (servers_read d)
gives_servers d =
    order4 (Rows IsPointRow 64) (Rows IsPointGroupRow 64) (Rows IsPeerRow 5000) (IsAny {X = List (List ℕ)}) AreFormed IsPlacedFault
    (λ points point_groups peers default_points. record { points = points; point_groups = point_groups; peers = peers; default_points = default_points })
    (part_said (table_said point_row) 4 64 (get_member (codes "point") d))
    (part_said (table_said point_group_row) 5 64 (get_member (codes "point_group") d))
    (part_said (table_said peer_row) 6 5000 (get_member (codes "peer") d))
    (alone 7 (otherwise [] (table_said default_row) (get_member (codes "default") d)))
    (λ points groups peers defaults p q s t. record { few = record { points = p.1; point_groups = q.1; peers = s.1 }; points = p.0; point_groups = q.0; peers = s.0 })
    (gives_part IsPointRow (table_said point_row) 4 64 (gives_table IsPointRow point_row gives_point) (get_member (codes "point") d))
    (gives_part IsPointGroupRow (table_said point_group_row) 5 64 (gives_table IsPointGroupRow point_group_row gives_point_group) (get_member (codes "point_group") d))
    (gives_part IsPeerRow (table_said peer_row) 6 5000 (gives_table IsPeerRow peer_row gives_peer) (get_member (codes "peer") d))
    (gives_alone IsAny 7 (otherwise [] (table_said default_row) (get_member (codes "default") d)) (gives_otherwise IsAny [] (table_said default_row) tt (gives_table IsAny default_row gives_default) (get_member (codes "default") d)))

-- what the first pass makes of a document
pub record IsReadText (text : TopologyText) : Type 0 where
  pub sites : AreFewGroups text.sites
  pub servers : AreFormed text.servers

pub gives_text : (d : Members) → GivesPlaced IsReadText (text_read d)
gives_text d =
    order2 AreFewGroups AreFormed IsReadText IsPlacedFault (λ groups servers. record { sites = groups; servers = servers }) (groups_read d) (servers_read d) (λ groups servers p q. record { sites = p; servers = q }) (gives_sites d) (gives_servers d)
