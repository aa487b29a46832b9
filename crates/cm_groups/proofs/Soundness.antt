-- What is true of groups that are made of texts without a fault.
use Rattle.std.proofs.Common.{◌≡◌, ℕ, ◌<◌, ◌≤◌, true, false, cond, List, [], ◌∷◌, All, IfNone, IfSome, length, map, get_or, refl, sym, ap, ◌∙◌, subst, arith, Option, None, Some, option_map}
use Rattle.std.specs.List.{cons_option, filter_map, find}
use Rattle.std.specs.Option.{option_or}
use Rattle.std.specs.Str.{bytes_eq}
use Rattle.std.proofs.lemmas.List.{length-map}
use Rattle.std.proofs.lemmas.List.Elements.{All-cons, All-head, All-map, All-nil, All-tail}
use Rattle.std.proofs.lemmas.Option.{none-some}
use Rattle.cm_net.specs.declared.boundary.Boundary.{Boundary}
use Rattle.cm_net.specs.Boundaries.{IsSound}
use Rattle.cm_groups.specs.declared.fallback.Fallback.{Fallback}
use Rattle.cm_groups.specs.declared.fault.GroupsFault.{GroupsFault}
use Rattle.cm_groups.specs.declared.fault.GroupsFault.TheVariants.{SameName, NoSuchGroup, NoSuchBoundary, SelfRelation, SameRelation, TooLongFallback, TooMany, Memory}
use Rattle.cm_groups.specs.declared.group.Group.{Group}
use Rattle.cm_groups.specs.declared.group_text.GroupText.{GroupText}
use Rattle.cm_groups.specs.Faults.{IsFirst, boundary_faults, first_fault, group_faults}
use Rattle.cm_groups.specs.Groups.{boundary_of, default_group, group_of, relation_of}
use Rattle.cm_groups.specs.Names.{place_of}
use Rattle.cm_groups.specs.Rows.{AreGroups, LeadsWithin}
use Rattle.cm_groups.specs.Texts.{group_names, names_of_rows}
use Rattle.cm_groups.proofs.Places.{within}

one_more : {X : Type 0} (P : X → Type 0) (found : Option X) (rest : List X) → IfSome found P → All P rest → All P (cons_option found rest)
one_more P None rest is all = all
one_more P (Some x) rest is all = All-cons P x rest is all

boundary_sound : (rows : List (List ℕ × Boundary)) (name : List ℕ) → All (λ row. IsSound row.1) rows → IfSome (boundary_of rows name) IsSound
boundary_sound [] name h = tt
boundary_sound (row ∷ rows) name h =
    let P : List ℕ × Boundary → Type 0 = λ each. IsSound each.1 in
    let second : List ℕ × Boundary → Boundary = λ each. each.1 in
    elim (bytes_eq row.0 name) as (λ b. IfSome (option_map second (cond b (Some row) (find (λ (each : List ℕ × Boundary). bytes_eq each.0 name) rows))) IsSound) [
      | true ↦ All-head P row rows h
      | false ↦ boundary_sound rows name (All-tail P row rows h)
    ]

pub found_sound : (rows : List (List ℕ × Boundary)) (names : List (List ℕ)) → All (λ row. IsSound row.1) rows → All IsSound (filter_map (boundary_of rows) names)
found_sound rows [] h = All-nil IsSound
found_sound rows (name ∷ names) h = one_more IsSound (boundary_of rows name) (filter_map (boundary_of rows) names) (boundary_sound rows name h) (found_sound rows names h)

numbered_within : (found : Option ℕ) (fallback : Fallback) (count most : ℕ) → IfSome found (λ place. place < count) → count ≤ most
    → IfSome {T = ℕ × Fallback} (option_map (λ (number : ℕ). (number, fallback)) found) (λ relation. relation.0 < most)
numbered_within None fallback count most is few = tt
numbered_within (Some number) fallback count most is few = omega (arith, is)

relations_within : (names : List (List ℕ)) (relations : List (List ℕ × Fallback)) (most : ℕ) → length names ≤ most → All (λ relation. relation.0 < most) (filter_map (relation_of names) relations)
relations_within names [] most few = All-nil (λ (relation : ℕ × Fallback). relation.0 < most)
relations_within names (relation ∷ relations) most few =
    one_more (λ (each : ℕ × Fallback). each.0 < most) (relation_of names relation) (filter_map (relation_of names) relations)
    (numbered_within (place_of names relation.0) relation.1 (length names) most (within names relation.0 (place_of names relation.0) refl) few)
    (relations_within names relations most few)

pub made_groups : (made : List Group) (points names : List (List ℕ)) (rows : List (List ℕ × Boundary)) (code : List ℕ) (texts near : List GroupText)
    → made ≡ default_group points ∷ map (λ text. group_of names rows text) texts
    → names ≡ group_names code near → near ≡ texts → length texts ≤ 500 → AreGroups made
made_groups made points names rows code texts near e named same few =
    let make : GroupText → Group = λ text. group_of names rows text in
    let name : GroupText → List ℕ = λ text. text.name in
    let all : List Group = default_group points ∷ map make texts in
    let count : length names ≤ length all = omega (arith, ap length named, length-map near name, ap length same, length-map texts make) in
    subst (λ (groups : List Group). AreGroups groups) (sym e)
    (record {
      first = refl;
      within = All-cons (LeadsWithin (length all)) (default_group points) (map make texts) (All-nil (λ (relation : ℕ × Fallback). relation.0 < length all))
          (All-map (LeadsWithin (length all)) make texts (λ k d inside. relations_within names (get_or texts k d).relations (length all) count));
      few = omega (arith, length-map texts make);
    })

pub is_first : (first : Option GroupsFault) (fault : GroupsFault) → first ≡ Some fault → IsFirst first fault
is_first first (SameName part entry) e = e
is_first first (NoSuchGroup part entry) e = e
is_first first (NoSuchBoundary part entry) e = e
is_first first (SelfRelation part entry) e = e
is_first first (SameRelation part entry) e = e
is_first first (TooLongFallback part entry) e = e
is_first first (TooMany part entry) e = e
is_first first Memory e = tt

pub first_is : (code : List ℕ) (rows near : List (List ℕ × Boundary)) (texts one other : List GroupText) (boundaries groups : List (List ℕ)) (answer : Option GroupsFault)
    → boundaries ≡ names_of_rows near → near ≡ rows → groups ≡ group_names code one → one ≡ texts → other ≡ texts
    → answer ≡ option_or (boundary_faults boundaries) (group_faults boundaries groups other)
    → first_fault code rows texts ≡ answer
first_is code rows near texts one other boundaries groups answer b near_is g one_is other_is is =
    let first = b ∙ ap names_of_rows near_is in
    let second = g ∙ ap (group_names code) one_is in
    sym (is
    ∙ ap (λ (names : List (List ℕ)). option_or (boundary_faults names) (group_faults names groups other)) first
    ∙ ap (λ (names : List (List ℕ)). option_or (boundary_faults (names_of_rows rows)) (group_faults (names_of_rows rows) names other)) second
    ∙ ap (λ (ts : List GroupText). option_or (boundary_faults (names_of_rows rows)) (group_faults (names_of_rows rows) (group_names code texts) ts)) other_is)

pub none_then : {X : Type 0} (found : Option X) (P : Type 0) → found ≡ None → IfNone found P → P
none_then None P e h = h
none_then (Some x) P e h = absurd (none-some x (sym e))
