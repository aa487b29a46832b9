-- Sites added one by one.
use Rattle.std.proofs.Common.{◌≡◌, ℕ, Bool, true, false, List, [], ◌∷◌, ◌++◌, None, Some, refl, sym, ap, ◌∙◌, cond, ◌||◌, arith}
use Rattle.std.specs.List.{list_any}
use Rattle.std.specs.Str.{bytes_eq}
use Rattle.std.proofs.Math.Bool.{or-false}
use Rattle.std.proofs.lemmas.Bool.{true≢false}
use Rattle.std.proofs.lemmas.Cmp.{nat_list_eq_equiv}
use Rattle.std.proofs.lemmas.Slice.Eq.{bytes_eq-Decides}
use Rattle.std.proofs.lemmas.List.Folds.{list_any-append}
use Rattle.cm_net.specs.declared.boundary.Boundary.{Boundary}
use Rattle.cm_net.specs.declared.boundary.Boundary.TheVariants.{Subnet, Site, Prefix6, Range4, Range6}
use Rattle.cm_net.specs.declared.entry.Entry.{Entry}
use Rattle.cm_net.specs.Boundaries.{holds_site}
use Rattle.cm_net.specs.Groups.{numbers_of, IsRisingOf}
use Rattle.cm_net.specs.Sites.{groups_of_site, numbers_for, numbers_there}
use Rattle.cm_net.proofs.Found.{last_groups-push}
use Rattle.std.specs.declared.alloc.Global.{Global}
use Rattle.std.specs.Prelude.{Vec}
use Rattle.std.specs.BTreeMap.{is_at}
use Rattle.std.specs.Cmp.Lexicographic.{slice_cmp}
use Rattle.std.specs.Map.{keys_of, lookup}
use Rattle.std.specs.Option.{is_some}
use Rattle.std.specs.Ordering.{is_eq, nat_cmp}
use Rattle.std.proofs.Common.{Option}
use Rattle.std.proofs.lemmas.Grind.{flat_map-append}
use Rattle.std.proofs.lemmas.List.{append-nil, map-append}
use Rattle.cm_net.specs.Entries.{keys_in}
use Rattle.std.proofs.lemmas.Map.Made.{is_some-lookup}
use Rattle.std.proofs.lemmas.Map.Text.{is_eq-slice_cmp}

-- for a name among these the sites have its numbers, for another one none
abbrev pub IsSiteOf : (List ℕ → List ℕ) → List (Entry (List ℕ)) → List ℕ → Bool → Type 0
IsSiteOf numbers sites name true = IsRisingOf (numbers name) (groups_of_site sites name)
IsSiteOf numbers sites name false = groups_of_site sites name ≡ []

abbrev pub AreSitesOfSome : (List ℕ → List ℕ) → List (List ℕ) → List (Entry (List ℕ)) → Type 0
AreSitesOfSome numbers names sites = (name : List ℕ) → IsSiteOf numbers sites name (list_any (bytes_eq name) names)

pub groups_of_site-push : (xs : List (Entry (List ℕ))) (s : Entry (List ℕ)) (name : List ℕ) → groups_of_site (xs ++ s ∷ []) name ≡ cond (bytes_eq name s.key) s.groups.items (groups_of_site xs name)
groups_of_site-push xs s name = last_groups-push (bytes_eq name) xs s

-- the same test of names and of groups
added : (numbers : List ℕ → List ℕ) (xs new : List (Entry (List ℕ))) (name : List ℕ) (old : Bool) (groups : List ℕ) (here : Bool)
    → groups_of_site new name ≡ cond here groups (groups_of_site xs name)
    → (here ≡ true → IsRisingOf (numbers name) groups)
    → IsSiteOf numbers xs name old → IsSiteOf numbers new name (old || here)
added numbers xs new name true groups true is right was = rw is (right refl)
added numbers xs new name true groups false is right was = rw is was
added numbers xs new name false groups true is right was = rw is (right refl)
added numbers xs new name false groups false is right was = is ∙ was

pub site_added : (numbers : List ℕ → List ℕ) (names : List (List ℕ)) (xs new : List (Entry (List ℕ))) (s : Entry (List ℕ))
    → new ≡ xs ++ s ∷ []
    → IsRisingOf (numbers s.key) s.groups.items
    → AreSitesOfSome numbers names xs → AreSitesOfSome numbers (names ++ s.key ∷ []) new
site_added numbers names xs new s is right was = λ name.
    let test : list_any (bytes_eq name) (names ++ s.key ∷ []) ≡ (list_any (bytes_eq name) names || bytes_eq name s.key) =
    list_any-append (bytes_eq name) names (s.key ∷ []) ∙ ap (λ (b : Bool). list_any (bytes_eq name) names || b) (or-false (bytes_eq name s.key)) in
    let groups : groups_of_site new name ≡ cond (bytes_eq name s.key) s.groups.items (groups_of_site xs name) =
    ap (λ (ys : List (Entry (List ℕ))). groups_of_site ys name) is ∙ groups_of_site-push xs s name in
    let here : (bytes_eq name s.key ≡ true → IsRisingOf (numbers name) s.groups.items) =
    λ same. rw ((bytes_eq-Decides name s.key).0 same) right in
    rw test (added numbers xs new name (list_any (bytes_eq name) names) s.groups.items (bytes_eq name s.key) groups here (was name))

pub name_added : (names : List (List ℕ)) (xs new : List (Entry (List ℕ))) (s : Entry (List ℕ)) → new ≡ xs ++ s ∷ [] → keys_in xs ≡ names → keys_in new ≡ names ++ s.key ∷ []
name_added names xs new s is was =
    ap keys_in is ∙ (map-append (λ (e : Entry (List ℕ)). e.key) xs (s ∷ []) ∙ ap (λ (keys : List (List ℕ)). keys ++ s.key ∷ []) was)

nothing_rises : IsRisingOf [] []
nothing_rises = record { rising = λ k h. absurd (omega (arith, h)); same = λ x. (λ h. h, λ h. h) }

site_or_none : (numbers : List ℕ → List ℕ) (sites : List (Entry (List ℕ))) (name : List ℕ) (there : Bool)
    → (there ≡ false → numbers name ≡ [])
    → IsSiteOf numbers sites name there → IsRisingOf (numbers name) (groups_of_site sites name)
site_or_none numbers sites name true none is = is
site_or_none numbers sites name false none is = rw (is, none refl) nothing_rises

pub all_sites : (numbers : List ℕ → List ℕ) (names : List (List ℕ)) (sites : List (Entry (List ℕ)))
    → ((name : List ℕ) → list_any (bytes_eq name) names ≡ false → numbers name ≡ [])
    → AreSitesOfSome numbers names sites → (name : List ℕ) → IsRisingOf (numbers name) (groups_of_site sites name)
all_sites numbers names sites none some name = site_or_none numbers sites name (list_any (bytes_eq name) names) (none name) (some name)

-- no row holds a client without a site by it
pub no_site : (rows : List (Boundary × ℕ)) → numbers_of (λ boundary. holds_site boundary None) rows ≡ []
no_site [] = refl
no_site ((Subnet net bits, n) ∷ rows) = no_site rows
no_site ((Site site, n) ∷ rows) = no_site rows
no_site ((Prefix6 net bits, n) ∷ rows) = no_site rows
no_site ((Range4 from to, n) ∷ rows) = no_site rows
no_site ((Range6 from to, n) ∷ rows) = no_site rows

pub none_rises : (rows : List (Boundary × ℕ)) → IsRisingOf (numbers_of (λ boundary. holds_site boundary None) rows) []
none_rises rows = rw (no_site rows) nothing_rises

-- numbers added to the list of one site
added_if : (old new : Option (Vec ℕ Global)) (list : Vec ℕ Global) (before more : List ℕ) (here : Bool)
    → new ≡ cond here (Some list) old → list.items ≡ before ++ more → (here ≡ true → numbers_there old ≡ before)
    → numbers_there new ≡ numbers_there old ++ cond here more []
added_if old new list before more true is items was = ap numbers_there is ∙ (items ∙ ap (λ (ys : List ℕ). ys ++ more) (sym (was refl)))
added_if old new list before more false is items was = ap numbers_there is ∙ sym (append-nil (numbers_there old))

pub numbers_added : (old new : Option (Vec ℕ Global)) (list : Vec ℕ Global) (name site before more : List ℕ)
    → new ≡ cond (is_eq (slice_cmp nat_cmp name site)) (Some list) old → list.items ≡ before ++ more → (name ≡ site → numbers_there old ≡ before)
    → numbers_there new ≡ numbers_there old ++ cond (bytes_eq site name) more []
numbers_added old new list name site before more is items was =
    let same : is_eq (slice_cmp nat_cmp name site) ≡ bytes_eq site name = is_eq-slice_cmp name site ∙ nat_list_eq_equiv.symm name site in
    added_if old new list before more (bytes_eq site name) (rw same at is) items (λ here. was (sym ((bytes_eq-Decides site name).0 here)))

-- the numbers that one entry more has
pub entry_numbers : (entries : List (List ℕ × Vec ℕ Global)) (entry : List ℕ × Vec ℕ Global) (site old new : List ℕ)
    → new ≡ old ++ cond (bytes_eq site entry.0) entry.1.items [] → old ≡ numbers_for entries site → new ≡ numbers_for (entries ++ entry ∷ []) site
entry_numbers entries entry site old new is was =
    let some : List ℕ × Vec ℕ Global → List ℕ = λ each. cond (bytes_eq site each.0) each.1.items [] in
    is ∙ (ap (λ (ys : List ℕ). ys ++ some entry) was
    ∙ (ap (λ (ys : List ℕ). numbers_for entries site ++ ys) (sym (append-nil (some entry)))
    ∙ sym (flat_map-append some entries (entry ∷ []))))

-- a name that no entry has
any_key : (name : List ℕ) (names : List (List ℕ)) → list_any (is_at (slice_cmp nat_cmp name)) names ≡ list_any (bytes_eq name) names
any_key name [] = refl
any_key name (other ∷ names) = rw (is_eq-slice_cmp name other, any_key name names) refl

nothing_there : (found : Option (Vec ℕ Global)) → is_some found ≡ false → numbers_there found ≡ []
nothing_there None h = refl
nothing_there (Some list) h = absurd (true≢false h)

pub no_entry : (entries : List (List ℕ × Vec ℕ Global)) (name : List ℕ) → list_any (bytes_eq name) (keys_of entries) ≡ false → numbers_there (lookup (is_at (slice_cmp nat_cmp name)) entries) ≡ []
no_entry entries name none =
    nothing_there (lookup (is_at (slice_cmp nat_cmp name)) entries)
    (is_some-lookup (is_at (slice_cmp nat_cmp name)) entries ∙ (any_key name (keys_of entries) ∙ none))
